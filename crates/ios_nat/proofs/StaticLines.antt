-- Static lines, by their first word, and where they stop.
use Rattle.std.proofs.Common.{◌≡◌, inl, inr, ◌↔◌, ℕ, Bool, true, false, List, [], ◌∷◌, ◌++◌, length, codes, refl, sym, arith}
use Rattle.std.specs.Str.Parse.{IsNumeral}
use Rattle.ios_lex.specs.Address.{IsAddress}
use Rattle.ios_lex.specs.declared.stop.Due.TheVariants as due
use Rattle.ios_lex.specs.declared.stop.Stop.{Stop}
use Rattle.ios_lex.specs.Following.{Begins}
use Rattle.ios_lex.specs.NextWords.{NoName, SomeAddress}
use Rattle.ios_lex.specs.Phrases.{Words}
use Rattle.ios_lex.specs.Refusal.{begins_with_digit}
use Rattle.ios_lex.specs.Stops.{LacksFirst, IsStop}
use Rattle.ios_lex.proofs.Chains.{then_map}
use Rattle.ios_lex.proofs.FirstStops.{lacks_word, stop_at_address}
use Rattle.ios_lex.proofs.Stopping.{stop_behind}
use Rattle.ios_lex.proofs.WordForms.{no_number_address, other_no_address, other_no_number, zero_address, zero_number}
use Rattle.ios_nat.specs.declared.entry.AddressEntry.{AddressEntry}
use Rattle.ios_nat.specs.declared.entry.PortEntry.{PortEntry}
use Rattle.ios_nat.specs.declared.kind.Kind.TheVariants as kinds
use Rattle.ios_nat.specs.Grammar.{IsAddressEntry, IsPortEntry, IsProto, Line}
use Rattle.ios_nat.specs.Parts.{IsGlobalEnd, IsPortEnd, Options, SomeGlobalEnd, SomeGlobalPort, SomeGlobalSide, SomeLocalPort, SomePort, SomePortEnd}

-- some words of each kind
pub some_port : (b : Bool) → SomePort b (codes "0" ∷ [])
some_port b = (0, (codes "0", refl, zero_number 65535, omega arith))

pub some_side : (b : Bool) → SomeAddress b (codes "0.0.0.0" ∷ [])
some_side b = (0, (codes "0.0.0.0", refl, zero_address))

pub some_options : (b : Bool) → Options true true b []
some_options b = tt

pub some_global_port : (b : Bool) → SomeGlobalPort b (codes "0" ∷ [])
some_global_port b = record { front = codes "0" ∷ []; back = []; whole = refl; first = some_port b; second = some_options b }

pub some_global_side : (b : Bool) → SomeGlobalSide b (codes "0.0.0.0" ∷ codes "0" ∷ [])
some_global_side b = record { front = codes "0.0.0.0" ∷ []; back = codes "0" ∷ []; whole = refl; first = some_side b; second = some_global_port b }

pub some_local_port : (b : Bool) → SomeLocalPort b (codes "0" ∷ codes "0.0.0.0" ∷ codes "0" ∷ [])
some_local_port b = record { front = codes "0" ∷ []; back = codes "0.0.0.0" ∷ codes "0" ∷ []; whole = refl; first = some_port b; second = some_global_side b }

-- the values of an entry, forgotten and put together
some_port_end : (b : Bool) (entry : PortEntry) (words : Words) → IsPortEnd entry words → SomePortEnd b words
some_port_end b entry words is =
    then_map (λ x h. (entry.local, h)) (λ x h. then_map (λ x h. (entry.local_port, h)) (λ x h. then_map (λ x h. (entry.global, h)) (λ x h. then_map (λ x h. (entry.global_port, h)) (λ x h. h) x h) x h) x h) words is

some_global_end : (b : Bool) (global : ℕ) (words : Words) → IsGlobalEnd global words → SomeGlobalEnd b words
some_global_end b global words is = then_map (λ x h. (global, h)) (λ x h. h) words is

entry_of_end : (proto : ℕ) (b : Bool) (words : Words) → SomePortEnd b words → (entry : PortEntry) × (entry.proto ≡ proto) × IsPortEnd entry words
entry_of_end proto b words is =
    let behind_local = is.second in
    let behind_port = behind_local.second in
    let behind_global = behind_port.second in (
      record { proto = proto; local = is.first.0; local_port = behind_local.first.0; global = behind_port.first.0; global_port = behind_global.first.0 },
      refl,
      record {
        front = is.front;
        back = is.back;
        whole = is.whole;
        first = is.first.1;
        second = record {
          front = behind_local.front;
          back = behind_local.back;
          whole = behind_local.whole;
          first = behind_local.first.1;
          second = record {
            front = behind_port.front;
            back = behind_port.back;
            whole = behind_port.whole;
            first = behind_port.first.1;
            second = record { front = behind_global.front; back = behind_global.back; whole = behind_global.whole; first = behind_global.first.1; second = behind_global.second };
          };
        };
      },
    )

-- the first word of a line is a protocol or an address
pub proto_word : (proto : ℕ) (front : Words) → IsProto proto front → (word : List ℕ) × (front ≡ word ∷ []) × (begins_with_digit word ≡ false)
proto_word proto front (IsProto.tcp whole is) = (codes "tcp", whole, refl)
proto_word proto front (IsProto.udp whole is) = (codes "udp", whole, refl)

behind_word : (word : List ℕ) (x front back : Words) (other : List ℕ) → word ∷ x ≡ front ++ back → front ≡ other ∷ [] → (other ≡ word) × (back ≡ x)
behind_word word x front back other whole one =
    let longer : word ∷ x ≡ (other ∷ []) ++ back = rw one at whole in
    (cc longer, cc longer)

behind_proto : (proto : ℕ) (word : List ℕ) → IsProto proto (word ∷ []) → (b : Bool) (x : Words) → Line kinds.Static b (word ∷ x) ↔ SomePortEnd b x
behind_proto proto word is b x = (forth, back)
  where
    letter : begins_with_digit word ≡ false
    letter = let w = proto_word proto (word ∷ []) is in let same : word ≡ w.0 = cc (w.1) in rw same w.2

    forth : Line kinds.Static b (word ∷ x) → SomePortEnd b x
    forth (inl (entry, line)) =
        let w = proto_word entry.proto line.front line.first in
        let cut = behind_word word x line.front line.back w.0 line.whole w.1 in
        rw cut.1 at (some_port_end b entry line.back line.second)
    forth (inr (entry, line)) =
        let cut = behind_word word x line.front line.back line.first.0 line.whole line.first.1 in
        absurd (other_no_address word entry.local letter (rw cut.0 at line.first.2))

    back : SomePortEnd b x → Line kinds.Static b (word ∷ x)
    back end =
        let entry = entry_of_end proto b x end in
        inl (entry.0, record { front = word ∷ []; back = x; whole = refl; first = rw entry.1 is; second = entry.2 })

behind_local : (word : List ℕ) (local : ℕ) → IsAddress word local → (b : Bool) (x : Words) → Line kinds.Static b (word ∷ x) ↔ SomeGlobalEnd b x
behind_local word local is b x = (
  forth,
  λ end. inr (
    record { local = local; global = end.first.0 },
    record {
      front = word ∷ [];
      back = x;
      whole = refl;
      first = (word, refl, is);
      second = record { front = end.front; back = end.back; whole = end.whole; first = end.first.1; second = end.second };
    },
  ),
)
  where
    forth : Line kinds.Static b (word ∷ x) → SomeGlobalEnd b x
    forth (inl (entry, line)) =
        let w = proto_word entry.proto line.front line.first in
        let cut = behind_word word x line.front line.back w.0 line.whole w.1 in
        absurd (other_no_address w.0 local w.2 (rw (← cut.0) at is))
    forth (inr (entry, line)) =
        let cut = behind_word word x line.front line.back line.first.0 line.whole line.first.1 in
        rw cut.1 at (some_global_end b entry.global line.back line.second)

pub proto_stop : (proto : ℕ) (words rest : Words) (word : List ℕ) (stop : Stop) → words ≡ word ∷ rest → IsProto proto (word ∷ []) → IsStop NoName SomePortEnd rest stop → IsStop NoName (Line kinds.Static) words stop
proto_stop proto words rest word stop whole is stops = stop_behind (Line kinds.Static) SomePortEnd words (word ∷ []) rest stop whole (behind_proto proto word is) stops

pub local_stop : (words rest : Words) (word : List ℕ) (local : ℕ) (stop : Stop) → words ≡ word ∷ rest → IsAddress word local → IsStop NoName SomeGlobalEnd rest stop → IsStop NoName (Line kinds.Static) words stop
local_stop words rest word local stop whole is stops = stop_behind (Line kinds.Static) SomeGlobalEnd words (word ∷ []) rest stop whole (behind_local word local is) stops

pub proto_read : (entry : PortEntry) (words rest : Words) (word : List ℕ) → words ≡ word ∷ rest → IsProto entry.proto (word ∷ []) → IsPortEnd entry rest → IsPortEntry entry words
proto_read entry words rest word whole is end = record { front = word ∷ []; back = rest; whole = whole; first = is; second = end }

pub local_read : (entry : AddressEntry) (words rest : Words) (word : List ℕ) → words ≡ word ∷ rest → IsAddress word entry.local → IsGlobalEnd entry.global rest → IsAddressEntry entry words
local_read entry words rest word whole is end = record { front = word ∷ []; back = rest; whole = whole; first = (word, refl, is); second = end }

-- a line begins with no other word
no_line_begins : (b : Bool) (word : List ℕ) → (word ≡ codes "tcp" → ⊥) → (word ≡ codes "udp" → ⊥) → ((n : ℕ) → IsAddress word n → ⊥) → Begins (Line kinds.Static b) (word ∷ []) → ⊥
no_line_begins b word no_tcp no_udp no_address (more, inr (entry, line)) =
    let cut = behind_word word more line.front line.back line.first.0 line.whole line.first.1 in
    no_address entry.local (rw cut.0 at line.first.2)
no_line_begins b word no_tcp no_udp no_address (more, inl (entry, line)) = by line.first
  where
    by : IsProto entry.proto line.front → ⊥
    by (IsProto.tcp whole is) = let cut = behind_word word more line.front line.back (codes "tcp") line.whole whole in no_tcp (sym cut.0)
    by (IsProto.udp whole is) = let cut = behind_word word more line.front line.back (codes "udp") line.whole whole in no_udp (sym cut.0)

no_number_line : (b : Bool) (word : List ℕ) → IsNumeral 10 word → Begins (Line kinds.Static b) (word ∷ []) → ⊥
no_number_line b word number =
    no_line_begins b word (λ is. other_no_number word (rw is refl) number) (λ is. other_no_number word (rw is refl) number) (λ n address. no_number_address word n number address)

pub some_line : (b : Bool) → Line kinds.Static b (codes "0.0.0.0" ∷ codes "0.0.0.0" ∷ [])
some_line b = (behind_local (codes "0.0.0.0") 0 zero_address b (codes "0.0.0.0" ∷ [])).1 (record { front = codes "0.0.0.0" ∷ []; back = []; whole = refl; first = some_side b; second = some_options b })

no_empty_line : Line kinds.Static false [] → ⊥
no_empty_line (inl (entry, line)) = let w = proto_word entry.proto line.front line.first in let none : [] ≡ (w.0 ∷ []) ++ line.back = rw w.1 at line.whole in cc none
no_empty_line (inr (entry, line)) = let none : [] ≡ (line.first.0 ∷ []) ++ line.back = rw line.first.1 at line.whole in cc none

pub static_stop : (words : Words) (stop : Stop) → stop.left ≡ length words → stop.due ≡ due.Address → ((b : Bool) → LacksFirst (Line kinds.Static b) words) → IsStop NoName (Line kinds.Static) words stop
static_stop words stop left is lacks =
    stop_at_address (Line kinds.Static) words stop left is (codes "0.0.0.0", (0, zero_address), (codes "0.0.0.0" ∷ [], some_line false))
    (λ h. no_number_line false h.0 h.1 h.2) no_empty_line lacks

pub lacks_static : (words rest : Words) (word : List ℕ) → words ≡ word ∷ rest → (word ≡ codes "tcp" → ⊥) → (word ≡ codes "udp" → ⊥) → ((n : ℕ) → IsAddress word n → ⊥)
    → (b : Bool) → LacksFirst (Line kinds.Static b) words
lacks_static words rest word whole no_tcp no_udp no_address b = lacks_word (Line kinds.Static b) words rest word whole (no_line_begins b word no_tcp no_udp no_address)
