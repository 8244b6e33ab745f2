-- The line of a pool, part by part, and where it stops.
use Rattle.std.proofs.Common.{◌≡◌, ◌↔◌, ℕ, Bool, false, List, [], ◌∷◌, ◌++◌, codes, refl, arith}
use Rattle.ios_lex.specs.declared.stop.Stop.{Stop}
use Rattle.ios_lex.specs.Following.{Begins}
use Rattle.ios_lex.specs.NextWords.{IsAddressOf, IsNameOf, NoName, SomeAddress}
use Rattle.ios_lex.specs.Phrases.{Words, Then}
use Rattle.ios_lex.specs.Stops.{BeginsWith, expected_of, IsStop}
use Rattle.ios_lex.proofs.Chains.{then_map}
use Rattle.ios_lex.proofs.LineParts.{address_part, name_part, some_name, stop_behind_first, stop_in_first, stop_of_same}
use Rattle.ios_lex.proofs.OneWord.{one_address}
use Rattle.ios_lex.proofs.Stopping.{IsFirstPart, stop_behind, stop_within}
use Rattle.ios_lex.proofs.WordForms.{zero_address}
use Rattle.ios_nat.specs.declared.kind.Kind.TheVariants as kinds
use Rattle.ios_nat.specs.Grammar.{IsLastOf, IsSize, Line, unmodelled}
use Rattle.ios_nat.specs.Parts.{SomeLast, SomePoolEnd, SomePoolName, SomeRange}
use Rattle.ios_nat.proofs.PoolWords.{last_part, zero_size}

-- a line is a name and a range
line_parts : (b : Bool) (x : Words) → Line kinds.Pool b x ↔ Then (SomePoolName b) (SomeRange b) x
line_parts b x = (
  λ h. then_map (λ y is. (h.0.0, is)) (λ y h'. (h.0.1.0, then_map (λ z is. is) (λ z h''. then_map (λ w is. (h.0.1.1, is)) (λ w is. is) z h'') y h')) x h.1,
  λ h.
      let range = h.second.1 in (
        (h.first.0, (h.second.0, range.second.first.0)),
        record {
          front = h.front;
          back = h.back;
          whole = h.whole;
          first = h.first.1;
          second = record {
            front = range.front;
            back = range.back;
            whole = range.whole;
            first = range.first;
            second = record { front = range.second.front; back = range.second.back; whole = range.second.whole; first = range.second.first.1; second = range.second.second };
          };
        },
      ),
)

-- some range
some_range : (b : Bool) (first : ℕ) (words : Words) → IsAddressOf first words → SomeRange b (words ++ (words ++ (codes "netmask" ∷ codes "0.0.0.0" ∷ [])))
some_range b first words is = (
  first,
  record {
    front = words;
    back = words ++ (codes "netmask" ∷ codes "0.0.0.0" ∷ []);
    whole = refl;
    first = is;
    second = record { front = words; back = codes "netmask" ∷ codes "0.0.0.0" ∷ []; whole = refl; first = (first, (is, λ strict. omega arith)); second = zero_size b };
  },
)

zero_range : (b : Bool) → SomeRange b (codes "0.0.0.0" ∷ codes "0.0.0.0" ∷ codes "netmask" ∷ codes "0.0.0.0" ∷ [])
zero_range b = some_range b 0 (codes "0.0.0.0" ∷ []) (codes "0.0.0.0", refl, zero_address)

first_of_range : (b : Bool) → IsFirstPart (SomeAddress b) (SomeRange b)
first_of_range b = record {
  goes_on = λ words is. (words ++ (codes "netmask" ∷ codes "0.0.0.0" ∷ []), some_range b is.0 words is.1);
  splits = λ words h. (h.1.front, h.1.back, h.1.whole, (h.0, h.1.first));
}

-- behind its first address a range is what may follow this one
behind_first : (first : ℕ) (front : Words) → IsAddressOf first front → (b : Bool) (x : Words) → SomeRange b (front ++ x) ↔ SomePoolEnd first b x
behind_first first front is b x = (forth, λ end. (first, record { front = front; back = x; whole = refl; first = is; second = end }))
  where
    forth : SomeRange b (front ++ x) → SomePoolEnd first b x
    forth h =
        let one = one_address first h.0 front x h.1.front h.1.back is h.1.first h.1.whole in
        rw (one.1, one.0) h.1.second

-- where the line stops

pub stop_in_name : (words : Words) (stop : Stop) → (expected_of stop.due).whole ≡ false → IsStop NoName SomePoolName words stop → IsStop NoName (Line kinds.Pool) words stop
stop_in_name words stop part stops =
    stop_of_same (Line kinds.Pool) (λ b. Then (SomePoolName b) (SomeRange b)) words stop line_parts
    (stop_in_first SomePoolName SomeRange words (codes "0.0.0.0" ∷ codes "0.0.0.0" ∷ codes "netmask" ∷ codes "0.0.0.0" ∷ []) stop (name_part (unmodelled kinds.Pool)) zero_range part stops)

pub stop_behind_name : (name : List ℕ) (words rest : Words) (stop : Stop) → BeginsWith (IsNameOf (unmodelled kinds.Pool) false name) words rest → IsStop NoName SomeRange rest stop → IsStop NoName (Line kinds.Pool) words stop
stop_behind_name name words rest stop begins stops =
    stop_of_same (Line kinds.Pool) (λ b. Then (SomePoolName b) (SomeRange b)) words stop line_parts
    (stop_behind_first SomePoolName SomeRange words rest stop (name_part (unmodelled kinds.Pool)) (some_name (unmodelled kinds.Pool) name words rest begins) stops)

pub stop_in_first_address : (words : Words) (stop : Stop) → (expected_of stop.due).whole ≡ false → IsStop NoName SomeAddress words stop → IsStop NoName SomeRange words stop
stop_in_first_address words stop part stops = stop_within SomeAddress SomeRange words stop first_of_range address_part.free address_part.more part stops

pub stop_behind_first_address : (first : ℕ) (words rest : Words) (stop : Stop) → BeginsWith (IsAddressOf first) words rest → IsStop NoName (SomePoolEnd first) rest stop → IsStop NoName SomeRange words stop
stop_behind_first_address first words rest stop (front, whole, is) stops = stop_behind SomeRange (SomePoolEnd first) words front rest stop whole (behind_first first front is) stops

pub stop_in_last : (first : ℕ) (words : Words) (stop : Stop) → (expected_of stop.due).whole ≡ false → IsStop NoName (SomeLast first) words stop → IsStop NoName (SomePoolEnd first) words stop
stop_in_last first words stop part stops =
    stop_in_first (SomeLast first) IsSize words (codes "netmask" ∷ codes "0.0.0.0" ∷ []) stop (last_part first) zero_size part stops

pub stop_behind_last_address : (first last : ℕ) (words rest : Words) (stop : Stop) → BeginsWith (IsLastOf false first last) words rest → IsStop NoName IsSize rest stop → IsStop NoName (SomePoolEnd first) words stop
stop_behind_last_address first last words rest stop (front, whole, is) stops = stop_behind_first (SomeLast first) IsSize words rest stop (last_part first) (front, whole, (last, is)) stops

pub some_line : Begins (Line kinds.Pool false) []
some_line = (
  codes "1" ∷ codes "0.0.0.0" ∷ codes "0.0.0.0" ∷ codes "netmask" ∷ codes "0.0.0.0" ∷ [],
  (line_parts false (codes "1" ∷ codes "0.0.0.0" ∷ codes "0.0.0.0" ∷ codes "netmask" ∷ codes "0.0.0.0" ∷ [])).1
      (record { front = codes "1" ∷ []; back = codes "0.0.0.0" ∷ codes "0.0.0.0" ∷ codes "netmask" ∷ codes "0.0.0.0" ∷ []; whole = refl; first = (codes "1", (refl, λ strict. (refl, refl))); second = zero_range false }),
)
