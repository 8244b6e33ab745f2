-- The parts of an entry of an extended list, one behind the other, and what may stand behind each.
use Rattle.std.proofs.Common.{◌≡◌, ◌⊎◌, inl, inr, ◌↔◌, ℕ, Bool, true, false, List, [], ◌∷◌, ◌++◌, Option, None, codes, refl, sym}
use Rattle.ios_lex.specs.Phrases.{Words, Then}
use Rattle.ios_lex.specs.Refusal.{begins_with_digit, is_among}
use Rattle.ios_lex.proofs.Chains.{cut_behind, then_map}
use Rattle.ios_lex.proofs.Stopping.{IsOptionalPart}
use Rattle.ios_lex.proofs.WordForms.{address_digit}
use Rattle.ios_acl.specs.declared.entry.Entry.{Entry}
use Rattle.ios_acl.specs.declared.entry.Ports.{Ports}
use Rattle.ios_acl.specs.declared.entry.Ports.TheVariants as ports
use Rattle.ios_acl.specs.declared.entry.Verdict.TheVariants as verdict
use Rattle.ios_acl.specs.Grammar.{IsPlace, IsProto, ArePorts, ArePortsOf, AreMessagesOf, IsEstablishedOf, IsLog, IsBehindProto}
use Rattle.ios_acl.specs.Parts.{port_words, SomeEnd, SomeExtended, SomePlace, SomePortsOf}
use Rattle.ios_acl.proofs.OnePart.{proto_is_one, ports_begin, ports_word, ports_word_among, ports_word_letter}
use Rattle.ios_acl.proofs.PortWords.{more_ports}
use Rattle.ios_acl.proofs.PrefixFree.{ports_of_prefix_free}

-- what may stand behind the ports of the source, behind the source, and behind the protocol
abbrev pub BehindPorts : Option ℕ → Bool → Words → Type 0
BehindPorts proto backward = Then (SomePlace backward) (SomeEnd proto backward)

abbrev pub PerhapsPorts : Option ℕ → Bool → Words → Type 0
PerhapsPorts proto backward words = (tested : Ports) × ArePortsOf backward proto tested words

abbrev pub BehindSource : Option ℕ → Bool → Words → Type 0
BehindSource proto backward = Then (PerhapsPorts proto backward) (BehindPorts proto backward)

abbrev pub BehindProto : Option ℕ → Bool → Words → Type 0
BehindProto proto backward = Then (SomePlace backward) (BehindSource proto backward)

-- some words of each kind
some_place : (b : Bool) → SomePlace b (codes "any" ∷ [])
some_place b = ((0, 4294967295), IsPlace.any refl refl)

pub some_end : (proto : Option ℕ) (b : Bool) → SomeEnd proto b []
some_end proto b = (
  ports.Any,
  None,
  false,
  record {
    front = [];
    back = [];
    whole = refl;
    first = ArePortsOf.none refl refl;
    second = record {
      front = [];
      back = [];
      whole = refl;
      first = AreMessagesOf.none refl refl;
      second = record { front = []; back = []; whole = refl; first = IsEstablishedOf.none refl refl; second = IsLog.none refl };
    };
  },
)

pub some_behind_ports : (proto : Option ℕ) (b : Bool) → BehindPorts proto b (codes "any" ∷ [])
some_behind_ports proto b = record { front = codes "any" ∷ []; back = []; whole = refl; first = some_place b; second = some_end proto b }

pub some_behind_source : (proto : Option ℕ) (b : Bool) → BehindSource proto b (codes "any" ∷ [])
some_behind_source proto b = record { front = []; back = codes "any" ∷ []; whole = refl; first = (ports.Any, ArePortsOf.none refl refl); second = some_behind_ports proto b }

pub some_behind_proto : (proto : Option ℕ) (b : Bool) → BehindProto proto b (codes "any" ∷ codes "any" ∷ [])
some_behind_proto proto b = record { front = codes "any" ∷ []; back = codes "any" ∷ []; whole = refl; first = some_place b; second = some_behind_source proto b }

-- an entry is its protocol and what stands behind it
behind_proto_of : (b : Bool) (entry : Entry) (words : Words) → IsBehindProto b entry words → BehindProto entry.proto b words
behind_proto_of b entry words h =
    then_map (λ x is. (entry.src, is)) (λ x h. then_map (λ y is. (entry.sport, is)) (λ y h. then_map (λ z is. (entry.dst, is)) (λ z h. (entry.dport, entry.icmp, entry.established, h)) y h) x h) words h

pub behind_proto : (proto : Option ℕ) (part : Words) → IsProto proto part → (b : Bool) (x : Words) → SomeExtended b (part ++ x) ↔ BehindProto proto b x
behind_proto proto part is b x = (forth, back)
  where
    forth : SomeExtended b (part ++ x) → BehindProto proto b x
    forth h =
        let cut = proto_is_one proto h.0.proto part h.1.front x h.1.back is h.1.first h.1.whole in
        rw (cut.value, cut.back) (behind_proto_of b h.0 h.1.back h.1.second)

    back : BehindProto proto b x → SomeExtended b (part ++ x)
    back h =
        let ports_and = h.second in
        let place_and = ports_and.second in
        let entry : Entry = record {
          number = 0;
          verdict = verdict.Permit;
          proto = proto;
          src = h.first.0;
          dst = place_and.first.0;
          sport = ports_and.first.0;
          dport = place_and.second.0;
          icmp = place_and.second.1;
          established = place_and.second.2;
        } in (
          entry,
          record {
            front = part;
            back = x;
            whole = refl;
            first = is;
            second = record {
              front = h.front;
              back = h.back;
              whole = h.whole;
              first = h.first.1;
              second = record {
                front = ports_and.front;
                back = ports_and.back;
                whole = ports_and.whole;
                first = ports_and.first.1;
                second = record { front = place_and.front; back = place_and.back; whole = place_and.whole; first = place_and.first.1; second = place_and.second.3 };
              };
            };
          },
        )

-- a test is one where ranges may be backward
pub ports_loosened : (proto : Option ℕ) (b : Bool) (words : Words) → SomePortsOf proto false words → SomePortsOf proto b words
ports_loosened proto true words (tcp, is, test) = (tcp, is, more_ports tcp words test)
ports_loosened proto false words test = test

-- the first word of a test, and of a place
pub test_begins : (b tcp : Bool) (tested : Ports) (word : List ℕ) (more : Words) → ArePorts b tcp tested (word ∷ more) → (is_among port_words word ≡ true) × (begins_with_digit word ≡ false)
test_begins b tcp tested word more are =
    let begin = ports_begin b tcp tested (word ∷ more) are in
    let same : word ≡ ports_word b tcp tested (word ∷ more) are = cc (begin.1) in
    (rw same (ports_word_among b tcp tested (word ∷ more) are), rw same (ports_word_letter b tcp tested (word ∷ more) are))

no_test_place : (place : ℕ × ℕ) (word : List ℕ) (more front back : Words) → is_among port_words word ≡ true → begins_with_digit word ≡ false → IsPlace place front → word ∷ more ≡ front ++ back → ⊥
no_test_place place word more front back among letter (IsPlace.any whole is) same =
    let first : word ≡ codes "any" = cc (rw whole at same) in
    let other = rw first at among in cc
no_test_place place word more front back among letter (IsPlace.host word' whole address zero) same =
    let first : word ≡ codes "host" = cc (rw whole at same) in
    let other = rw first at among in cc
no_test_place place word more front back among letter (IsPlace.some word' other whole address wildcard) same =
    let first : word' ≡ word = cc (rw whole at same) in
    let digit = address_digit word place.0 (rw first at address) in cc

-- the ports of the source may be left out
pub optional_ports : (proto : Option ℕ) (b : Bool) → IsOptionalPart (SomePortsOf proto b) (BehindPorts proto b) (BehindSource proto b)
optional_ports proto b = record {
  goes_on = λ words part. (codes "any" ∷ [], record { front = words; back = codes "any" ∷ []; whole = refl; first = (part.2.0, ArePortsOf.test part.0 part.1 part.2.1); second = some_behind_ports proto b });
  without = λ words other. record { front = []; back = words; whole = refl; first = (ports.Any, ArePortsOf.none refl refl); second = other };
  splits = λ words line. splits words line.front line.back line.first.0 line.whole line.first.1 line.second;
  apart = λ word part other.
      let forms = test_begins b part.1.0 part.1.2.0 word part.0 part.1.2.1 in
      no_test_place other.1.first.0 word other.0 other.1.front other.1.back forms.0 forms.1 other.1.first.1 other.1.whole;
  some = λ part. let begin = ports_begin b part.0 part.2.0 [] part.2.1 in cc (begin.1);
}
  where
    splits : (words front back : Words) (tested : Ports) → words ≡ front ++ back → ArePortsOf b proto tested front → BehindPorts proto b back
        → BehindPorts proto b words ⊎ ((front : Words) × (back : Words) × (words ≡ front ++ back) × SomePortsOf proto b front)
    splits words front back tested whole (ArePortsOf.none none value) second = inl (rw (whole, none) second)
    splits words front back tested whole (ArePortsOf.test tcp is are) second = inr (front, back, whole, (tcp, is, (tested, are)))

pub behind_ports : (proto : Option ℕ) (part : Words) → SomePortsOf proto false part → (b : Bool) (x : Words) → BehindSource proto b (part ++ x) ↔ BehindPorts proto b x
behind_ports proto part is b x = (λ h. forth h.front h.back h.first.0 h.whole h.first.1 h.second, back)
  where
    not_left_out : (words : Words) → SomePortsOf proto b words → BehindPorts proto b (words ++ x) → ⊥
    not_left_out [] is other = (optional_ports proto b).some is
    not_left_out (word ∷ more) is other = (optional_ports proto b).apart word (more, is) (more ++ x, other)

    forth : (front back : Words) (tested : Ports) → part ++ x ≡ front ++ back → ArePortsOf b proto tested front → BehindPorts proto b back → BehindPorts proto b x
    forth front back tested whole (ArePortsOf.none none value) second =
        let same : back ≡ part ++ x = rw none at (sym whole) in
        absurd (not_left_out part (ports_loosened proto b part is) (rw same at second))
    forth front back tested whole (ArePortsOf.test tcp is' are) second =
        let cut = cut_behind (SomePortsOf proto b) (ports_of_prefix_free proto b) part x front back (ports_loosened proto b part is) (tcp, is', (tested, are)) whole in
        rw cut second

    back : BehindPorts proto b x → BehindSource proto b (part ++ x)
    back second = let test = ports_loosened proto b part is in
        record { front = part; back = x; whole = refl; first = (test.2.0, ArePortsOf.test test.0 test.1 test.2.1); second = second }
