-- Where words stop to begin an entry of an extended list, part by part, and what they spell where they do not.
use Rattle.std.proofs.Common.{◌≡◌, ◌⊎◌, inl, inr, ◌↔◌, ℕ, ◌<◌, Bool, true, false, not, List, [], ◌∷◌, ◌++◌, length, Option, codes, refl, sym, ap, ◌∙◌, arith, length-append}
use Rattle.std.specs.List.{list_all}
use Rattle.std.proofs.lemmas.List.Elements.{All-contains}
use Rattle.std.proofs.lemmas.List.Sums.{AllPass-from_list_all}
use Rattle.ios_lex.specs.Names.{icmp_messages, IsMessageName}
use Rattle.ios_lex.specs.declared.stop.Stop.{Stop}
use Rattle.ios_lex.specs.Phrases.{Words, Then}
use Rattle.ios_lex.specs.Following.{Begins, IsAddressWord, IsNumberWord}
use Rattle.ios_lex.specs.Refusal.{is_among}
use Rattle.ios_lex.specs.Stops.{BeginsWith, expected_of, LacksFirst}
use Rattle.ios_lex.proofs.LineParts.{IsPart, stop_behind_first, stop_in_first}
use Rattle.ios_lex.proofs.Stopping.{IsFirstPart, stop_behind, stop_within, stop_within_optional, stop_without}
use Rattle.ios_lex.proofs.WordForms.{address_digit, numeral_digit}
use Rattle.ios_acl.specs.declared.entry.Entry.{Entry}
use Rattle.ios_acl.specs.declared.entry.Ports.{Ports}
use Rattle.ios_acl.specs.declared.entry.Ports.TheVariants as ports
use Rattle.ios_acl.specs.Grammar.{IsPlace, IsProto, ArePorts, ArePortsOf, IsExtended, with_ports}
use Rattle.ios_acl.specs.Stops.{IsStop}
use Rattle.ios_acl.specs.Parts.{IsEnd, port_words, SomeExtended, SomePlace, SomePorts, SomePortsOf, SomeProto}
use Rattle.ios_acl.proofs.ExtendedParts.{BehindPorts, BehindProto, BehindSource, behind_ports, behind_proto, optional_ports, ports_loosened, some_behind_proto, test_begins}
use Rattle.ios_acl.proofs.OneEnd.{tcp_is_one}
use Rattle.ios_acl.proofs.OnePart.{ports_begin}
use Rattle.ios_acl.proofs.PrefixFree.{place_prefix_free, ports_of_prefix_free, proto_prefix_free}

-- the parts with which a line begins
first_proto : (b : Bool) → IsFirstPart (SomeProto b) (SomeExtended b)
first_proto b = record {
  goes_on = λ words part. (codes "any" ∷ codes "any" ∷ [], (behind_proto part.0 words part.1 b (codes "any" ∷ codes "any" ∷ [])).1 (some_behind_proto part.0 b));
  splits = λ words line. (line.1.front, line.1.back, line.1.whole, (line.0.proto, line.1.first));
}

-- the name of a message is no word of a test of ports
no_test_message : (word : List ℕ) → IsMessageName word → is_among port_words word ≡ true → ⊥
unfolding icmp_messages
no_test_message word is among =
    let differ : list_all (λ (entry : List ℕ × (ℕ × Option ℕ)). not (is_among port_words entry.0)) icmp_messages ≡ true = refl in
    let other = All-contains (λ (entry : List ℕ × (ℕ × Option ℕ)). not (is_among port_words entry.0) ≡ true) icmp_messages (word, is.0) (AllPass-from_list_all (λ entry. not (is_among port_words entry.0)) icmp_messages differ) is.1 in
    let clash = rw among at other in
    cc

no_test_form : (proto : Option ℕ) (word : List ℕ) → IsAddressWord word ⊎ IsNumberWord word ⊎ IsMessageName word → Begins (SomePortsOf proto false) (word ∷ []) → ⊥
no_test_form proto word form (more, (tcp, is, (tested, are))) = by form
  where
    by : IsAddressWord word ⊎ IsNumberWord word ⊎ IsMessageName word → ⊥
    by (inl address) = let digit = address_digit word address.0 address.1 in let other = (test_begins false tcp tested word more are).1 in cc
    by (inr (inl number)) = let digit = numeral_digit word number in let other = (test_begins false tcp tested word more are).1 in cc
    by (inr (inr name)) = no_test_message word name (test_begins false tcp tested word more are).0

-- the protocol, and what stands behind it
pub stop_in_proto : (words : Words) (stop : Stop) → (expected_of stop.due).whole ≡ false → IsStop SomeProto words stop → IsStop SomeExtended words stop
stop_in_proto words stop part stops = stop_within SomeProto SomeExtended words stop first_proto proto_prefix_free (λ x h. h) part stops

pub stop_behind_proto : (proto : Option ℕ) (words rest : Words) (stop : Stop) → BeginsWith (IsProto proto) words rest → IsStop (BehindProto proto) rest stop → IsStop SomeExtended words stop
stop_behind_proto proto words rest stop read stops =
    stop_behind SomeExtended (BehindProto proto) words read.0 rest stop read.1 (behind_proto proto read.0 read.2) stops

-- the source or the destination, and what stands behind it
place_part : IsPart SomePlace
place_part = record { free = place_prefix_free; more = λ x is. is }

pub stop_in_place : (Rest : Bool → Words → Type 0) (words some : Words) (stop : Stop) → ((b : Bool) → Rest b some) → (expected_of stop.due).whole ≡ false
    → IsStop SomePlace words stop → IsStop (λ b. Then (SomePlace b) (Rest b)) words stop
stop_in_place Rest words some stop is part stops = stop_in_first SomePlace Rest words some stop place_part is part stops

pub stop_behind_place : (Rest : Bool → Words → Type 0) (place : ℕ × ℕ) (words rest : Words) (stop : Stop) → BeginsWith (IsPlace place) words rest
    → IsStop Rest rest stop → IsStop (λ b. Then (SomePlace b) (Rest b)) words stop
stop_behind_place Rest place words rest stop (front, whole, is) stops = stop_behind_first SomePlace Rest words rest stop place_part (front, whole, (place, is)) stops

-- the ports of the source, and what stands behind them or where they are left out
pub stop_in_ports : (proto : Option ℕ) (words : Words) (stop : Stop) → (expected_of stop.due).whole ≡ false → stop.left < length words
    → IsStop (SomePortsOf proto) words stop → IsStop (BehindSource proto) words stop
stop_in_ports proto words stop part later stops =
    stop_within_optional (SomePortsOf proto) (BehindPorts proto) (BehindSource proto) words stop (optional_ports proto) (ports_of_prefix_free proto) (ports_loosened proto true) part later stops

pub stop_behind_ports : (proto : Option ℕ) (tested : Ports) (words rest : Words) (stop : Stop) → BeginsWith (ArePortsOf false proto tested) words rest
    → (rest ≡ words → LacksFirst (SomePortsOf proto true) words) → IsStop (BehindPorts proto) rest stop → IsStop (BehindSource proto) words stop
stop_behind_ports proto tested words rest stop read lacks stops = by read.2
  where
    by : ArePortsOf false proto tested read.0 → IsStop (BehindSource proto) words stop
    by (ArePortsOf.none none value) =
        let same : words ≡ rest = rw none at read.1 in
        stop_without (SomePortsOf proto) (BehindPorts proto) (BehindSource proto) words stop (optional_ports proto) (ports_loosened proto true) (lacks (sym same)) (no_test_form proto) (rw same stops)
    by (ArePortsOf.test tcp is are) =
        stop_behind (BehindSource proto) (BehindPorts proto) words read.0 rest stop read.1 (behind_ports proto read.0 (tcp, is, (tested, are))) stops

-- all parts one behind the other
pub read_extended : (entry : Entry) (words first second third end : Words) → BeginsWith (IsProto entry.proto) words first → BeginsWith (IsPlace entry.src) first second
    → BeginsWith (ArePortsOf false entry.proto entry.sport) second third → BeginsWith (IsPlace entry.dst) third end
    → IsEnd false entry.proto entry.dport entry.icmp entry.established end → IsExtended false entry words
read_extended entry words first second third end proto source ports destination is_end = record {
  front = proto.0;
  back = first;
  whole = proto.1;
  first = proto.2;
  second = record {
    front = source.0;
    back = second;
    whole = source.1;
    first = source.2;
    second = record {
      front = ports.0;
      back = third;
      whole = ports.1;
      first = ports.2;
      second = record { front = destination.0; back = end; whole = destination.1; first = destination.2; second = is_end };
    };
  };
}

-- a test of the ports of a protocol that has them
pub stop_in_test : (tcp : Bool) (proto : Option ℕ) (words : Words) (stop : Stop) → proto ≡ with_ports tcp → IsStop (SomePorts tcp) words stop → IsStop (SomePortsOf proto) words stop
stop_in_test tcp proto words stop is stops = stop_behind (SomePortsOf proto) (SomePorts tcp) words [] words stop refl same stops
  where
    same : (b : Bool) (x : Words) → SomePortsOf proto b x ↔ SomePorts tcp b x
    same b x = (λ h. let one = tcp_is_one h.0 tcp (sym h.1 ∙ is) in rw one at h.2, λ h. (tcp, is, h))

pub test_read : (tcp : Bool) (proto : Option ℕ) (tested : Ports) (words rest : Words) → proto ≡ with_ports tcp
    → BeginsWith (ArePorts false tcp tested) words rest ⊎ (tested ≡ ports.Any) × (rest ≡ words) × LacksFirst (SomePorts tcp true) words
    → BeginsWith (ArePortsOf false proto tested) words rest
test_read tcp proto tested words rest is (inl read) = (read.0, read.1, ArePortsOf.test tcp is read.2)
test_read tcp proto tested words rest is (inr (none, same, lacks)) = ([], sym same, ArePortsOf.none refl none)

pub test_skipped : (tcp : Bool) (proto : Option ℕ) (tested : Ports) (words rest : Words) → proto ≡ with_ports tcp
    → BeginsWith (ArePorts false tcp tested) words rest ⊎ (tested ≡ ports.Any) × (rest ≡ words) × LacksFirst (SomePorts tcp true) words
    → rest ≡ words → LacksFirst (SomePortsOf proto true) words
test_skipped tcp proto tested words rest is (inl (front, whole, are)) unchanged = absurd (no_test_left front are whole)
  where
    no_test_left : (front : Words) → ArePorts false tcp tested front → words ≡ front ++ rest → ⊥
    no_test_left [] are whole = let begin = ports_begin false tcp tested [] are in cc (begin.1)
    no_test_left (word ∷ more) are whole = omega (arith, ap length (rw unchanged at whole), length-append more words)
test_skipped tcp proto tested words rest is (inr (none, same, lacks)) unchanged = λ word more whole begins.
    let one = tcp_is_one begins.1.0 tcp (sym begins.1.1 ∙ is) in
    lacks word more whole (begins.0, rw one at begins.1.2)
