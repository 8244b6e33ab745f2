-- The words that are written of an entry spell it.
use Rattle.std.proofs.Common.{◌≡◌, inr, ℕ, ◌+◌, ◌-◌, ◌^◌, ◌<◌, ◌≤◌, ◌==◌, ◌&&◌, nat_le, Bool, true, false, List, [], ◌∷◌, ◌++◌, Option, Some, None, codes, refl, sym, ap, subst, ◌∙◌, arith}
use Rattle.std.specs.Bool.{if◌then◌else◌}
use Rattle.std.specs.Fmt.{decimal}
use Rattle.std.specs.List.{list_all}
use Rattle.std.proofs.lemmas.Bool.{and_parts, and_from, le-leb, leb-true, eqb-true, eqb-false}
use Rattle.std.proofs.lemmas.List.{append-nil}
use Rattle.std.proofs.lemmas.List.Folds.{list_all-append}
use Rattle.ios_lex.specs.Address.{dotted}
use Rattle.ios_lex.specs.Names.{IsProtocol}
use Rattle.ios_lex.specs.Phrases.{Words, Then}
use Rattle.ios_lex.proofs.AddressTexts.{dotted_address, address_small}
use Rattle.ios_lex.proofs.DecimalTexts.{decimal_number}
use Rattle.ios_acl.specs.declared.entry.Entry.{Entry}
use Rattle.ios_acl.specs.declared.entry.Ports.{Ports}
use Rattle.ios_acl.specs.declared.entry.Ports.TheVariants as ports
use Rattle.ios_acl.specs.declared.entry.Verdict.{Verdict}
use Rattle.ios_acl.specs.declared.entry.Verdict.TheVariants as verdict
use Rattle.ios_acl.specs.Grammar.{verdict_word, IsVerdict, IsPlace, IsSource, IsProto, ports_below, ports_above, ArePorts, ArePortsOf, AreMessages, AreMessagesOf, IsEstablishedOf, IsLog, IsStandard, IsExtended, IsEntry}
use Rattle.ios_acl.specs.List.{IsWritable}
use Rattle.ios_acl.specs.Spelling.{place_words, proto_word, range_words, ports_words, code_words, message_words, established_words, match_words, sentence_words, entry_words}
use Rattle.ios_acl.proofs.NameValues.{icmp_is_one, tcp_is_six, udp_is_seventeen, protocol_fits, port_fits, message_fits, is_code, is_message, code_fits, code_within}
use Rattle.ios_acl.proofs.PlainWords.{is_plain, decimal_plain, dotted_plain}

-- the words are some of the kind, and plain
record IsSpelled (Kind : Words → Type 0) (words : Words) : Type 0 where
  kind : Kind words
  plain : list_all is_plain words ≡ true

one_plain : (word : List ℕ) → is_plain word ≡ true → list_all is_plain (word ∷ []) ≡ true
one_plain word plain = and_from (is_plain word) true plain refl

two_plain : (word other : List ℕ) → is_plain word ≡ true → is_plain other ≡ true → list_all is_plain (word ∷ other ∷ []) ≡ true
two_plain word other first second = and_from (is_plain word) (list_all is_plain (other ∷ [])) first (one_plain other second)

three_plain : (word other third : List ℕ) → is_plain word ≡ true → is_plain other ≡ true → is_plain third ≡ true → list_all is_plain (word ∷ other ∷ third ∷ []) ≡ true
three_plain word other third first second last = and_from (is_plain word) (list_all is_plain (other ∷ third ∷ [])) first (two_plain other third second last)

spelled_then : (First Second : Words → Type 0) (front back : Words) → IsSpelled First front → IsSpelled Second back → IsSpelled (Then First Second) (front ++ back)
spelled_then First Second front back first second = record {
  kind = record { front = front; back = back; whole = refl; first = first.kind; second = second.kind };
  plain = list_all-append is_plain front back ∙ and_from (list_all is_plain front) (list_all is_plain back) first.plain second.plain;
}

spelled_last : (First Second : Words → Type 0) (words : Words) → IsSpelled First words → Second [] → IsSpelled (Then First Second) words
spelled_last First Second words first second = record {
  kind = record { front = words; back = []; whole = sym (append-nil words); first = first.kind; second = second };
  plain = first.plain;
}

verdict_spelled : (verdict : Verdict) → IsSpelled (IsVerdict verdict) (verdict_word verdict ∷ [])
verdict_spelled verdict.Permit = record { kind = refl; plain = refl }
verdict_spelled verdict.Deny = record { kind = refl; plain = refl }

-- addresses and wildcards have 32 bits
place_fits : (place : ℕ × ℕ) (words : Words) → IsPlace place words → (place.0 < 2 ^ 32) × (place.1 < 2 ^ 32)
place_fits place words (IsPlace.any whole is) =
    (omega (arith, ap (λ (p : ℕ × ℕ). p.0) is), omega (arith, ap (λ (p : ℕ × ℕ). p.1) is))
place_fits place words (IsPlace.host word whole is zero) = (address_small word place.0 is, omega (arith, zero))
place_fits place words (IsPlace.some word other whole is wildcard) = (address_small word place.0 is, address_small other place.1 wildcard)

source_fits : (place : ℕ × ℕ) (words : Words) → IsSource place words → (place.0 < 2 ^ 32) × (place.1 < 2 ^ 32)
source_fits place words (IsSource.place is) = place_fits place words is
source_fits place words (IsSource.single word whole is zero) = (address_small word place.0 is, omega (arith, zero))

any_place : (place : ℕ × ℕ) → ((place.0 == 0) && (place.1 == 2 ^ 32 - 1)) ≡ true → place ≡ (0, 2 ^ 32 - 1)
any_place (a, w) is =
    let parts = and_parts (a == 0) (w == 2 ^ 32 - 1) is in
    let first : a ≡ 0 = eqb-true a 0 parts.0 in
    let second : w ≡ 2 ^ 32 - 1 = eqb-true w (2 ^ 32 - 1) parts.1 in
    rw (first, second) refl

place_spelled : (place : ℕ × ℕ) → place.0 < 2 ^ 32 → place.1 < 2 ^ 32 → IsSpelled (IsPlace place) (place_words place)
place_spelled place small low = by_host (place.1 == 0) refl
  where
    by_any : (b : Bool) → ((place.0 == 0) && (place.1 == 2 ^ 32 - 1)) ≡ b → IsSpelled (IsPlace place) (if b then codes "any" ∷ [] else dotted place.0 ∷ dotted place.1 ∷ [])
    by_any true is = record { kind = IsPlace.any refl (any_place place is); plain = refl }
    by_any false is = record {
      kind = IsPlace.some (dotted place.0) (dotted place.1) refl (dotted_address place.0 small) (dotted_address place.1 low);
      plain = two_plain (dotted place.0) (dotted place.1) (dotted_plain place.0 small) (dotted_plain place.1 low);
    }

    by_host : (b : Bool) → (place.1 == 0) ≡ b → IsSpelled (IsPlace place) (if b then codes "host" ∷ dotted place.0 ∷ [] else if (place.0 == 0) && (place.1 == 2 ^ 32 - 1) then codes "any" ∷ [] else dotted place.0 ∷ dotted place.1 ∷ [])
    by_host true is = record {
      kind = IsPlace.host (dotted place.0) refl (dotted_address place.0 small) (eqb-true place.1 0 is);
      plain = two_plain (codes "host") (dotted place.0) refl (dotted_plain place.0 small);
    }
    by_host false is = by_any ((place.0 == 0) && (place.1 == 2 ^ 32 - 1)) refl

one_protocol : (word : List ℕ) (n : ℕ) → IsProtocol word n → is_plain word ≡ true → IsSpelled (IsProto (Some n)) (word ∷ [])
one_protocol word n is plain = record { kind = IsProto.one word n refl is refl; plain = one_plain word plain }

protocol_spelled : (n : ℕ) → n ≤ 255 → IsSpelled (IsProto (Some n)) (proto_word (Some n) ∷ [])
protocol_spelled n fits = by_icmp (n == 1) refl
  where
    by_udp : (b : Bool) → (n == 17) ≡ b → IsSpelled (IsProto (Some n)) ((if b then codes "udp" else decimal n) ∷ [])
    by_udp true is = one_protocol (codes "udp") n (subst (IsProtocol (codes "udp")) (sym (eqb-true n 17 is)) udp_is_seventeen) refl
    by_udp false is = one_protocol (decimal n) n (inr (decimal_number 255 n (omega arith) fits)) (decimal_plain n (omega arith))

    by_tcp : (b : Bool) → (n == 6) ≡ b → IsSpelled (IsProto (Some n)) ((if b then codes "tcp" else if n == 17 then codes "udp" else decimal n) ∷ [])
    by_tcp true is = one_protocol (codes "tcp") n (subst (IsProtocol (codes "tcp")) (sym (eqb-true n 6 is)) tcp_is_six) refl
    by_tcp false is = by_udp (n == 17) refl

    by_icmp : (b : Bool) → (n == 1) ≡ b
        → IsSpelled (IsProto (Some n)) ((if b then codes "icmp" else if n == 6 then codes "tcp" else if n == 17 then codes "udp" else decimal n) ∷ [])
    by_icmp true is = one_protocol (codes "icmp") n (subst (IsProtocol (codes "icmp")) (sym (eqb-true n 1 is)) icmp_is_one) refl
    by_icmp false is = by_tcp (n == 6) refl

proto_spelled : (proto : Option ℕ) (words : Words) → IsProto proto words → IsSpelled (IsProto proto) (proto_word proto ∷ [])
proto_spelled None words is = record { kind = IsProto.every refl refl; plain = refl }
proto_spelled (Some n) words (IsProto.every whole none) = absurd (cc)
proto_spelled (Some n) words (IsProto.one word m whole is value) =
    let same : m ≡ n = cc in
    protocol_spelled n (omega (arith, same, protocol_fits word m is))

-- ports of 16 bits, and no range that ends before it begins
abbrev ArePortsFit : Ports → Type 0
ArePortsFit ports.Any = ⊥
ArePortsFit (ports.Within low high) = (low ≤ high) × (high ≤ 65535)
ArePortsFit (ports.Not port) = port ≤ 65535
ArePortsFit ports.Nothing = Unit {0}

below_fits : (port : ℕ) → port ≤ 65535 → ArePortsFit (ports_below port)
below_fits port fits = by_case (port == 0)
  where
    by_case : (b : Bool) → ArePortsFit (if b then ports.Nothing else ports.Within 0 (port - 1))
    by_case true = tt
    by_case false = (omega arith, omega arith)

above_fits : (port : ℕ) → port ≤ 65535 → ArePortsFit (ports_above port)
above_fits port fits = by_case (port == 65535) refl
  where
    by_case : (b : Bool) → (port == 65535) ≡ b → ArePortsFit (if b then ports.Nothing else ports.Within (port + 1) 65535)
    by_case true is = tt
    by_case false is = (omega (arith, eqb-false port 65535 is), omega arith)

ports_fit : (tcp : Bool) (tested : Ports) (words : Words) → ArePorts false tcp tested words → ArePortsFit tested
ports_fit tcp tested words (ArePorts.eq word p whole is value) = rw value (omega arith, port_fits tcp word p is)
ports_fit tcp tested words (ArePorts.neq word p whole is value) = rw value (port_fits tcp word p is)
ports_fit tcp tested words (ArePorts.lt word p whole is value) = rw value (below_fits p (port_fits tcp word p is))
ports_fit tcp tested words (ArePorts.gt word p whole is value) = rw value (above_fits p (port_fits tcp word p is))
ports_fit tcp tested words (ArePorts.range word other p q whole is is' order value) = rw value (order refl, port_fits tcp other q is')

range_spelled : (tcp : Bool) (low high : ℕ) → low ≤ high → high ≤ 65535 → IsSpelled (ArePorts false tcp (ports.Within low high)) (range_words low high)
range_spelled tcp low high order fits = by_case (low == high) refl
  where
    by_case : (b : Bool) → (low == high) ≡ b → IsSpelled (ArePorts false tcp (ports.Within low high)) (if b then codes "eq" ∷ decimal low ∷ [] else codes "range" ∷ decimal low ∷ decimal high ∷ [])
    by_case true is = record {
      kind = ArePorts.eq (decimal low) low refl (inr (decimal_number 65535 low (omega arith) (omega arith))) (ap (ports.Within low) (sym (eqb-true low high is)));
      plain = two_plain (codes "eq") (decimal low) refl (decimal_plain low (omega arith));
    }
    by_case false is = record {
      kind = ArePorts.range (decimal low) (decimal high) low high refl (inr (decimal_number 65535 low (omega arith) (omega arith))) (inr (decimal_number 65535 high (omega arith) fits)) (λ _. order) refl;
      plain = three_plain (codes "range") (decimal low) (decimal high) refl (decimal_plain low (omega arith)) (decimal_plain high (omega arith));
    }

ports_spelled : (tcp : Bool) (tested : Ports) → ArePortsFit tested → IsSpelled (ArePorts false tcp tested) (ports_words tested)
ports_spelled tcp ports.Any fit = absurd fit
ports_spelled tcp (ports.Within low high) fit = range_spelled tcp low high fit.0 fit.1
ports_spelled tcp (ports.Not port) fit = record {
  kind = ArePorts.neq (decimal port) port refl (inr (decimal_number 65535 port (omega arith) fit)) refl;
  plain = two_plain (codes "neq") (decimal port) refl (decimal_plain port (omega arith));
}
ports_spelled tcp ports.Nothing fit = record {
  kind = ArePorts.lt (decimal 0) 0 refl (inr (decimal_number 65535 0 (omega arith) (omega arith))) refl;
  plain = two_plain (codes "lt") (decimal 0) refl (decimal_plain 0 (omega arith));
}

ports_of_spelled : (proto : Option ℕ) (tested : Ports) (words : Words) → ArePortsOf false proto tested words → IsSpelled (ArePortsOf false proto tested) (ports_words tested)
ports_of_spelled proto tested words (ArePortsOf.none whole value) = rw value (record { kind = ArePortsOf.none refl refl; plain = refl })
ports_of_spelled proto tested words (ArePortsOf.test tcp is are) =
    let spelled = ports_spelled tcp tested (ports_fit tcp tested words are) in
    record { kind = ArePortsOf.test tcp is spelled.kind; plain = spelled.plain }

messages_fit : (message : ℕ × Option ℕ) (words : Words) → AreMessages message words → is_message message ≡ true
messages_fit message words (AreMessages.one word whole is) = message_fits word message is
messages_fit message words (AreMessages.code word other n whole is is' value) =
    and_from (nat_le message.0 255) (is_code message.1) (le-leb message.0 255 is.within) (rw value (code_fits n is'.within))

message_spelled : (message : ℕ × Option ℕ) → is_message message ≡ true → IsSpelled (AreMessages message) (decimal message.0 ∷ code_words message.1)
message_spelled (kind, None) fits =
    let small = leb-true kind 255 (and_parts (nat_le kind 255) (is_code None) fits).0 in
    record {
      kind = AreMessages.one (decimal kind) refl (inr (decimal_number 255 kind (omega arith) small, refl));
      plain = one_plain (decimal kind) (decimal_plain kind (omega arith));
    }
message_spelled (kind, Some n) fits =
    let parts = and_parts (nat_le kind 255) (is_code (Some n)) fits in
    let small = leb-true kind 255 parts.0 in
    let low = code_within n parts.1 in
    record {
      kind = AreMessages.code (decimal kind) (decimal n) n refl (decimal_number 255 kind (omega arith) small) (decimal_number 255 n (omega arith) low) refl;
      plain = two_plain (decimal kind) (decimal n) (decimal_plain kind (omega arith)) (decimal_plain n (omega arith));
    }

messages_of_spelled : (proto : Option ℕ) (icmp : Option (ℕ × Option ℕ)) (words : Words) → AreMessagesOf proto icmp words → IsSpelled (AreMessagesOf proto icmp) (message_words icmp)
messages_of_spelled proto icmp words (AreMessagesOf.none whole value) = rw value (record { kind = AreMessagesOf.none refl refl; plain = refl })
messages_of_spelled proto icmp words (AreMessagesOf.some message is are value) =
    let spelled = message_spelled message (messages_fit message words are) in
    rw value (record { kind = AreMessagesOf.some message is spelled.kind refl; plain = spelled.plain })

established_spelled : (proto : Option ℕ) (established : Bool) (words : Words) → IsEstablishedOf proto established words → IsSpelled (IsEstablishedOf proto established) (established_words established)
established_spelled proto established words (IsEstablishedOf.none whole value) = rw value (record { kind = IsEstablishedOf.none refl refl; plain = refl })
established_spelled proto established words (IsEstablishedOf.some is whole value) = rw value (record { kind = IsEstablishedOf.some is refl refl; plain = refl })

extended_spelled : (e : Entry) (words : Words) → IsExtended false e words → IsSpelled (IsExtended false e) (match_words true e)
extended_spelled e words is =
    let source = is.second in
    let sport = source.second in
    let destination = sport.second in
    let dport = destination.second in
    let icmp = dport.second in
    let established = icmp.second in
    let src = place_fits e.src source.front source.first in
    let dst = place_fits e.dst destination.front destination.first in
    spelled_then _ _ (proto_word e.proto ∷ []) _ (proto_spelled e.proto is.front is.first)
    (spelled_then _ _ (place_words e.src) _ (place_spelled e.src src.0 src.1)
    (spelled_then _ _ (ports_words e.sport) _ (ports_of_spelled e.proto e.sport sport.front sport.first)
    (spelled_then _ _ (place_words e.dst) _ (place_spelled e.dst dst.0 dst.1)
    (spelled_then _ _ (ports_words e.dport) _ (ports_of_spelled e.proto e.dport dport.front dport.first)
    (spelled_then _ _ (message_words e.icmp) _ (messages_of_spelled e.proto e.icmp icmp.front icmp.first)
    (spelled_last _ _ (established_words e.established) (established_spelled e.proto e.established established.front established.first) (IsLog.none refl)))))))

standard_spelled : (e : Entry) (words : Words) → IsStandard e words → IsSpelled (IsStandard e) (match_words false e)
standard_spelled e words is =
    let fits = source_fits e.src is.source.front is.source.first in
    let place = place_spelled e.src fits.0 fits.1 in
    let source = spelled_last (IsSource e.src) (IsLog false) (place_words e.src) (record { kind = IsSource.place place.kind; plain = place.plain }) (IsLog.none refl) in
    record {
      kind = record { source = source.kind; proto = is.proto; dst = is.dst; sport = is.sport; dport = is.dport; icmp = is.icmp; established = is.established };
      plain = source.plain;
    }

sentence_spelled : (extended : Bool) (e : Entry) (words : Words) → IsEntry extended false e words → IsSpelled (IsEntry extended false e) (sentence_words extended e)
sentence_spelled true e words is = spelled_then _ _ (verdict_word e.verdict ∷ []) (match_words true e) (verdict_spelled e.verdict) (extended_spelled e is.back is.second)
sentence_spelled false e words is = spelled_then _ _ (verdict_word e.verdict ∷ []) (match_words false e) (verdict_spelled e.verdict) (standard_spelled e is.back is.second)

pub sentence_is_entry : (extended : Bool) (e : Entry) → IsWritable extended e → IsEntry extended false e (sentence_words extended e)
sentence_is_entry extended e writable = (sentence_spelled extended e writable.words writable.spelled).kind

pub entry_plain : (extended : Bool) (e : Entry) → IsWritable extended e → list_all is_plain (entry_words extended e) ≡ true
entry_plain extended e writable =
    and_from (is_plain (decimal e.number)) (list_all is_plain (sentence_words extended e)) (decimal_plain e.number (omega (arith, writable.small))) (sentence_spelled extended e writable.words writable.spelled).plain
