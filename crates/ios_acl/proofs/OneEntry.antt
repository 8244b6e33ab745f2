-- Words spell one entry.
use Rattle.std.proofs.Common.{◌≡◌, ℕ, Bool, true, false, ◌∷◌, ◌++◌, Option, refl, sym, ap, subst, ◌∙◌, codes}
use Rattle.ios_lex.specs.Phrases.{Words, Then}
use Rattle.ios_lex.proofs.WordForms.{words_differ}
use Rattle.ios_lex.proofs.OneCut.{IsOneCut, same_cut, same_first}
use Rattle.ios_acl.specs.declared.entry.Entry.{Entry}
use Rattle.ios_acl.specs.declared.entry.Verdict.{Verdict}
use Rattle.ios_acl.specs.declared.entry.Verdict.TheVariants as verdict
use Rattle.ios_acl.specs.Grammar.{IsVerdict, IsPlace, ArePortsOf, IsStandard, IsExtended, IsEntry, IsRemark, verdict_word}
use Rattle.ios_acl.specs.Parts.{IsEnd}
use Rattle.ios_acl.proofs.OnePart.{place_is_one, proto_is_one, no_place_ports}
use Rattle.ios_acl.proofs.OneEnd.{LacksPorts, source_is_one, ports_of_are_one, end_is_one}

no_other_verdict : (r s : Words) → codes "permit" ∷ r ≡ codes "deny" ∷ s → ⊥
no_other_verdict r s same = words_differ (codes "permit") (codes "deny") refl (same_first (codes "permit") (codes "deny") r s same)

pub verdict_is_one : IsOneCut IsVerdict
verdict_is_one verdict.Permit verdict.Permit p q r s is is' same = same_cut verdict.Permit verdict.Permit p q r s refl (is ∙ sym is') same
verdict_is_one verdict.Permit verdict.Deny p q r s is is' same = absurd (no_other_verdict r s (rw (is, is') at same))
verdict_is_one verdict.Deny verdict.Permit p q r s is is' same = absurd (no_other_verdict s r (sym (rw (is, is') at same)))
verdict_is_one verdict.Deny verdict.Deny p q r s is is' same = same_cut verdict.Deny verdict.Deny p q r s refl (is ∙ sym is') same

-- two entries that look at the same packets
record SameTests (e e' : Entry) : Type 0 where
  pub proto_same : e.proto ≡ e'.proto
  pub src_same : e.src ≡ e'.src
  pub dst_same : e.dst ≡ e'.dst
  pub sport_same : e.sport ≡ e'.sport
  pub dport_same : e.dport ≡ e'.dport
  pub icmp_same : e.icmp ≡ e'.icmp
  pub established_same : e.established ≡ e'.established

same_entry : (e e' : Entry) → e.number ≡ e'.number → e.verdict ≡ e'.verdict → SameTests e e' → e ≡ e'
same_entry e e' number verdict tests = λ i. record {
  number = number i;
  verdict = verdict i;
  proto = tests.proto_same i;
  src = tests.src_same i;
  dst = tests.dst_same i;
  sport = tests.sport_same i;
  dport = tests.dport_same i;
  icmp = tests.icmp_same i;
  established = tests.established_same i;
}

standard_is_one : (e e' : Entry) (words : Words) → IsStandard e words → IsStandard e' words → SameTests e e'
standard_is_one e e' words x y =
    let source = source_is_one e.src e'.src x.source.front y.source.front x.source.back y.source.back x.source.first y.source.first
    x.source.second y.source.second (sym x.source.whole ∙ y.source.whole) in
    record {
      proto_same = x.proto ∙ sym y.proto;
      src_same = source.value;
      dst_same = x.dst ∙ sym y.dst;
      sport_same = x.sport ∙ sym y.sport;
      dport_same = x.dport ∙ sym y.dport;
      icmp_same = x.icmp ∙ sym y.icmp;
      established_same = x.established ∙ sym y.established;
    }

place_lacks_ports : (proto : Option ℕ) (place : ℕ × ℕ) (Rest : Words → Type 0) (words : Words) → Then (IsPlace place) Rest words → LacksPorts proto words
place_lacks_ports proto place Rest words line b tcp tested q s has are same =
    no_place_ports place b tcp tested line.front q line.back s line.first are (sym line.whole ∙ same)

extended_is_one : (b : Bool) (e e' : Entry) (words : Words) → IsExtended b e words → IsExtended b e' words → SameTests e e'
extended_is_one b e e' words x y =
    let x1 = x.second in
    let y1 = y.second in
    let x2 = x1.second in
    let y2 = y1.second in
    let x3 = x2.second in
    let y3 = y2.second in
    let proto = proto_is_one e.proto e'.proto x.front y.front x.back y.back x.first y.first (sym x.whole ∙ y.whole) in
    let src = place_is_one e.src e'.src x1.front y1.front x1.back y1.back x1.first y1.first (sym x1.whole ∙ proto.back ∙ y1.whole) in
    let sport = ports_of_are_one b e.proto e.sport e'.sport x2.front y2.front x2.back y2.back x2.first
    (subst (λ (n : Option ℕ). ArePortsOf b n e'.sport y2.front) (sym proto.value) y2.first)
    (place_lacks_ports e.proto e.dst (IsEnd b e.proto e.dport e.icmp e.established) x2.back x3)
    (place_lacks_ports e.proto e'.dst (IsEnd b e'.proto e'.dport e'.icmp e'.established) y2.back y3)
    (sym x2.whole ∙ src.back ∙ y2.whole) in
    let dst = place_is_one e.dst e'.dst x3.front y3.front x3.back y3.back x3.first y3.first (sym x3.whole ∙ sport.back ∙ y3.whole) in
    let other : IsEnd b e.proto e'.dport e'.icmp e'.established x3.back =
    subst (λ (n : Option ℕ). IsEnd b n e'.dport e'.icmp e'.established x3.back) (sym proto.value)
    (subst (λ (words : Words). IsEnd b e'.proto e'.dport e'.icmp e'.established words) (sym dst.back) y3.second) in
    let end = end_is_one b e.proto e.dport e'.dport e.icmp e'.icmp e.established e'.established x3.back x3.second other in
    record {
      proto_same = proto.value;
      src_same = src.value;
      dst_same = dst.value;
      sport_same = sport.value;
      dport_same = end.tested_same;
      icmp_same = end.icmp_same;
      established_same = end.established_same;
    }

-- words spell one entry, but for its number
pub entry_is_one : (extended b : Bool) (e e' : Entry) (words : Words) → IsEntry extended b e words → IsEntry extended b e' words → e.number ≡ e'.number → e ≡ e'
entry_is_one true b e e' words x y number =
    let verdict = verdict_is_one e.verdict e'.verdict x.front y.front x.back y.back x.first y.first (sym x.whole ∙ y.whole) in
    same_entry e e' number verdict.value (extended_is_one b e e' x.back x.second (subst (IsExtended b e') (sym verdict.back) y.second))
entry_is_one false b e e' words x y number =
    let verdict = verdict_is_one e.verdict e'.verdict x.front y.front x.back y.back x.first y.first (sym x.whole ∙ y.whole) in
    same_entry e e' number verdict.value (standard_is_one e e' x.back x.second (subst (IsStandard e') (sym verdict.back) y.second))

-- an entry begins with its verdict
pub entry_begins : (extended b : Bool) (e : Entry) (words : Words) → IsEntry extended b e words → (more : Words) × (words ≡ verdict_word e.verdict ∷ more)
entry_begins true b e words x = (x.back, x.whole ∙ ap (λ (front : Words). front ++ x.back) x.first)
entry_begins false b e words x = (x.back, x.whole ∙ ap (λ (front : Words). front ++ x.back) x.first)

-- a remark begins with no verdict
pub no_verdict_remark : (v : Verdict) (words more : Words) → words ≡ verdict_word v ∷ more → IsRemark words → ⊥
no_verdict_remark verdict.Permit words more begins remark =
    words_differ (codes "permit") (codes "remark") refl (same_first (codes "permit") (codes "remark") more remark.text (sym begins ∙ remark.whole))
no_verdict_remark verdict.Deny words more begins remark =
    words_differ (codes "deny") (codes "remark") refl (same_first (codes "deny") (codes "remark") more remark.text (sym begins ∙ remark.whole))

pub no_entry_remark : (extended b : Bool) (e : Entry) (words : Words) → IsEntry extended b e words → IsRemark words → ⊥
no_entry_remark extended b e words is remark =
    let begins = entry_begins extended b e words is in
    no_verdict_remark e.verdict words begins.0 begins.1 remark
