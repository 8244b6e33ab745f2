use Rattle.std.proofs.Common.{◌≡◌, ℕ, inl, inr}
use Rattle.std.proofs.lemmas.Result.{err_from_is_err_and}
use Rattle.certificates.specs.Lines.{text_lines}
use Rattle.certificates.specs.Reading.{IsKnownVersion}
use Rattle.certificates.proofs.Refusals.{reads_from_parts, no_head_refused, bad_head_refused, version_refused, items_fault}
use Rattle.certificates.proofs.reader.read_certificate.Goals as goal
use Rattle.certificates.proofs.reader.read_certificate.Goals.{else-version-ne1-via-then-version-ne1+else-version-ne2, else-version-ne1-via-else-version-ne1}

pub returns-in-Err-clause-refused : goal.returns-in-Err-clause-refused
returns-in-Err-clause-refused c = inr (no_head_refused (text_lines c.args.bytes.now) c.in-Err.line c.in-Err.ensures.places)

pub returns-in_default-clause-refused : goal.returns-in_default-clause-refused
returns-in_default-clause-refused c =
    inr (bad_head_refused (text_lines c.args.bytes.now) (text_lines c.in-Ok.head.behind.now) c.in-Ok.head.words.now c.in-Ok.head.number c.in-Ok.ensures.places c.in_default.ensures.none)

pub returns-then-version-ne2-clause-refused : goal.returns-then-version-ne2-clause-refused
returns-then-version-ne2-clause-refused c =
    inr (version_refused (text_lines c.args.bytes.now) (text_lines c.in-Ok.head.behind.now) c.in-Ok.head.words.now c.in-Ok.head.number c.in-Some.version c.in-Some.question c.in-Ok.ensures.places c.in-Some.ensures.found
    (other c.in-Some.version c.if-version-ne1.true c.if-version-ne2.true))
  where
    other : (version : ℕ) → (version ≡ 1 → ⊥) → (version ≡ 2 → ⊥) → IsKnownVersion version → ⊥
    other version none none' (inl one) = none one
    other version none none' (inr two) = none' two

pub returns-in_err-items-clause-refused : goal.returns-in_err-items-clause-refused
returns-in_err-items-clause-refused c =
    let known : IsKnownVersion c.in-Some.version = elim c.else-version-ne1.branch [
      | else-version-ne1-via-then-version-ne1+else-version-ne2 w ↦ inr w.if-version-ne2.false
      | else-version-ne1-via-else-version-ne1 w ↦ inl w.if-version-ne1.false
    ] in
    let p = err_from_is_err_and c.from_residual.result c.from_residual.ensures.1 in
    rw (p.1, p.2) (items_fault c.args.bytes.now (text_lines c.in-Ok.head.behind.now) c.in-Ok.head.words.now c.in-Ok.head.number c.in-Some.version c.in-Some.question c.in_err-items.field-0.0 c.in-Ok.ensures.places c.in-Some.ensures.found known c.in_err-items.ensures.refused)

pub returns-clause-read : goal.returns-clause-read
returns-clause-read c =
    let known : IsKnownVersion c.in-Some.version = elim c.else-version-ne1.branch [
      | else-version-ne1-via-then-version-ne1+else-version-ne2 w ↦ inr w.if-version-ne2.false
      | else-version-ne1-via-else-version-ne1 w ↦ inl w.if-version-ne1.false
    ] in
    rw c.of.ensures (reads_from_parts (text_lines c.args.bytes.now) (text_lines c.in-Ok.head.behind.now) c.in-Ok.head.words.now c.in-Ok.head.number c.in-Some.version c.in-Some.question c.in_ok-items.items.items c.in-Ok.ensures.places c.in-Some.ensures.found known c.in_ok-items.ensures.read)
