use Rattle.std.proofs.Common.{◌≡◌, ◌∷◌, sym, ◌∙◌}
use Rattle.certificates.specs.Text.{numbers_text}
use Rattle.certificates.proofs.ItemTexts.{step_begins, step_rest, step_spelled}
use Rattle.certificates.proofs.items.step.Goals as goal

pub returns-in_default-clause-none : goal.returns-in_default-clause-none
returns-in_default-clause-none c step writable same =
    (rw c.in_default.is at c.in_ok-lits.ensures.none) step.clause (32 ∷ numbers_text step.hints) (step_begins step c.args.line.now writable same)

pub returns-in_default-behind_byte-clause-none : goal.returns-in_default-behind_byte-clause-none
returns-in_default-behind_byte-clause-none c step writable same =
    let found = rw c.in-Some.is at c.in_ok-lits.ensures.found in
    c.in_default-behind_byte.ensures.none (numbers_text step.hints) (sym (step_rest step c.args.line.now c.in-Some.lits.items c.in-Some.rest.now writable same found).1)

pub returns-in_default-2-clause-none : goal.returns-in_default-2-clause-none
returns-in_default-2-clause-none c step writable same =
    let found = rw c.in-Some.is at c.in_ok-lits.ensures.found in
    let rest = (step_rest step c.args.line.now c.in-Some.lits.items c.in-Some.rest.now writable same found).1 in
    let text : 32 ∷ numbers_text step.hints ≡ 32 ∷ c.in-Some-behind_byte.hints.now = rest ∙ c.in-Some-behind_byte.ensures.found in
    (rw c.in_default-2.is at c.in_ok-hints.ensures.none) step.hints writable.hints (cc text)

pub returns-clause-found : goal.returns-clause-found
returns-clause-found c =
    let found = rw c.in-Some.is at c.in_ok-lits.ensures.found in
    let hints = rw c.in-Some-2.is at c.in_ok-hints.ensures.found in
    rw (c.in_ok-from_lits.ensures, c.as_slice.ensures.value, c.of.ensures) (step_spelled c.args.line.now c.in-Some.lits.items c.in-Some.rest.now c.in-Some-behind_byte.hints.now c.in-Some-2.hints.items found c.in-Some-behind_byte.ensures.found hints.0 hints.1)
