use Rattle.certificates.proofs.Absence.{none_holds}
use Rattle.certificates.proofs.HeadTexts.{head_cut, head_is_not_free, head_spelled}
use Rattle.certificates.proofs.head.head_numbers.Goals as goal

pub returns-in_err-version-clause-none : goal.returns-in_err-version-clause-none
returns-in_err-version-clause-none c = none_holds c.from_residual.result (λ version line is. head_is_not_free c.args.words.now version line c.in_err-version.ensures.free is)

pub returns-in_err-number-clause-none : goal.returns-in_err-number-clause-none
returns-in_err-number-clause-none c = none_holds c.from_residual-in_err-number.result (λ version line is.
    c.in_err-number.ensures.none version (head_cut c.args.words.now c.in_ok-version.version.now c.in_ok-version.line.now version line c.in_ok-version.ensures.cut is).0)

pub returns-in_err-number-2-clause-none : goal.returns-in_err-number-2-clause-none
returns-in_err-number-2-clause-none c = none_holds c.from_residual-in_err-number-2.result (λ version line is.
    c.in_err-number-2.ensures.none line (head_cut c.args.words.now c.in_ok-version.version.now c.in_ok-version.line.now version line c.in_ok-version.ensures.cut is).1)

pub returns-clause-found : goal.returns-clause-found
returns-clause-found c =
    head_spelled c.args.words.now c.in_ok-version.version.now c.in_ok-version.line.now c.in_ok-number.field-0 c.in_ok-number-2.field-0 c.in_ok-version.ensures.cut c.in_ok-number.ensures.found c.in_ok-number-2.ensures.found
