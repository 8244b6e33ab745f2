use Rattle.certificates.specs.Text.{lit_text}
use Rattle.certificates.specs.Parts.Entries.{IsWritableLit}
use Rattle.certificates.proofs.Absence.{none_holds}
use Rattle.certificates.proofs.Listed.{entry_of_cut}
use Rattle.certificates.proofs.Entries.{lits_are_entries}
use Rattle.certificates.proofs.words.first_lit.Goals as goal

pub returns-in_err-lit-clause-none : goal.returns-in_err-lit-clause-none
returns-in_err-lit-clause-none c = none_holds c.from_residual-in_err-lit.result (λ l rest begins.
    c.in_err-lit.ensures.none l begins.fits
    (entry_of_cut IsWritableLit lit_text lits_are_entries c.args.text.now c.in_ok-word.word.now c.in_ok-word.rest.now rest l c.in_ok-word.ensures.cut begins))
