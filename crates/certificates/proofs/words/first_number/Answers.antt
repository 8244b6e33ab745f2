use Rattle.std.proofs.Common.{arith}
use Rattle.std.specs.Fmt.{decimal}
use Rattle.certificates.specs.Writable.{IsWritableNumber}
use Rattle.certificates.proofs.Absence.{none_holds}
use Rattle.certificates.proofs.Listed.{entry_of_cut}
use Rattle.certificates.proofs.Decimals.{number_is_one}
use Rattle.certificates.proofs.Entries.{numbers_are_entries}
use Rattle.certificates.proofs.words.first_number.Goals as goal

pub returns-in_err-n-clause-none : goal.returns-in_err-n-clause-none
returns-in_err-n-clause-none c = none_holds c.from_residual-in_err-n.result (λ n rest begins.
    c.in_err-n.ensures.none n (record {
      small = begins.fits.1;
      text = entry_of_cut IsWritableNumber decimal numbers_are_entries c.args.text.now c.in_ok-word.word.now c.in_ok-word.rest.now rest n c.in_ok-word.ensures.cut begins;
    }))

pub returns-then-n-eq0-clause-none : goal.returns-then-n-eq0-clause-none
returns-then-n-eq0-clause-none c n rest begins =
    let is = entry_of_cut IsWritableNumber decimal numbers_are_entries c.args.text.now c.in_ok-word.word.now c.in_ok-word.rest.now rest n c.in_ok-word.ensures.cut begins in
    let some = begins.fits.0 in
    absurd (omega (arith, number_is_one c.in_ok-word.word.now c.in_ok-n.n n c.in_ok-n.ensures.found (record { small = begins.fits.1; text = is })))
