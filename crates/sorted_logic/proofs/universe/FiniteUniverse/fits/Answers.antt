use Rattle.std.proofs.Common.{◌≡◌, true, false, sym, ◌∙◌}
use Rattle.sorted_logic.proofs.UniverseTests.{sorts_of, fits_exactly}
use Rattle.sorted_logic.proofs.universe.FiniteUniverse.fits.Goals as goal

no : true ≡ false → ⊥
no h = cc

pub returns-then-fits_sorts : goal.returns-then-fits_sorts
returns-then-fits_sorts c = rw c.fits_symbols.ensures
    (fits_exactly c.args.self.now c.args.sig.now (sym c.fits_sorts.ensures ∙ c.if-fits_sorts.true))

pub returns-else-fits_sorts : goal.returns-else-fits_sorts
returns-else-fits_sorts c =
    (λ h. absurd (no (sym h ∙ c.if-fits_sorts.false)), λ h. c.fits_sorts.ensures ∙ sorts_of c.args.self.now c.args.sig.now h)
