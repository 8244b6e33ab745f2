-- How an argument has to fit.
use Rattle.std.specs.Prelude.{ℕ, Bool}
use Rattle.sorted_logic.specs.declared.check_terms.Fit.{Fit}
use Rattle.sorted_logic.specs.declared.check_terms.Fit.TheVariants as fit
use Rattle.sorted_logic.specs.Signature.{Signature, below}
use Rattle.sorted_logic.specs.Sorting.{one_root}

-- what is asked of the sort of an argument and the required one
abbrev pub fits_by : Signature → Fit → ℕ → ℕ → Bool
fits_by sig fit.Below = below sig
fits_by sig fit.OneRoot = one_root sig
