use Rattle.sorted_logic.proofs.Sorted.{faultless_is_sorted}
use Rattle.sorted_logic.proofs.sorting_laws.faultless_is_well_sorted.Goals as goal

pub returns : goal.returns
returns c = faultless_is_sorted
