-- The sorts of variables in blocks of growing size, so that one of them is found in few steps.
use Rattle.std.specs.Prelude.{◌≡◌, ◌+◌, ℕ, List, [], ◌∷◌, ◌++◌}
use Rattle.sorted_logic.specs.declared.sort_scope.SortBlock.{SortBlock, One, Two'}
use Rattle.sorted_logic.specs.declared.sort_scope.SortRow.{SortRow, Given, More'}
use Rattle.sorted_logic.specs.declared.term.Sort.{Sort}

abbrev pub in_block : SortBlock → List Sort
in_block (One sort) = sort ∷ []
in_block (Two' p earlier q later sort) = in_block earlier ++ (in_block later ++ sort ∷ [])

-- a block of so many sorts has two blocks of one size in it, or is of one sort
abbrev pub IsOfSize : SortBlock → ℕ → Type 0
IsOfSize (One sort) size = size ≡ 1
IsOfSize (Two' p earlier q later sort) size =
    (half : ℕ) × IsOfSize earlier half × IsOfSize later half × (size ≡ half + (half + 1))

abbrev pub in_row : SortRow → List Sort
in_row (Given sorts) = sorts.now
in_row (More' p before block size) = in_row before ++ in_block block.now

-- each block has the size that stands beside it
abbrev pub AreOfSize : SortRow → Type 0
AreOfSize (Given sorts) = Unit {0}
AreOfSize (More' p before block size) = AreOfSize before × IsOfSize block.now size
