use Rattle.std.proofs.Common.{◌≡◌, ◌∙◌, ℕ, ◌+◌}
use Rattle.sorted_logic.specs.declared.sort_scope.SortBlock.{SortBlock}
use Rattle.sorted_logic.specs.Inside.SortRows.{in_block, IsOfSize}
use Rattle.sorted_logic.proofs.SortPlaces.{as_many, in_later, at_the_end}
use Rattle.sorted_logic.proofs.sort_scope.SortBlock.+get.Goals as goal

abbrev HaveHalf : SortBlock → SortBlock → ℕ → Type 0
HaveHalf earlier later size = (half : ℕ) × IsOfSize earlier half × IsOfSize later half × (size ≡ half + (half + 1))

pub returns-then-at-half-2 : goal.returns-then-at-half-2
returns-then-at-half-2 t c =
    let earlier : SortBlock = c.in-Two.earlier.now in
    let later : SortBlock = c.in-Two.later.now in
    let sized : HaveHalf earlier later c.args.size = rw c.in-Two.is at c.requires.sized in
    rw c.in-Two.is (in_later (in_block earlier) (in_block later) c.in-Two.sort sized.0 c.args.size c.args.at
    (as_many earlier sized.0 sized.1) (as_many later sized.0 sized.2) sized.3 c.if-at-half.false c.if-at-half-2.true
    ∙ c.get-then-at-half-2.ensures)

pub returns-else-at-half-2 : goal.returns-else-at-half-2
returns-else-at-half-2 t c =
    let earlier : SortBlock = c.in-Two.earlier.now in
    let later : SortBlock = c.in-Two.later.now in
    let sized : HaveHalf earlier later c.args.size = rw c.in-Two.is at c.requires.sized in
    rw c.in-Two.is (at_the_end (in_block earlier) (in_block later) c.in-Two.sort sized.0 c.args.size c.args.at
    (as_many earlier sized.0 sized.1) (as_many later sized.0 sized.2) sized.3
    c.requires.within c.if-at-half.false c.if-at-half-2.false)
