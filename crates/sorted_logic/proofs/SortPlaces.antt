-- How many sorts are in a block, and where they stand.
use Rattle.std.specs.Prelude.{◌≡◌, ℕ, ◌+◌, ◌-◌, ◌/◌, ◌<◌, ◌≤◌, List, [], ◌∷◌, ◌++◌, Some, length, slice_get}
use Rattle.std.proofs.Common.{ap, sym, ◌∙◌, arith}
use Rattle.std.proofs.lemmas.List.{length-append}
use Rattle.sorted_logic.specs.declared.sort_scope.SortBlock.{SortBlock, One, Two'}
use Rattle.sorted_logic.specs.declared.term.Sort.{Sort}
use Rattle.sorted_logic.specs.Inside.SortRows.{in_block, IsOfSize}
use Rattle.sorted_logic.proofs.Filtered.{get_front, get_behind}

pub as_many : (block : SortBlock) (size : ℕ) → IsOfSize block size → length (in_block block) ≡ size
as_many (One sort) size h = sym h
as_many (Two' p earlier q later sort) size h = omega (
  arith,
  length-append (in_block earlier) (in_block later ++ sort ∷ []),
  length-append (in_block later) (sort ∷ []),
  as_many earlier h.0 h.1,
  as_many later h.0 h.2,
  h.3,
)

module _ (earlier later : List Sort) (sort : Sort) (half size at : ℕ)
    (e : length earlier ≡ half) (l : length later ≡ half) (twice : size ≡ half + (half + 1)) where
  halved : size / 2 ≡ half
  halved = omega (arith, twice)

  pub in_later : size / 2 ≤ at → at - size / 2 < size / 2
      → slice_get (earlier ++ (later ++ sort ∷ [])) at ≡ slice_get later (at - size / 2)
  in_later h k =
      ap (slice_get (earlier ++ (later ++ sort ∷ []))) (omega (arith, h, e, halved))
      ∙ get_behind earlier (later ++ sort ∷ []) (at - size / 2)
      ∙ get_front later (sort ∷ []) (at - size / 2) (omega (arith, k, l, halved))

  pub at_the_end : at < size → size / 2 ≤ at → size / 2 ≤ at - size / 2
      → slice_get (earlier ++ (later ++ sort ∷ [])) at ≡ Some sort
  at_the_end w h k =
      ap (slice_get (earlier ++ (later ++ sort ∷ []))) (omega (arith, w, h, k, e, l, halved, twice))
      ∙ get_behind earlier (later ++ sort ∷ []) (length later + 0) ∙ get_behind later (sort ∷ []) 0
