use Rattle.std.proofs.Common.{arith, ℕ, List, ◌+◌, length, ◌≡◌, rules}
use Rattle.circuit.proofs.Below.{below-weaker, below_push}
use Rattle.circuit.proofs.Unsettled.{all_places, rising_push}
use Rattle.circuit.proofs.table.Table.blank.Goals as goal

pub loop-place-preserved : goal.loop-place-preserved
loop-place-preserved c =
    let places : List ℕ = c.loop-place.unsettled.items in
    let place : ℕ = c.loop-place.place in
    let kept = c.loop-place.invariant in
    let pushed = c.in_ok-push.ensures.items in
    record {
      below = rw pushed (below_push (place + 1) places place (omega arith) (below-weaker place (place + 1) places (omega arith) kept.below));
      rising = rw pushed (rising_push places place kept.below kept.rising);
      complete = rw pushed (all_places places place kept.complete);
    }

pub invariant_of-result : goal.invariant_of-result
invariant_of-result c =
    let kept = c.loop-place.invariant in
    let long : length c.in_ok-values.values.items ≡ c.loop-place.place = search rules in
    record {
      within = rw long kept.below;
      rising = kept.rising;
      complete = λ k inside none. kept.complete k (omega (arith, long, inside));
    }
