use Rattle.std.proofs.Common.{◌++◌, ◌∷◌, [], ap, ◌∙◌}
use Rattle.proof_check.proofs.Counting.{IsCounted-first, IsCounted-next}
use Rattle.proof_check.proofs.trimming.new_numbers.Goals as goal

pub loop-place-init : goal.loop-place-init
loop-place-init c =
    IsCounted-first c.args.given c.args.named.now c.push.new.self.items (c.in_ok-push.ensures.items ∙ ap (λ xs. xs ++ c.args.given ∷ []) c.in_ok-numbers.ensures.items)

pub loop-place-preserved : goal.loop-place-preserved
loop-place-preserved c =
    IsCounted-next c.args.given c.args.named.now c.loop-place.place c.loop-place.last c.next_number-last.result c.loop-place.numbers.items c.push-in-loop-place.new.self.items c.loop-place.invariant c.next_number-last.ensures c.in_ok-push-2.ensures.items
