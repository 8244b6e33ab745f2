use Rattle.std.proofs.Common.{◌≡◌, ◌<◌, ◌+◌, ◌-◌, ◌||◌, ◌∷◌, ◌++◌, [], reverse, eqb, eq-eqb, true, false, length, get_or, drop, arith, ap, sym, ◌∙◌, subst, if◌then◌else◌}
use Rattle.std.specs.List.{filter, range_with_len}
use Rattle.std.proofs.lemmas.Bool.{or_left, or_right, or_from, ne_eqb}
use Rattle.std.proofs.lemmas.List.{drop_more}
use Rattle.certificates.specs.declared.derivation.Item.TheVariants as variants
use Rattle.proof_check.specs.Trimming.{deletion}
use Rattle.proof_check.specs.Inside.Trim.{pointed, is_last, Marks}
use Rattle.proof_check.proofs.Flags.{IsBack, IsBack-skip, IsBack-take, length_pointed, pointed_at, no_step}
use Rattle.proof_check.proofs.trimming.needed_items.Goals as goal
use Rattle.proof_check.proofs.trimming.needed_items.Goals.{else-not-ends-via-then-not-ends+else-not-named-place, else-not-ends-via-else-not-ends}

pub loop-place-preserved-then-not-named-place : goal.loop-place-preserved-then-not-named-place
loop-place-preserved-then-not-named-place c =
    let steps = pointed c.args.steps.now in
    let named = c.loop-place.named in
    let k = c.loop-place.place - 1 in
    let long : length steps ≡ length c.args.steps.now = length_pointed c.args.steps.now in
    let next : c.loop-place.place ≡ k + 1 = omega (arith, c.loop-place-test.true) in
    let below : k < length steps = omega (arith, long, c.loop-place.auto.place, next) in
    let back = subst (λ n. IsBack c.args.given steps n c.loop-place.items.items named) next c.loop-place.invariant in
    IsBack-skip c.args.given steps k (get_or steps k no_step) c.loop-place.items.items named back below (drop_more steps k no_step below)
    (or_from (eqb (k + 1) (length steps)) (get_or named k false) (ne_eqb (k + 1) (length steps) (λ e. c.if-not-ends.true (e ∙ long))) c.if-not-named-place.true)

pub loop-place-preserved : goal.loop-place-preserved
loop-place-preserved c =
    let given = c.args.given in
    let refs = c.args.steps.now in
    let steps = pointed refs in
    let named = c.loop-place.named in
    let items = c.loop-place.items.items in
    let last = c.in_ok-last.last.items in
    let k = c.loop-place.place - 1 in
    let step = c.index-steps-place.result.now in
    let long : length steps ≡ length refs = length_pointed refs in
    let next : c.loop-place.place ≡ k + 1 = omega (arith, c.loop-place-test.true) in
    let within : k < length refs = omega (arith, c.loop-place.auto.place, next) in
    let below : k < length steps = omega (arith, long, within) in
    let back = subst (λ n. IsBack given steps n items named) next c.loop-place.invariant in
    let shape : drop k steps ≡ step ∷ drop (k + 1) steps = drop_more steps k step below ∙ ap (λ s. s ∷ drop (k + 1) steps) (pointed_at refs k c.index-steps-place.result within c.index-steps-place.is) in
    let needed : (eqb (k + 1) (length refs) || get_or named k false) ≡ true = elim c.else-not-ends.branch [
      | else-not-ends-via-then-not-ends+else-not-named-place w ↦ or_right (eqb (k + 1) (length refs)) (get_or named k false) w.if-not-named-place.false
      | else-not-ends-via-else-not-ends w ↦ or_left (eqb (k + 1) (length refs)) (get_or named k false) (eq-eqb (k + 1) (length refs) w.if-not-ends.false)
    ] in
    let on : (eqb (k + 1) (length steps) || get_or named k false) ≡ true = ap (λ n. eqb (k + 1) n || get_or named k false) long ∙ needed in
    let made : last ≡ filter (is_last given named step.hints) (range_with_len (given + 1) k) = c.in_ok-last.ensures ∙ ap (λ hs. filter (is_last given named hs) (range_with_len (given + 1) k)) c.as_slice.ensures in
    let marks : Marks given last named c.mark.new.named = subst (λ ns. Marks given ns named c.mark.new.named) c.as_slice-in-loop-place.ensures.value c.mark.ensures in
    let pushed : c.push_step.new.items.items ≡ items ++ reverse (variants.Add step ∷ (if eqb (k + 1) (length steps) then [] else deletion last)) =
    c.in_ok-push_step.ensures ∙ ap (λ n. items ++ reverse (variants.Add step ∷ (if eqb (k + 1) n then [] else deletion last))) (sym long) in
    IsBack-take given steps k step items named last c.push_step.new.items.items c.mark.new.named back below shape on made marks pushed
