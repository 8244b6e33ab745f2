use Rattle.std.proofs.Common.{◌≡◌, ◌∙◌, ◌<◌, ◌++◌, ◌∷◌, [], ap, length, arith, rules, true}
use Rattle.std.proofs.lemmas.Grind.{common_steps}
use Rattle.sat_core.proofs.Splitting.{found_whole, found_high, right_at_the_end, right_above_both, none_above_both, still_log}
use Rattle.sat_core.proofs.split.+split.Goals as goal

pub returns-in_default-clause-splits : goal.returns-in_default-clause-splits
returns-in_default-clause-splits t c =
    let count : length c.args.chosen.now.items ≡ c.args.cnf.now.vars = search rules in
    let found = rw (c.in_default.is, c.as_slice.ensures.value) at c.first_failing.ensures.fails in
    found_whole c.args.cnf.now c.args.chosen.now.items count found

pub exclude-requires-clause-right : goal.exclude-requires-clause-right
exclude-requires-clause-right t c =
    let count : length c.args.chosen.now.items ≡ c.args.cnf.now.vars = search rules in
    let found = rw (c.in-Some.is, c.as_slice.ensures.value) at c.first_failing.ensures.fails in
    right_at_the_end c.args.cnf.now c.args.steps.now.items c.args.chosen.now.items _ c.in-Some.place _ c.as_slice-then-len-vars.ensures.value count (search rules) found.0 found.1 found.2

pub returns-in_default-3-clause-splits : goal.returns-in_default-3-clause-splits
returns-in_default-3-clause-splits t c =
    let low = rw c.in-Some-2.is at c.in_ok-low.ensures.splits in
    let high = rw c.in_default-3.is at c.in_ok-high.ensures.splits in
    let popped : c.pop.new.self.items ≡ c.args.chosen.now.items = grind (arith, common_steps) in
    found_high c.args.cnf.now c.split.new.steps.items c.args.chosen.now.items _ _ _ c.in-Some-2.low c.in_ok-push.ensures.items (c.in_ok-push-2.ensures.items ∙ ap (λ x. x ++ true ∷ []) popped) low.0 high

pub exclude-requires-2-clause-log : goal.exclude-requires-2-clause-log
exclude-requires-2-clause-log t c =
    let high = rw c.in-Some-3.is at c.in_ok-high.ensures.splits in
    still_log c.args.cnf.now c.split-2.new.steps.items c.pop.new.self.items _ true c.in-Some-3.high c.in_ok-push-2.ensures.items high.0

pub exclude-requires-2-clause-right : goal.exclude-requires-2-clause-right
exclude-requires-2-clause-right t c =
    let low = rw c.in-Some-2.is at c.in_ok-low.ensures.splits in
    let high = rw c.in-Some-3.is at c.in_ok-high.ensures.splits in
    let popped : c.pop.new.self.items ≡ c.args.chosen.now.items = grind (arith, common_steps) in
    let again : c.pop-2.new.self.items ≡ c.args.chosen.now.items = grind (arith, common_steps) in
    let few : length c.args.chosen.now.items < c.args.cnf.now.vars = search rules in
    right_above_both c.args.cnf.now c.split.new.steps.items c.split-2.new.steps.items c.args.chosen.now.items _ _ _ c.in-Some-2.low c.in-Some-3.high c.in_ok-push.ensures.items (c.in_ok-push-2.ensures.items ∙ ap (λ x. x ++ true ∷ []) popped) (c.as_slice-2.ensures.value ∙ again) few low.0 c.in_ok-high.ensures.grows high.0

pub exclude-requires-2-clause-none : goal.exclude-requires-2-clause-none
exclude-requires-2-clause-none t c =
    let low = rw c.in-Some-2.is at c.in_ok-low.ensures.splits in
    let high = rw c.in-Some-3.is at c.in_ok-high.ensures.splits in
    let popped : c.pop.new.self.items ≡ c.args.chosen.now.items = grind (arith, common_steps) in
    let again : c.pop-2.new.self.items ≡ c.args.chosen.now.items = grind (arith, common_steps) in
    let few : length c.args.chosen.now.items < c.args.cnf.now.vars = search rules in
    none_above_both c.args.cnf.now c.split.new.steps.items c.split-2.new.steps.items c.args.chosen.now.items _ _ _ c.in-Some-2.low c.in-Some-3.high c.in_ok-push.ensures.items (c.in_ok-push-2.ensures.items ∙ ap (λ x. x ++ true ∷ []) popped) (c.as_slice-2.ensures.value ∙ again) few low.0 high.0
