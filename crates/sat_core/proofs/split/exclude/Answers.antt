use Rattle.std.proofs.Common.{◌≡◌, ◌∙◌, rules}
use Rattle.certificates.specs.declared.derivation.Step.{Step}
use Rattle.sat_core.proofs.Splitting.{excludes}
use Rattle.sat_core.proofs.split.exclude.Goals as goal

pub returns-clause-excludes : goal.returns-clause-excludes
returns-clause-excludes c =
    let clause = c.in_ok-exclusion.ensures in
    let hints : c.of.result ≡ c.args.hints.now = c.of.ensures ∙ c.in_ok-from_slice.ensures.items in
    let step : Step = record { clause = c.in_ok-exclusion.field-0; hints = c.of.result } in
    excludes c.args.cnf.now c.args.steps.now.items c.push.new.self.items c.args.chosen.now c.args.hints.now step _ c.requires.log (λ i. record { clause = clause i; hints = hints i }) c.in_ok-push.ensures.items c.requires.right c.requires.none (search rules)
