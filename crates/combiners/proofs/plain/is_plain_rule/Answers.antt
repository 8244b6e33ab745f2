use Rattle.std.proofs.Common.{◌≡◌, false, List, [], ◌∷◌, refl}
use Rattle.combiners.specs.declared.policy.Variable.{Variable}
use Rattle.combiners.specs.Plainness.{has_none}
use Rattle.combiners.specs.Tree.{sorts_of}
use Rattle.combiners.proofs.plain.is_plain_rule.Goals as goal

some_left : (variables : List Variable) → (variables ≡ [] → ⊥) → has_none (sorts_of variables) ≡ false
some_left [] h = absurd (h refl)
some_left (variable ∷ variables) h = refl

pub returns-else-is_empty : goal.returns-else-is_empty
returns-else-is_empty c =
    let e = some_left c.args.rule.now.locals (λ none. let t = c.is_empty.ensures.1 none in cc) in rw (e, c.if-is_empty.false) refl
