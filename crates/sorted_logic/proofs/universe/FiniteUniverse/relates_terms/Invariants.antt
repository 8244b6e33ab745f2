use Rattle.std.proofs.Common.{◌≡◌, drop}
use Rattle.std.specs.List.{list_any}
use Rattle.std.specs.Str.{bytes_eq}
use Rattle.sorted_logic.specs.Finite.{answers, row}
use Rattle.sorted_logic.specs.Inside.Evaluation.{scope}
use Rattle.sorted_logic.specs.Trees.{terms_chain}
use Rattle.sorted_logic.specs.Truth.{values_of, passes_of}
use Rattle.sorted_logic.proofs.universe.FiniteUniverse.relates_terms.Given as goal

abbrev pub invariant-loop-fact : goal.invariant-loop-fact
invariant-loop-fact l = (l.fact-items ≡ row l.self.facts l.relation)
    × (passes_of (λ elements. list_any (bytes_eq elements) (drop l.fact-index l.fact-items))
    (values_of (answers l.self) (scope l.env) (terms_chain l.args))
    ≡ passes_of (λ elements. list_any (bytes_eq elements) l.fact-items)
    (values_of (answers l.self) (scope l.env) (terms_chain l.args)))
