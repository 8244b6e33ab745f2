use Rattle.std.proofs.Common.{◌≡◌, ◌++◌, ◌∷◌, [], drop, map, not}
use Rattle.cnf.specs.Clauses.{IsInRange, with_clauses}
use Rattle.circuit.specs.Clauses.{literal}
use Rattle.circuit.proofs.encoding.push_junction.Given as goal

abbrev pub invariant-loop-part : goal.invariant-loop-part
invariant-loop-part l = record {
  formula : with_clauses l.formula (map (λ part. literal l.variable (not l.negative) ∷ literal part l.negative ∷ []) (drop l.part-index l.parts))
      ≡ with_clauses l.fn.formula (map (λ part. literal l.variable (not l.negative) ∷ literal part l.negative ∷ []) l.parts);
  last : l.last.items ++ map (λ part. literal part (not l.negative)) (drop l.part-index l.parts)
      ≡ literal l.variable l.negative ∷ map (λ part. literal part (not l.negative)) l.parts;
  in_range : IsInRange l.formula.vars l.last.items;
}
