use Rattle.std.proofs.Common.{◌≡◌, drop}
use Rattle.std.specs.List.{list_any}
use Rattle.std.specs.Str.{bytes_eq}
use Rattle.sorted_logic.proofs.elements.is_fact.Given as goal

abbrev pub invariant-loop-fact : goal.invariant-loop-fact
invariant-loop-fact l = list_any (bytes_eq l.elements) (drop l.fact-index l.facts) ≡ list_any (bytes_eq l.elements) l.facts
