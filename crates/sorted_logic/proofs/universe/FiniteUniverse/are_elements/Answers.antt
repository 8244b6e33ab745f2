use Rattle.std.proofs.Common.{sym}
use Rattle.sorted_logic.specs.Finite.{answers}
use Rattle.sorted_logic.proofs.UniverseSymbols.{other_count}
use Rattle.sorted_logic.proofs.universe.FiniteUniverse.are_elements.Goals as goal

pub returns-then-sorts-elements : goal.returns-then-sorts-elements
returns-then-sorts-elements c = sym (other_count (answers c.args.self.now) _ _ c.if-sorts-elements.true)
