use Rattle.sorted_logic.specs.Finite.{answers}
use Rattle.sorted_logic.specs.Trees.{formula_tree}
use Rattle.sorted_logic.proofs.EvaluatedTruths.{is_truth, is_falsity, within_size}
use Rattle.sorted_logic.proofs.universe.FiniteUniverse.holds.Goals as goal

pub returns-clause-truth : goal.returns-clause-truth
returns-clause-truth c = rw c.truth.ensures
    (is_truth (answers c.args.self.now) c.args.self.now.size (within_size c.args.self.now)
    (formula_tree c.args.f.now) c.args.env.now)

pub returns-clause-falsity : goal.returns-clause-falsity
returns-clause-falsity c = rw c.truth.ensures
    (is_falsity (answers c.args.self.now) c.args.self.now.size (within_size c.args.self.now)
    (formula_tree c.args.f.now) c.args.env.now)
