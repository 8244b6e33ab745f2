use Rattle.sorted_logic.specs.Trees.{formula_tree}
use Rattle.sorted_logic.proofs.Sorted.{sorted_where_ok}
use Rattle.sorted_logic.proofs.check.check_sorts.Goals as goal

pub returns-clause-sorted : goal.returns-clause-sorted
returns-clause-sorted c =
    sorted_where_ok c.check_formula.result c.args.sig.now c.args.vars.now (formula_tree c.args.f.now) c.check_formula.ensures
