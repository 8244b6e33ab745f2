use Rattle.sorted_logic.proofs.Growing.{hierarchy_under}
use Rattle.sorted_logic.proofs.signature.Sig.add_numbers.Goals as goal

pub push_sort-requires-clause-hierarchy : goal.push_sort-requires-clause-hierarchy
push_sort-requires-clause-hierarchy c = hierarchy_under _ c.args.self.now c.self.invariant.signature c.self.view_is _ (λ p under. cc)
