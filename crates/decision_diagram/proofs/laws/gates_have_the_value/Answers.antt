use Rattle.decision_diagram.proofs.Listed.{listing_table, listing_root, root_within}
use Rattle.decision_diagram.proofs.Guards.{gates_of_tree}
use Rattle.decision_diagram.proofs.laws.gates_have_the_value.Goals as goal

pub returns : goal.returns
returns c = gates_of_tree (λ count t reduced. (listing_table count t reduced, root_within count t reduced, listing_root count t reduced))
