use Rattle.decision_diagram.proofs.diagrams.Diagrams.+copy_into.Given as goal

abbrev pub decreases-copy_into : goal.decreases-copy_into
decreases-copy_into l = l.root
