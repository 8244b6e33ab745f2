use Rattle.decision_diagram.proofs.diagrams.Diagrams.+adopt_part.Given as goal

abbrev pub decreases-adopt_part : goal.decreases-adopt_part
decreases-adopt_part l = l.root
