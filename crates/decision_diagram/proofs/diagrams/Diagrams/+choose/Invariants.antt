use Rattle.std.proofs.Common.{◌+◌}
use Rattle.decision_diagram.proofs.diagrams.Diagrams.+choose.Given as goal

-- the ends of a branch stand before it
abbrev pub decreases-choose : goal.decreases-choose
decreases-choose l = l.condition + l.yes + l.other
