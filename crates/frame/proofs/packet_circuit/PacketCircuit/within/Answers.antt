use Rattle.std.proofs.lemmas.Result.{IfOk-weaker}
use Rattle.frame.proofs.MatchTests.{agrees_within}
use Rattle.frame.specs.Scenario.{request_of}
use Rattle.frame.proofs.Nodes.{Adds-as}
use Rattle.frame.proofs.packet_circuit.PacketCircuit.within.Goals as goal

pub returns-then-low-high : goal.returns-then-low-high
returns-then-low-high c = IfOk-weaker c.masked.result _ _ (λ node adds. Adds-as _ _ node _ _ (λ packet. rw (← c.if-low-high.true) (agrees_within (request_of packet c.args.field) c.args.low)) adds) c.masked.ensures
