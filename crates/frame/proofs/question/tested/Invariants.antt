use Rattle.std.proofs.Common.{◌<◌, ◌&&◌, Bool, length, take}
use Rattle.std.specs.List.{list_all}
use Rattle.ios_acl.specs.declared.packet.Packet.{Packet}
use Rattle.circuit.specs.Value.{Extends}
use Rattle.frame.specs.Meaning.{Means}
use Rattle.frame.specs.Question.{passes}
use Rattle.frame.specs.Scenario.{request_of}
use Rattle.frame.proofs.question.tested.Given as goal

-- the node is the other one and the tests so far
abbrev pub invariant-loop-test : goal.invariant-loop-test
invariant-loop-test l = record {
  within : l.node < length l.circuit;
  older : Extends l.fn.circuit l.circuit;
  means : (meaning : Packet → Bool) → Means l.fn.circuit l.fn.other meaning → Means l.circuit l.node (λ packet. meaning packet && list_all (passes (request_of packet)) (take l.test-index l.tests));
}
