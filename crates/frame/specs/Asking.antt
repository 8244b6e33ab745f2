-- What clauses say of a question: their first variables are the bits of a packet.
use Rattle.std.specs.Prelude.{◌≤◌, Bool, List, take}
use Rattle.cnf.specs.Clauses.{Formula, HasNoModel}
use Rattle.cnf.specs.Order.{IsLeast}
use Rattle.ios_acl.specs.declared.packet.Packet.{Packet}
use Rattle.frame.specs.Bits.{IsPacketOf}
use Rattle.frame.specs.Question.{Question}
use Rattle.frame.specs.Scenario.{IsFirst, request_of}
use Rattle.frame.specs.Solution.{HasNoSolution}

-- the packet that begins the least model gives the first scenario, and where there is no model there is none
pub record AreClausesOf (question : Question) (f : Formula) : Type 0 where
  pub bits : 126 ≤ f.vars
  pub first : (values : List Bool) (packet : Packet) → IsLeast f.vars f.clauses values
      → IsPacketOf (take 126 values) packet → IsFirst question (request_of packet)
  pub none : HasNoModel f.vars f.clauses → HasNoSolution question
