-- The requests that answer a question.
use Rattle.std.specs.Prelude.{◌≡◌, true}
use Rattle.std.specs.List.{list_all}
use Rattle.ios_acl.specs.declared.packet.Packet.{Packet}
use Rattle.ios_acl.specs.Decision.{decision}
use Rattle.ios_config.specs.Request.{Request, IsRequest, IsPacketIn}
use Rattle.frame.specs.Question.{Question, passes}

-- the list decides the packet that comes in as is asked, and the request passes the tests
pub record Solves (question : Question) (request : Request) : Type 0 where
  pub is_request : IsRequest request
  pub packet : Packet
  pub comes_in : IsPacketIn request packet
  pub decided : (decision question.entries packet).0 ≡ question.verdict
  pub tests : list_all (passes request) question.tests ≡ true

-- no request answers the question
abbrev pub HasNoSolution : Question → Type 0
HasNoSolution question = (request : Request) → Solves question request → ⊥
