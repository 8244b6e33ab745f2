-- What the nodes of a circuit over the bits of a packet say of the packet. No public call is stated by this.
use Rattle.std.specs.Prelude.{◌≡◌, ℕ, ◌<◌, ◌≤◌, ◌&&◌, not, Bool, true, false, List, length, map, take}
use Rattle.std.specs.List.{list_all}
use Rattle.cnf.specs.Clauses.{Formula, HasNoModel}
use Rattle.cnf.specs.Order.{IsLeast}
use Rattle.circuit.specs.declared.gate.Gate.{Gate}
use Rattle.circuit.specs.Value.{AreNodes, Extends, input_count, value}
use Rattle.ios_acl.specs.declared.entry.Entry.{Entry}
use Rattle.ios_acl.specs.declared.entry.Verdict.{Verdict}
use Rattle.ios_acl.specs.declared.entry.Verdict.TheVariants as verdict
use Rattle.ios_acl.specs.declared.packet.Packet.{Packet}
use Rattle.ios_acl.specs.Decision.{decision}
use Rattle.sorted_logic.specs.Field.{packet_fields}
use Rattle.ios_config.specs.Request.{IsRequest}
use Rattle.frame.specs.declared.question.Test.{Test}
use Rattle.frame.specs.Bits.{IsPacketOf}
use Rattle.frame.specs.Question.{passes}
use Rattle.frame.specs.Scenario.{IsNotBehind, request_of}

-- the circuit has so many inputs, and these are their nodes in order
pub record HasInputs (count : ℕ) (gates : List Gate) (nodes : List ℕ) : Type 0 where
  pub nodes_within : AreNodes gates nodes
  pub count_is : length nodes ≡ count
  pub inputs : input_count gates ≡ count
  pub values : (inputs : List Bool) → length inputs ≡ count → map (value gates inputs) nodes ≡ inputs

-- the circuit has the bits of a packet as its inputs, in order
abbrev pub HasBits : List Gate → List ℕ → Type 0
HasBits gates bits = HasInputs 126 gates bits

-- the node is true for the packets that pass the test
pub record Means (gates : List Gate) (node : ℕ) (meaning : Packet → Bool) : Type 0 where
  pub within : node < length gates
  pub value : (inputs : List Bool) (packet : Packet) → IsPacketOf inputs packet
      → value gates inputs node ≡ meaning packet

-- a circuit with more nodes, among them one that means the test
pub record Adds (old new : List Gate) (node : ℕ) (meaning : Packet → Bool) : Type 0 where
  pub older : Extends old new
  pub means : Means new node meaning

-- the nodes are all true for the packets that pass the test, and for no others
pub record AllMean (gates : List Gate) (nodes : List ℕ) (meaning : Packet → Bool) : Type 0 where
  pub within : AreNodes gates nodes
  pub value : (inputs : List Bool) (packet : Packet) → IsPacketOf inputs packet
      → list_all (value gates inputs) nodes ≡ meaning packet

-- a circuit with more nodes, and nodes of it that are all true where the ones before are and the packet passes the test
pub record Narrows (old new : List Gate) (before after : List ℕ) (test : Packet → Bool) : Type 0 where
  pub older : Extends old new
  pub parts : (meaning : Packet → Bool) → AllMean old before meaning
      → AllMean new after (λ packet. meaning packet && test packet)

-- a packet within the bounds of its fields that passes the test
pub record HoldsFor (meaning : Packet → Bool) (packet : Packet) : Type 0 where
  pub is_request : IsRequest (request_of packet)
  pub passes : meaning packet ≡ true

-- the first of these packets in the order of their fields
pub record IsLeastPacket (meaning : Packet → Bool) (packet : Packet) : Type 0 where
  pub holds : HoldsFor meaning packet
  pub least : (other : Packet) → HoldsFor meaning other
      → IsNotBehind (map (request_of packet) packet_fields) (map (request_of other) packet_fields)

abbrev pub is_permit : Verdict → Bool
is_permit verdict.Permit = true
is_permit verdict.Deny = false

-- whether the list permits the packet
abbrev pub permits : List Entry → Packet → Bool
permits entries packet = is_permit (decision entries packet).0

-- whether the list decides so
abbrev pub decides : List Entry → Verdict → Packet → Bool
decides entries verdict.Permit packet = permits entries packet
decides entries verdict.Deny packet = not (permits entries packet)

-- whether the packet passes all of the tests
abbrev pub passes_all : List Test → Packet → Bool
passes_all tests packet = list_all (passes (request_of packet)) tests

-- the least model of the clauses begins with the bits of the least packet for which the node is true, and they have no
-- model where it is true for no packet
pub record AskFor (gates : List Gate) (node : ℕ) (f : Formula) : Type 0 where
  pub bits : 126 ≤ f.vars
  pub first : (meaning : Packet → Bool) (values : List Bool) (packet : Packet) → Means gates node meaning
      → IsLeast f.vars f.clauses values → IsPacketOf (take 126 values) packet → IsLeastPacket meaning packet
  pub none : (meaning : Packet → Bool) (packet : Packet) → Means gates node meaning
      → HasNoModel f.vars f.clauses → HoldsFor meaning packet → ⊥
