-- What clauses say of two lists: their first two variables are what the lists permit, the next ones the bits of a packet.
use Rattle.std.specs.Prelude.{◌≡◌, ◌≤◌, ◌&&◌, not, Bool, true, false, List, ◌∷◌, slice_range, slice_index_or, take}
use Rattle.std.specs.Bool.{beq}
use Rattle.cnf.specs.Clauses.{Formula, HasNoModel, IsModel}
use Rattle.cnf.specs.Order.{IsLeast, LexLe}
use Rattle.ios_acl.specs.declared.entry.Entry.{Entry}
use Rattle.ios_acl.specs.declared.packet.Packet.{Packet}
use Rattle.ios_config.specs.Request.{IsRequest}
use Rattle.frame.specs.declared.comparison.Comparison.{Comparison}
use Rattle.frame.specs.declared.comparison.Comparison.TheVariants as comparison
use Rattle.frame.specs.Bits.{IsPacketOf}
use Rattle.frame.specs.Meaning.{permits}
use Rattle.frame.specs.Scenario.{request_of}

-- what is asked of the verdicts of two lists on one packet, where permitted is true
abbrev pub asks : Comparison → Bool → Bool → Bool
asks comparison.Differs first second = not (beq first second)
asks comparison.Widens first second = not first && second

-- whether the lists decide the packet as is asked
abbrev pub compared : Comparison → List Entry → List Entry → Packet → Bool
compared asked first second packet = asks asked (permits first packet) (permits second packet)

-- a model's first two values are what the lists permit of the packet whose bits come next, and they are as is asked
pub record IsShown (asked : Comparison) (first second : List Entry) (values : List Bool) (packet : Packet) : Type 0 where
  pub first_permits : slice_index_or values 0 false ≡ permits first packet
  pub second_permits : slice_index_or values 1 false ≡ permits second packet
  pub as_asked : compared asked first second packet ≡ true

-- each model shows a packet, the least one is not behind any packet that is decided as is asked, and where there is no model
-- there is no such packet
pub record AreClausesOfTwo (asked : Comparison) (first second : List Entry) (f : Formula) : Type 0 where
  pub bits : 128 ≤ f.vars
  pub shown : (values : List Bool) (packet : Packet) → IsModel f.vars f.clauses values
      → IsPacketOf (slice_range values 2 128) packet → IsShown asked first second values packet
  pub least : (values bits : List Bool) (packet : Packet) → IsLeast f.vars f.clauses values
      → IsPacketOf bits packet → compared asked first second packet ≡ true
      → LexLe (take 128 values) (permits first packet ∷ (permits second packet ∷ bits))
  pub none : HasNoModel f.vars f.clauses → (packet : Packet) → IsRequest (request_of packet)
      → compared asked first second packet ≡ false
