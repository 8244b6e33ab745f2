-- Values with which two lists decide as is asked. No public call is stated by this.
use Rattle.std.specs.Prelude.{◌≡◌, ℕ, ◌<◌, ◌&&◌, Bool, false, List, drop, length, slice_index_or, if◌then◌else◌}
use Rattle.std.specs.Bool.{beq}
use Rattle.circuit.specs.declared.gate.Gate.{Gate}
use Rattle.circuit.specs.Value.{input_count, value}
use Rattle.ios_acl.specs.declared.entry.Entry.{Entry}
use Rattle.ios_acl.specs.declared.packet.Packet.{Packet}
use Rattle.frame.specs.declared.comparison.Comparison.{Comparison}
use Rattle.frame.specs.Bits.{IsPacketOf}
use Rattle.frame.specs.Comparing.{asks}
use Rattle.frame.specs.Meaning.{permits}

-- the first two values are these, and they are as is asked
abbrev pub shows : Comparison → List Bool → Bool → Bool → Bool
shows asked values first second =
    asks asked (slice_index_or values 0 false) (slice_index_or values 1 false)
    && (beq (slice_index_or values 0 false) first && beq (slice_index_or values 1 false) second)

-- a root that says so of two lists, over their verdicts and the bits of a packet
pub record AsksFor (asked : Comparison) (first second : List Entry) (gates : List Gate) (root : ℕ) : Type 0 where
  pub inputs : input_count gates ≡ 128
  pub within : root < length gates
  pub value : (values : List Bool) (packet : Packet) → length values ≡ 128 → IsPacketOf (drop 2 values) packet
      → value gates values root ≡ shows asked values (permits first packet) (permits second packet)

-- where these are the values of two nodes of a circuit over the bits behind the first two values
abbrev pub shows_nodes : Comparison → List Gate → List ℕ → List Bool → Bool
shows_nodes asked gates nodes values =
    shows asked values (value gates (drop 2 values) (slice_index_or nodes 0 0)) (value gates (drop 2 values) (slice_index_or nodes 1 0))

-- the same by the packets that one of the lists alone permits
abbrev pub chosen : Comparison → List Bool → Bool → Bool → Bool
chosen asked values only_first only_second =
    asks asked (slice_index_or values 0 false) (slice_index_or values 1 false)
    && (if slice_index_or values 0 false then only_first else only_second)
