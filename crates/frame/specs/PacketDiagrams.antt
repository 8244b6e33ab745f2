-- What decision diagrams over the bits of a packet say of the packet. No public call is stated by this.
use Rattle.std.specs.Prelude.{◌≡◌, ℕ, ◌≤◌, ◌&&◌, not, Bool, List}
use Rattle.ios_acl.specs.declared.entry.Entry.{Entry}
use Rattle.ios_acl.specs.declared.packet.Packet.{Packet}
use Rattle.sorted_logic.specs.declared.request.Field.{Field}
use Rattle.decision_diagram.specs.Table.{IsOf, LooksFrom, Table, diagram, value_in}
use Rattle.decision_diagram.specs.Listing.{size}
use Rattle.frame.specs.Bits.{IsPacketOf, end_bit, first_bit}
use Rattle.frame.specs.Meaning.{permits}
use Rattle.frame.specs.SmallLists.{IsDiagramOf}

-- the diagram is true for the packets that pass the test
pub record MeansIn (table : Table) (d : ℕ) (meaning : Packet → Bool) : Type 0 where
  pub within : IsOf table d
  pub value : (bits : List Bool) (packet : Packet) → IsPacketOf bits packet → value_in table d bits ≡ meaning packet

-- a diagram that looks at no bit before those of the field, and is true where the packet passes the test and another
-- diagram is true
pub record Narrows (old new : Table) (f : Field) (test : Packet → Bool) (other d : ℕ) : Type 0 where
  pub within : IsOf new d
  pub from : LooksFrom new (first_bit f) d
  pub value : (bits : List Bool) (packet : Packet) → IsPacketOf bits packet
      → value_in new d bits ≡ (test packet && value_in old other bits)

-- a diagram that looks behind the bits of the field
pub record IsBehind (table : Table) (f : Field) (d : ℕ) : Type 0 where
  pub within : IsOf table d
  pub later : LooksFrom table (end_bit f) d

-- the diagram of what the entries permit, which is small
pub record IsSmallIn (most : ℕ) (table : Table) (entries : List Entry) (d : ℕ) : Type 0 where
  pub within : IsOf table d
  pub is : IsDiagramOf entries (diagram table d)
  pub small : size (diagram table d) ≤ most

-- two diagrams of one table: the packets that the first list alone permits, and those that the second alone does
pub record AreDifferences (first second : List Entry) (table : Table) (only_first only_second : ℕ) : Type 0 where
  pub bits : table.bits ≡ 126
  pub first_alone : MeansIn table only_first (λ packet. permits first packet && not (permits second packet))
  pub second_alone : MeansIn table only_second (λ packet. not (permits first packet) && permits second packet)
