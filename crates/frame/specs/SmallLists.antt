-- Which lists are small: those whose decision diagram is. It is a function of what the list permits, and so is its size. No public
-- call is stated by this: it says which gates a list becomes, and all gates of a list have one value.
use Rattle.std.specs.Prelude.{◌≡◌, ℕ, ◌<◌, ◌≤◌, suc, Bool, List, length, drop}
use Rattle.ios_acl.specs.declared.entry.Entry.{Entry}
use Rattle.ios_acl.specs.declared.packet.Packet.{Packet}
use Rattle.decision_diagram.specs.Tree.{Tree, IsReduced, value}
use Rattle.decision_diagram.specs.Listing.{size}
use Rattle.frame.specs.Bits.{IsPacketOf}
use Rattle.frame.specs.Meaning.{permits}

-- the diagram of what the list permits, over the bits of a packet
pub record IsDiagramOf (entries : List Entry) (t : Tree) : Type 0 where
  pub reduced : IsReduced 0 126 t
  pub permitted : (bits : List Bool) (packet : Packet) → IsPacketOf bits packet
      → value t bits ≡ permits entries packet

-- its diagram has at most so many nodes, or more
abbrev pub IsSmall : ℕ → List Entry → Type 0
IsSmall most entries = (t : Tree) × IsDiagramOf entries t × (size t ≤ most)

abbrev pub IsLarge : ℕ → List Entry → Type 0
IsLarge most entries = (t : Tree) × IsDiagramOf entries t × (most < size t)

-- the entries from this one on are the greatest end of the list all of whose ends are small
pub record IsGreatestSmallEnd (most : ℕ) (entries : List Entry) (from : ℕ) : Type 0 where
  pub within : from ≤ length entries
  pub small : (place : ℕ) → from ≤ place → place ≤ length entries → IsSmall most (drop place entries)
  pub large : (place : ℕ) → from ≡ suc place → IsLarge most (drop place entries)
