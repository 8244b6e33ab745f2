-- What the source of a packet becomes on its way from one interface of a router to another (Cisco IOS command references,
-- `ip nat inside source`).
use Rattle.std.specs.Prelude.{◌≡◌, ℕ, ◌≤◌, ◌==◌, ◌&&◌, ◌||◌, Bool, true, false, List, find, Option, Some, None, option_map, slice_get}
use Rattle.std.specs.Bool.{if◌then◌else◌}
use Rattle.std.specs.Option.{option_and_then, option_map_or}
use Rattle.std.specs.Str.{bytes_eq}
use Rattle.ios_acl.specs.Decision.{decision}
use Rattle.ios_acl.specs.List.{AccessList}
use Rattle.ios_acl.specs.declared.entry.Verdict.{Verdict}
use Rattle.ios_acl.specs.declared.entry.Verdict.TheVariants as verdict
use Rattle.ios_acl.specs.declared.packet.Packet.{Packet}
use Rattle.ios_nat.specs.Table.{Table, pool_named}
use Rattle.ios_nat.specs.Translation.{fixed_source}
use Rattle.ios_nat.specs.declared.entry.DynamicEntry.{DynamicEntry}
use Rattle.ios_nat.specs.declared.entry.DynamicFrom.{DynamicFrom}
use Rattle.ios_nat.specs.declared.entry.DynamicFrom.TheVariants as from
use Rattle.ios_config.specs.Router.{Router}
use Rattle.ios_config.specs.declared.source_choice.SourceChoice.{SourceChoice}
use Rattle.ios_route.specs.ActiveRoutes.{named}
use Rattle.ios_route.specs.Interfaces.{Interface}
use Rattle.ios_route.specs.declared.interface.NatMark.{NatMark}
use Rattle.ios_route.specs.declared.interface.NatMark.TheVariants as mark

abbrev pub is_inside_mark : NatMark → Bool
is_inside_mark mark.Inside = true
is_inside_mark mark.Outside = false
is_inside_mark mark.Plain = false

abbrev pub is_outside_mark : NatMark → Bool
is_outside_mark mark.Inside = false
is_outside_mark mark.Outside = true
is_outside_mark mark.Plain = false

-- the mark of the interface of this number, which counts even if the interface is shut down; a number of no interface has none
abbrev pub mark_of : List Interface → ℕ → Option NatMark
mark_of interfaces number =
    option_map (λ (interface : Interface). interface.mark)
    (find (λ (interface : Interface). interface.number == number) interfaces)

abbrev pub is_inside : List Interface → ℕ → Bool
is_inside interfaces number = option_map_or is_inside_mark (mark_of interfaces number) false

abbrev pub is_outside : List Interface → ℕ → Bool
is_outside interfaces number = option_map_or is_outside_mark (mark_of interfaces number) false

-- from an inside interface to an outside one
abbrev pub goes_out : List Interface → ℕ → ℕ → Bool
goes_out interfaces entry exit = is_inside interfaces entry && is_outside interfaces exit

abbrev pub is_permit : Verdict → Bool
is_permit verdict.Permit = true
is_permit verdict.Deny = false

-- the first list of this name
abbrev pub list_of_name : List AccessList → List ℕ → Option AccessList
list_of_name lists name = find (λ (list : AccessList). bytes_eq name list.name) lists

-- a list that is not defined has no entry, and so permits nothing here
abbrev pub is_permitted : List AccessList → Packet → List ℕ → Bool
is_permitted lists packet name =
    option_map_or (λ (list : AccessList). is_permit (decision list.entries packet).0)
    (list_of_name lists name) false

-- the first dynamic entry that counts
abbrev pub counting : List AccessList → List DynamicEntry → Packet → Option DynamicEntry
counting lists dynamics packet =
    find (λ (dynamic : DynamicEntry). is_permitted lists packet dynamic.list) dynamics

-- the first address of the first interface of this name
abbrev pub address_of : List Interface → List ℕ → Option ℕ
address_of interfaces name =
    option_and_then (λ (interface : Interface). option_map (λ (address : ℕ × ℕ). address.0)
    (slice_get interface.addresses 0)) (named interfaces name)

-- the first and the last of the global addresses of a dynamic entry, where it has some
abbrev pub global_range : List Interface → Table → DynamicFrom → Option (ℕ × ℕ)
global_range interfaces table (from.Pool name) = pool_named table.pools name
global_range interfaces table (from.Interface name) =
    option_map (λ (address : ℕ). (address, address)) (address_of interfaces name)

-- sources of TCP, 6, and of UDP, 17, share an address by their ports
abbrev pub has_ports : Packet → Bool
has_ports packet = packet.proto == 6 || packet.proto == 17

-- the first and the last of the ports that a dynamic entry gives
abbrev pub port_range : Bool → Packet → ℕ × ℕ
port_range overload packet =
    if overload && has_ports packet then (1, 65535) else (packet.sport, packet.sport)

abbrev pub IsWithin : ℕ × ℕ → ℕ → Type 0
IsWithin range n = (range.0 ≤ n) × (n ≤ range.1)

-- what a dynamic entry gives: one of its global addresses, with one of its ports
pub record IsShared (interfaces : List Interface) (table : Table) (packet : Packet)
    (dynamic : DynamicEntry) (address port : ℕ) : Type 0 where
  pub addresses : ℕ × ℕ
  pub are_global : global_range interfaces table dynamic.from ≡ Some addresses
  pub one_of_them : IsWithin addresses address
  pub one_of_its : IsWithin (port_range dynamic.overload packet) port

-- the packet's own source
abbrev pub own : Packet → ℕ × ℕ
own packet = (packet.src, packet.sport)

abbrev pub fixed : Table → Packet → Option (ℕ × ℕ)
fixed table packet = fixed_source table packet.proto packet.src packet.sport

-- the source of the packet may become this address and this port
pub data IsSource (lists : List AccessList) (interfaces : List Interface) (table : Table)
    (entry exit : ℕ) (packet : Packet) (address port : ℕ) : Type 0 where
  -- it stays where the packet does not go from inside to outside
  stays : goes_out interfaces entry exit ≡ false → (address, port) ≡ own packet
      → IsSource lists interfaces table entry exit packet address port
  -- otherwise it is what a static entry says
  by_static : goes_out interfaces entry exit ≡ true → fixed table packet ≡ Some (address, port)
      → IsSource lists interfaces table entry exit packet address port
  -- where none is for it, it is what the first dynamic entry that counts gives
  by_dynamic : (dynamic : DynamicEntry) → goes_out interfaces entry exit ≡ true
      → fixed table packet ≡ None → counting lists table.dynamic packet ≡ Some dynamic
      → IsShared interfaces table packet dynamic address port
      → IsSource lists interfaces table entry exit packet address port
  -- and where none counts, it stays
  uncounted : goes_out interfaces entry exit ≡ true → fixed table packet ≡ None
      → counting lists table.dynamic packet ≡ None
      → (address, port) ≡ own packet
      → IsSource lists interfaces table entry exit packet address port

-- the same of a router
abbrev pub IsSourceOf : Router → ℕ → ℕ → Packet → ℕ → ℕ → Type 0
IsSourceOf router = IsSource router.lists router.interfaces router.nat

-- the address and the port lie within the choice
abbrev pub IsAmong : Option SourceChoice → ℕ → ℕ → Type 0
IsAmong None address port = ⊥
IsAmong (Some choice) address port =
    IsWithin (choice.first, choice.last) address × IsWithin (choice.low, choice.high) port
