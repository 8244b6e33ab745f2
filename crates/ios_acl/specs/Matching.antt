-- When an entry of an access list matches a packet (Cisco IOS command references, `access-list`).
use Rattle.std.specs.Prelude.{ℕ, Bool, true, false, not, ◌==◌, ◌&&◌, Option, Some, None, bit_and}
use Rattle.bit_patterns.specs.Patterns.{agrees, within}
use Rattle.ios_acl.specs.declared.entry.Entry.{Entry}
use Rattle.ios_acl.specs.declared.entry.Ports.{Ports}
use Rattle.ios_acl.specs.declared.entry.Ports.TheVariants as ports
use Rattle.ios_acl.specs.declared.packet.Packet.{Packet}

-- an entry without a protocol is for every protocol
abbrev pub matches_protocol : ℕ → Option ℕ → Bool
matches_protocol protocol None = true
matches_protocol protocol (Some wanted) = protocol == wanted

abbrev pub matches_port : ℕ → Ports → Bool
matches_port port ports.Any = true
matches_port port (ports.Within low high) = within low high port
matches_port port (ports.Not other) = not (port == other)
matches_port port ports.Nothing = false

-- a type alone is for all its codes
abbrev pub matches_code : ℕ → Option ℕ → Bool
matches_code code None = true
matches_code code (Some wanted) = code == wanted

abbrev pub matches_icmp : ℕ → ℕ → Option (ℕ × Option ℕ) → Bool
matches_icmp kind code None = true
matches_icmp kind code (Some wanted) = (kind == wanted.0) && matches_code code wanted.1

-- of an established connection one of the flags ACK, 16, and RST, 4, is set
abbrev pub matches_established : ℕ → Bool → Bool
matches_established flags false = true
matches_established flags true = not (bit_and flags 20 == 0)

-- an address of the packet agrees with that of the entry on the bits that are 0 in its wildcard
abbrev pub matches : Entry → Packet → Bool
matches entry packet =
    matches_protocol packet.proto entry.proto
    && agrees packet.src entry.src.0 entry.src.1
    && agrees packet.dst entry.dst.0 entry.dst.1
    && matches_port packet.sport entry.sport
    && matches_port packet.dport entry.dport
    && matches_icmp packet.icmp_type packet.icmp_code entry.icmp
    && matches_established packet.flags entry.established
