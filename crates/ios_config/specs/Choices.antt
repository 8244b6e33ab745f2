-- The choices that are made between sources. Private calls are stated by them, and no public one.
use Rattle.std.specs.Prelude.{ℕ, nat_lt, List, Option, Some, None}
use Rattle.std.specs.Bool.{if◌then◌else◌}
use Rattle.std.specs.Option.{option_and_then}
use Rattle.ios_acl.specs.declared.packet.Packet.{Packet}
use Rattle.ios_nat.specs.Table.{Table}
use Rattle.ios_nat.specs.declared.entry.DynamicEntry.{DynamicEntry}
use Rattle.ios_route.specs.Interfaces.{Interface}
use Rattle.ios_config.specs.declared.source_choice.SourceChoice.{SourceChoice}
use Rattle.ios_config.specs.Sources.{global_range, port_range}

-- one source
abbrev pub alone : ℕ × ℕ → SourceChoice
alone source = record { first = source.0; last = source.0; low = source.1; high = source.1 }

-- each of these addresses with each of these ports, where there is an address
abbrev pub ranged : ℕ × ℕ → ℕ × ℕ → Option SourceChoice
ranged addresses ports =
    if nat_lt addresses.1 addresses.0 then None
    else Some (record { first = addresses.0; last = addresses.1; low = ports.0; high = ports.1 })

-- what a dynamic entry gives
abbrev pub shared : List Interface → Table → Packet → DynamicEntry → Option SourceChoice
shared interfaces table packet dynamic =
    option_and_then (λ (addresses : ℕ × ℕ). ranged addresses (port_range dynamic.overload packet))
    (global_range interfaces table dynamic.from)
