-- What static entries make of a packet's addresses and ports: the first that fits, those for a port before those for an address.
use Rattle.std.specs.Prelude.{ℕ, ◌==◌, ◌&&◌, Bool, List, find, Option, option_map, unwrap_or}
use Rattle.std.specs.Option.{option_or}
use Rattle.ios_nat.specs.declared.entry.AddressEntry.{AddressEntry}
use Rattle.ios_nat.specs.declared.entry.PortEntry.{PortEntry}
use Rattle.ios_nat.specs.Table.{Table}

abbrev pub has_local : ℕ → ℕ → ℕ → PortEntry → Bool
has_local proto address port entry =
    proto == entry.proto && (address == entry.local && port == entry.local_port)

abbrev pub has_global : ℕ → ℕ → ℕ → PortEntry → Bool
has_global proto address port entry =
    proto == entry.proto && (address == entry.global && port == entry.global_port)

-- the global side of the first entry with this local side, and the local side of the first with this global side
abbrev pub port_from : List PortEntry → ℕ → ℕ → ℕ → Option (ℕ × ℕ)
port_from entries proto address port =
    option_map (λ entry. (entry.global, entry.global_port))
    (find (has_local proto address port) entries)

abbrev pub port_to : List PortEntry → ℕ → ℕ → ℕ → Option (ℕ × ℕ)
port_to entries proto address port =
    option_map (λ entry. (entry.local, entry.local_port))
    (find (has_global proto address port) entries)

abbrev pub address_from : List AddressEntry → ℕ → Option ℕ
address_from entries address =
    option_map (λ entry. entry.global) (find (λ entry. address == entry.local) entries)

abbrev pub address_to : List AddressEntry → ℕ → Option ℕ
address_to entries address =
    option_map (λ entry. entry.local) (find (λ entry. address == entry.global) entries)

-- an entry for an address leaves the port as it is
abbrev pub with_port : ℕ → Option ℕ → Option (ℕ × ℕ)
with_port port address = option_map (λ a. (a, port)) address

-- what a packet's source becomes on its way out, where an entry is for it
abbrev pub fixed_source : Table → ℕ → ℕ → ℕ → Option (ℕ × ℕ)
fixed_source table proto address port =
    option_or (port_from table.ports proto address port)
    (with_port port (address_from table.addresses address))

-- what a packet's destination becomes on its way in
abbrev pub destination : Table → ℕ → ℕ → ℕ → ℕ × ℕ
destination table proto address port =
    unwrap_or
    (option_or (port_to table.ports proto address port)
    (with_port port (address_to table.addresses address)))
    (address, port)
