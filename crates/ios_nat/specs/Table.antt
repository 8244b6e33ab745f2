-- What the lines of a configuration on address translation say (Cisco IOS command references, `ip nat inside source`
-- and `ip nat pool`).
use Rattle.std.specs.Prelude.{ℕ, List, Option}
use Rattle.std.specs.Map.{lookup}
use Rattle.std.specs.Str.{bytes_eq}
use Rattle.ios_nat.specs.declared.entry.AddressEntry.{AddressEntry}
use Rattle.ios_nat.specs.declared.entry.DynamicEntry.{DynamicEntry}
use Rattle.ios_nat.specs.declared.entry.PortEntry.{PortEntry}

-- a pool's name, and its first and last address
abbrev pub Pool : Type 0
Pool = List ℕ × (ℕ × ℕ)

-- the entries of each kind, in the order of their lines
pub record Table : Type 0 where
  pub ports : List PortEntry
  pub addresses : List AddressEntry
  pub pools : List Pool
  pub dynamic : List DynamicEntry

-- the first and the last address of the pool of this name
abbrev pub pool_named : List Pool → List ℕ → Option (ℕ × ℕ)
pool_named pools name = lookup (bytes_eq name) pools
