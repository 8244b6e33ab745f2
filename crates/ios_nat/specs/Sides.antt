-- The two sides of static entries.
use Rattle.std.specs.Prelude.{ℕ, Bool, List, map}
use Rattle.std.specs.List.{IsDistinct}
use Rattle.ios_nat.specs.declared.entry.PortEntry.{PortEntry}
use Rattle.ios_nat.specs.declared.entry.Side.{Side}
use Rattle.ios_nat.specs.contracts.entry.SidePartialEq.TheImpl as side_eq

-- a protocol, an address and a port
abbrev pub side : ℕ → ℕ → ℕ → Side
side proto address port = record { proto = proto; address = address; port = port }

abbrev pub local_side : PortEntry → Side
local_side entry = side entry.proto entry.local entry.local_port

abbrev pub global_side : PortEntry → Side
global_side entry = side entry.proto entry.global entry.global_port

-- the derived test of equal sides
abbrev pub same_side : Side → Side → Bool
same_side = (side_eq.ghosts).eq

-- no two of the entries have one key
abbrev pub AreOnce : {E K : Type 0} → (K → K → Bool) → (E → K) → List E → Type 0
AreOnce same key entries = IsDistinct same (map key entries)
