-- Maps that find entries of a list by their sides. Private facts are stated by them, and no public one.
use Rattle.std.specs.Prelude.{◌≡◌, ℕ, Bool, List, find, nat_eq, option_map}
use Rattle.std.specs.HashMap.{HashMap, get}
use Rattle.ios_nat.specs.declared.entry.AddressEntry.{AddressEntry}
use Rattle.ios_nat.specs.declared.entry.PortEntry.{PortEntry}
use Rattle.ios_nat.specs.declared.entry.Side.{Side}
use Rattle.ios_nat.specs.Sides.{AreOnce, global_side, local_side, same_side}

-- at each key the map has what the first entry with that key gives
abbrev pub IsIndex : {E K V S : Type 0} → (K → K → Bool) → (E → K) → (E → V)
    → List E → HashMap K V S → Type 0
IsIndex {K = K} same key gives entries index =
    (k : K) → get same index k ≡ option_map gives (find (λ entry. same k (key entry)) entries)

pub record ArePortEntries {S T : Type 0} (entries : List PortEntry)
    (globals : HashMap Side (ℕ × ℕ) S) (locals : HashMap Side (ℕ × ℕ) T) : Type 0 where
  pub globals_found :
      IsIndex same_side local_side (λ entry. (entry.global, entry.global_port)) entries globals
  pub locals_found :
      IsIndex same_side global_side (λ entry. (entry.local, entry.local_port)) entries locals
  pub locals_once : AreOnce same_side local_side entries
  pub globals_once : AreOnce same_side global_side entries

pub record AreAddressEntries {S T : Type 0} (entries : List AddressEntry)
    (globals : HashMap ℕ ℕ S) (locals : HashMap ℕ ℕ T) : Type 0 where
  pub globals_found :
      IsIndex nat_eq (λ (entry : AddressEntry). entry.local) (λ entry. entry.global)
      entries globals
  pub locals_found :
      IsIndex nat_eq (λ (entry : AddressEntry). entry.global) (λ entry. entry.local)
      entries locals
  pub locals_once : AreOnce nat_eq (λ (entry : AddressEntry). entry.local) entries
  pub globals_once : AreOnce nat_eq (λ (entry : AddressEntry). entry.global) entries
