-- What the words of a line on address translation spell (Cisco IOS command references, `ip nat inside source` and
-- `ip nat pool`). Where a line is lax, every word is a name, a pool may end before it begins, and every address is a mask.
use Rattle.std.specs.Prelude.{◌≡◌, ◌⊎◌, ℕ, ◌≤◌, Bool, true, false, List, [], ◌∷◌, codes}
use Rattle.ios_lex.specs.NextWords.{IsAddressOf, IsNameOf, IsNumberOf, SomeMask, SomeNumber}
use Rattle.ios_lex.specs.Phrases.{Words, Then}
use Rattle.ios_nat.specs.declared.entry.AddressEntry.{AddressEntry}
use Rattle.ios_nat.specs.declared.entry.DynamicEntry.{DynamicEntry}
use Rattle.ios_nat.specs.declared.entry.DynamicFrom.{DynamicFrom}
use Rattle.ios_nat.specs.declared.entry.DynamicFrom.TheVariants as from
use Rattle.ios_nat.specs.declared.entry.PortEntry.{PortEntry}
use Rattle.ios_nat.specs.declared.kind.Kind.{Kind}
use Rattle.ios_nat.specs.declared.kind.Kind.TheVariants as kinds
use Rattle.ios_nat.specs.Table.{Pool}

abbrev pub source_words : Words
source_words = codes "ip" ∷ codes "nat" ∷ codes "inside" ∷ codes "source" ∷ []

-- the words that a line of a kind begins with
abbrev pub opening_words : Kind → Words
opening_words kinds.Static =
    codes "ip" ∷ codes "nat" ∷ codes "inside" ∷ codes "source" ∷ codes "static" ∷ []
opening_words kinds.Dynamic =
    codes "ip" ∷ codes "nat" ∷ codes "inside" ∷ codes "source" ∷ codes "list" ∷ []
opening_words kinds.Pool = codes "ip" ∷ codes "nat" ∷ codes "pool" ∷ []

-- words that narrow or widen what a line of a kind translates in a way that is not modelled
abbrev pub unmodelled : Kind → Words
unmodelled kinds.Static =
    codes "network" ∷ codes "interface" ∷ codes "route-map" ∷ codes "vrf" ∷ codes "redundancy" ∷ []
unmodelled kinds.Dynamic = codes "route-map" ∷ codes "vrf" ∷ codes "reversible" ∷ codes "oer" ∷ []
unmodelled kinds.Pool = codes "type" ∷ codes "add-route" ∷ []

-- each of two words without effect may stand once, in any order, and is left out of those that may still stand
abbrev pub AreOptions : Bool → Bool → Words → Type 0
AreOptions extendable alias [] = Unit {0}
AreOptions extendable alias (word ∷ words) =
    ((extendable ≡ true) × (word ≡ codes "extendable") × AreOptions false alias words)
    ⊎ ((alias ≡ true) × (word ≡ codes "no-alias") × AreOptions extendable false words)

-- a port is a number
abbrev pub IsPortOf : ℕ → Words → Type 0
IsPortOf = IsNumberOf 0 65535

-- the number of TCP is 6, that of UDP 17
pub data IsProto (proto : ℕ) (words : Words) : Type 0 where
  tcp : words ≡ codes "tcp" ∷ [] → proto ≡ 6 → IsProto proto words
  udp : words ≡ codes "udp" ∷ [] → proto ≡ 17 → IsProto proto words

abbrev pub IsPortEntry : PortEntry → Words → Type 0
IsPortEntry entry =
    Then (IsProto entry.proto) (
    Then (IsAddressOf entry.local) (
    Then (IsPortOf entry.local_port) (
    Then (IsAddressOf entry.global) (
    Then (IsPortOf entry.global_port) (
    AreOptions true true)))))

abbrev pub IsAddressEntry : AddressEntry → Words → Type 0
IsAddressEntry entry =
    Then (IsAddressOf entry.local) (Then (IsAddressOf entry.global) (AreOptions true true))

-- the last address of a pool that begins with this one
abbrev pub IsLastOf : Bool → ℕ → ℕ → Words → Type 0
IsLastOf lax first last words = IsAddressOf last words × (lax ≡ false → first ≤ last)

-- the size of a pool's network, which has no effect: a mask, or the length of its prefix
pub data IsSize (lax : Bool) (words : Words) : Type 0 where
  mask : (rest : Words) → words ≡ codes "netmask" ∷ rest → SomeMask lax rest → IsSize lax words
  prefix : (rest : Words) → words ≡ codes "prefix-length" ∷ rest → SomeNumber 1 32 lax rest
      → IsSize lax words

abbrev pub IsPool : Bool → Pool → Words → Type 0
IsPool lax pool =
    Then (IsNameOf (unmodelled kinds.Pool) lax pool.0) (
    Then (IsAddressOf pool.1.0) (
    Then (IsLastOf lax pool.1.0 pool.1.1) (
    IsSize lax)))

abbrev pub from_word : DynamicFrom → List ℕ
from_word (from.Pool name) = codes "pool"
from_word (from.Interface name) = codes "interface"

abbrev pub from_name : DynamicFrom → List ℕ
from_name (from.Pool name) = name
from_name (from.Interface name) = name

abbrev pub IsFromWord : DynamicFrom → Words → Type 0
IsFromWord source words = words ≡ from_word source ∷ []

-- that several sources share an address
pub data IsOverload (overload : Bool) (words : Words) : Type 0 where
  none : words ≡ [] → overload ≡ false → IsOverload overload words
  some : words ≡ codes "overload" ∷ [] → overload ≡ true → IsOverload overload words

-- the entry, whatever the number of its line
abbrev pub IsDynamic : Bool → DynamicEntry → Words → Type 0
IsDynamic lax entry =
    Then (IsNameOf (unmodelled kinds.Dynamic) lax entry.list) (
    Then (IsFromWord entry.from) (
    Then (IsNameOf (unmodelled kinds.Dynamic) lax (from_name entry.from)) (
    IsOverload entry.overload)))

-- what may stand behind the opening of a line of a kind
abbrev pub Line : Kind → Bool → Words → Type 0
Line kinds.Static lax words =
    ((entry : PortEntry) × IsPortEntry entry words)
    ⊎ ((entry : AddressEntry) × IsAddressEntry entry words)
Line kinds.Dynamic lax words = (entry : DynamicEntry) × IsDynamic lax entry words
Line kinds.Pool lax words = (pool : Pool) × IsPool lax pool words
