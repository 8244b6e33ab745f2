-- The parts of a line as kinds of words, whatever their values. Private calls are stated by them, and no public one.
use Rattle.std.specs.Prelude.{◌≡◌, ℕ, Bool, true, false, List, [], ◌∷◌, codes}
use Rattle.std.specs.Bool.{if◌then◌else◌}
use Rattle.ios_lex.specs.NextWords.{SomeAddress, SomeName, SomeNumber, IsAddressOf}
use Rattle.ios_lex.specs.Phrases.{Words, Then}
use Rattle.ios_nat.specs.declared.entry.AddressEntry.{AddressEntry}
use Rattle.ios_nat.specs.declared.dynamics.DynamicWords.{DynamicWords}
use Rattle.ios_nat.specs.declared.entry.DynamicEntry.{DynamicEntry}
use Rattle.ios_nat.specs.declared.entry.DynamicFrom.{DynamicFrom}
use Rattle.ios_nat.specs.declared.entry.DynamicFrom.TheVariants as from
use Rattle.ios_nat.specs.declared.entry.PortEntry.{PortEntry}
use Rattle.ios_nat.specs.declared.kind.Kind.TheVariants as kinds
use Rattle.ios_nat.specs.Grammar.{unmodelled, AreOptions, IsPortOf, IsLastOf, IsSize, IsOverload, IsPortEntry, IsAddressEntry}
use Rattle.ios_nat.specs.Reading.{is_port_taken, is_address_taken, with_port_entry, with_address_entry}
use Rattle.ios_nat.specs.Table.{Table}
use Rattle.ios_nat.specs.declared.statics.StaticEntry.{StaticEntry}
use Rattle.ios_nat.specs.declared.statics.StaticEntry.TheVariants as static_entry

abbrev pub Options : Bool → Bool → Bool → Words → Type 0
Options extendable alias lax = AreOptions extendable alias

abbrev pub SomePort : Bool → Words → Type 0
SomePort = SomeNumber 0 65535

-- what stands behind the protocol of an entry for a port
abbrev pub IsPortEnd : PortEntry → Words → Type 0
IsPortEnd entry =
    Then (IsAddressOf entry.local) (
    Then (IsPortOf entry.local_port) (
    Then (IsAddressOf entry.global) (
    Then (IsPortOf entry.global_port) (
    AreOptions true true))))

abbrev pub SomeGlobalPort : Bool → Words → Type 0
SomeGlobalPort lax = Then (SomePort lax) (Options true true lax)

abbrev pub SomeGlobalSide : Bool → Words → Type 0
SomeGlobalSide lax = Then (SomeAddress lax) (SomeGlobalPort lax)

abbrev pub SomeLocalPort : Bool → Words → Type 0
SomeLocalPort lax = Then (SomePort lax) (SomeGlobalSide lax)

abbrev pub SomePortEnd : Bool → Words → Type 0
SomePortEnd lax = Then (SomeAddress lax) (SomeLocalPort lax)

-- what stands behind the local side of an entry for an address
abbrev pub IsGlobalEnd : ℕ → Words → Type 0
IsGlobalEnd global = Then (IsAddressOf global) (AreOptions true true)

abbrev pub SomeGlobalEnd : Bool → Words → Type 0
SomeGlobalEnd lax = Then (SomeAddress lax) (Options true true lax)

abbrev pub IsStatic : StaticEntry → Words → Type 0
IsStatic (static_entry.Port entry) words = IsPortEntry entry words
IsStatic (static_entry.Address entry) words = IsAddressEntry entry words

-- what stands behind the name of a pool, and behind its first address
abbrev pub SomeLast : ℕ → Bool → Words → Type 0
SomeLast first lax words = (last : ℕ) × IsLastOf lax first last words

abbrev pub SomePoolEnd : ℕ → Bool → Words → Type 0
SomePoolEnd first lax = Then (SomeLast first lax) (IsSize lax)

abbrev pub SomeRange : Bool → Words → Type 0
SomeRange lax words = (first : ℕ) × Then (IsAddressOf first) (SomePoolEnd first lax) words

abbrev pub SomePoolName : Bool → Words → Type 0
SomePoolName = SomeName (unmodelled kinds.Pool)

-- what stands behind the list of a dynamic entry
abbrev pub SomeListName : Bool → Words → Type 0
SomeListName = SomeName (unmodelled kinds.Dynamic)

-- where the addresses come from, by the word before the name
abbrev pub from_of : Bool → List ℕ → DynamicFrom
from_of true name = from.Pool name
from_of false name = from.Interface name

abbrev pub IsFrom : Bool → Words → Type 0
IsFrom pool words = words ≡ (if pool then codes "pool" else codes "interface") ∷ []

abbrev pub SomeFromWord : Bool → Words → Type 0
SomeFromWord lax words = (pool : Bool) × IsFrom pool words

abbrev pub SomeOverload : Bool → Words → Type 0
SomeOverload lax words = (overload : Bool) × IsOverload overload words

abbrev pub SomeNameEnd : Bool → Words → Type 0
SomeNameEnd lax = Then (SomeListName lax) (SomeOverload lax)

abbrev pub SomeFromEnd : Bool → Words → Type 0
SomeFromEnd lax = Then (SomeFromWord lax) (SomeNameEnd lax)

-- the entry of these words
abbrev pub dynamic_entry : ℕ → DynamicWords → DynamicEntry
dynamic_entry line words = record {
  line = line;
  list = words.list.now;
  from = from_of words.pool words.name.now;
  overload = words.overload;
}

-- the entry comes into the table, if none has one of its sides
abbrev pub AddsPort : Table → PortEntry → Table → Type 0
AddsPort table entry new =
    (is_port_taken table.ports entry ≡ false) × (new ≡ with_port_entry table entry)

abbrev pub AddsAddress : Table → AddressEntry → Table → Type 0
AddsAddress table entry new =
    (is_address_taken table.addresses entry ≡ false) × (new ≡ with_address_entry table entry)
