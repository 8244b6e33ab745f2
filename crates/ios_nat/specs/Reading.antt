-- What a table becomes with the words of one more line, or why the line is refused.
use Rattle.std.specs.Prelude.{◌≡◌, ◌||◌, ℕ, Bool, true, false, List, [], ◌∷◌, ◌++◌, length, is_some, codes}
use Rattle.ios_lex.specs.declared.reason.IosReason.{IosReason}
use Rattle.ios_lex.specs.declared.reason.IosReason.TheVariants as reason
use Rattle.ios_lex.specs.Following.{Begins, Expected, StopsAt}
use Rattle.ios_lex.specs.NextWords.{IsNameBeside, NoName}
use Rattle.ios_lex.specs.Phrases.{Words}
use Rattle.ios_nat.specs.declared.entry.AddressEntry.{AddressEntry}
use Rattle.ios_nat.specs.declared.entry.DynamicEntry.{DynamicEntry}
use Rattle.ios_nat.specs.declared.entry.PortEntry.{PortEntry}
use Rattle.ios_nat.specs.declared.kind.Kind.{Kind}
use Rattle.ios_nat.specs.declared.kind.Kind.TheVariants as kinds
use Rattle.ios_nat.specs.Grammar.{source_words, opening_words, unmodelled, IsPortEntry, IsAddressEntry, IsDynamic, IsPool, Line}
use Rattle.ios_nat.specs.Refusal.{reason_at}
use Rattle.ios_nat.specs.Table.{Table, Pool, pool_named}
use Rattle.ios_nat.specs.Translation.{port_from, port_to, address_from, address_to}

-- an entry has the local side of this one, or its global side
abbrev pub is_port_taken : List PortEntry → PortEntry → Bool
is_port_taken entries entry =
    is_some (port_from entries entry.proto entry.local entry.local_port)
    || is_some (port_to entries entry.proto entry.global entry.global_port)

abbrev pub is_address_taken : List AddressEntry → AddressEntry → Bool
is_address_taken entries entry =
    is_some (address_from entries entry.local) || is_some (address_to entries entry.global)

abbrev pub is_pool_taken : List Pool → List ℕ → Bool
is_pool_taken pools name = is_some (pool_named pools name)

abbrev pub with_port_entry : Table → PortEntry → Table
with_port_entry table entry = record table { ports = table.ports ++ entry ∷ [] }

abbrev pub with_address_entry : Table → AddressEntry → Table
with_address_entry table entry = record table { addresses = table.addresses ++ entry ∷ [] }

abbrev pub with_pool : Table → Pool → Table
with_pool table pool = record table { pools = table.pools ++ pool ∷ [] }

abbrev pub with_dynamic_entry : Table → DynamicEntry → Table
with_dynamic_entry table entry = record table { dynamic = table.dynamic ++ entry ∷ [] }

-- what the rest of a line of a kind, the line of this number, makes of a table
pub data Adds (table : Table) (number : ℕ) (rest : Words) (new : Table) : Kind → Type 0 where
  port : (entry : PortEntry) → IsPortEntry entry rest → is_port_taken table.ports entry ≡ false
      → new ≡ with_port_entry table entry → Adds table number rest new kinds.Static
  address : (entry : AddressEntry) → IsAddressEntry entry rest
      → is_address_taken table.addresses entry ≡ false → new ≡ with_address_entry table entry
      → Adds table number rest new kinds.Static
  dynamic : (entry : DynamicEntry) → IsDynamic false entry rest → entry.line ≡ number
      → new ≡ with_dynamic_entry table entry → Adds table number rest new kinds.Dynamic
  pool : (pool : Pool) → IsPool false pool rest → is_pool_taken table.pools pool.0 ≡ false
      → new ≡ with_pool table pool → Adds table number rest new kinds.Pool

-- the line of this number gives the table
pub record Reads (table : Table) (number : ℕ) (words : Words) (new : Table) : Type 0 where
  pub kind : Kind
  pub rest : Words
  pub opened : words ≡ opening_words kind ++ rest
  pub adds : Adds table number rest new kind

-- the rest of a line begins with a name that a pool of the table has
pub record IsPoolTaken (pools : List Pool) (rest : Words) : Type 0 where
  pub name : List ℕ
  pub more : Words
  pub begins : rest ≡ name ∷ more
  pub is_name : IsNameBeside (unmodelled kinds.Pool) name
  pub taken : is_pool_taken pools name ≡ true

-- the line has the name of another pool
abbrev pub IsTaken : Table → Kind → Words → Type 0
IsTaken table kind rest = (kind ≡ kinds.Pool) × IsPoolTaken table.pools rest

-- why the rest of a line of a kind is refused
pub data Fails (table : Table) (kind : Kind) (rest : Words) : IosReason → Type 0 where
  -- a pool has its name, which shows at the name
  taken : IsTaken table kind rest → Fails table kind rest reason.DuplicatePool
  -- it goes wrong at a word
  stop : (front more : Words) (word : List ℕ) (expected : Expected) (over : Bool)
      → (IsTaken table kind rest → ⊥)
      → rest ≡ front ++ word ∷ more → StopsAt NoName (Line kind) front word expected over
      → Fails table kind rest (reason_at kind (length front) expected over word)
  -- it ends too early
  short : (IsTaken table kind rest → ⊥) → Begins (Line kind false) rest → (Line kind false rest → ⊥)
      → Fails table kind rest reason.BadEntry
  -- a static entry of its form has one of its sides
  port : (entry : PortEntry) → kind ≡ kinds.Static → IsPortEntry entry rest
      → is_port_taken table.ports entry ≡ true → Fails table kind rest reason.DuplicateStatic
  address : (entry : AddressEntry) → kind ≡ kinds.Static → IsAddressEntry entry rest
      → is_address_taken table.addresses entry ≡ true → Fails table kind rest reason.DuplicateStatic

-- why a line is refused
pub data IsRefused (table : Table) (words : Words) : IosReason → Type 0 where
  rest : (kind : Kind) (rest : Words) (why : IosReason) → words ≡ opening_words kind ++ rest
      → Fails table kind rest why → IsRefused table words why
  -- another way to translate the sources of packets
  other : (word : List ℕ) (more : Words) → words ≡ source_words ++ word ∷ more
      → (word ≡ codes "static" → ⊥) → (word ≡ codes "list" → ⊥)
      → IsRefused table words (reason.Unmodelled word)
  -- no line on address translation begins so
  unknown : ((word : List ℕ) (more : Words) → words ≡ source_words ++ word ∷ more → ⊥)
      → ((rest : Words) → words ≡ opening_words kinds.Pool ++ rest → ⊥)
      → IsRefused table words reason.BadEntry
