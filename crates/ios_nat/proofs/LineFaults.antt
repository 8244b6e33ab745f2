-- The reasons of lines that a table does not take.
use Rattle.std.proofs.Common.{◌≡◌, ℕ, false, List, ◌∷◌, ◌++◌, refl, ap, ◌∙◌}
use Rattle.std.proofs.lemmas.Bool.{false_from_ne_true}
use Rattle.ios_lex.specs.declared.reason.IosReason.TheVariants as reason
use Rattle.ios_lex.specs.declared.stop.Stop.{Stop}
use Rattle.ios_lex.specs.NextWords.{NoName}
use Rattle.ios_lex.specs.Phrases.{Words}
use Rattle.ios_lex.specs.Stops.{expected_of, is_lax, IsStop}
use Rattle.ios_lex.proofs.StopReasons.{refused_at_stop}
use Rattle.ios_nat.specs.declared.entry.AddressEntry.{AddressEntry}
use Rattle.ios_nat.specs.declared.entry.PortEntry.{PortEntry}
use Rattle.ios_nat.specs.declared.fault.NatFault.{NatFault}
use Rattle.ios_nat.specs.declared.fault.NatFault.TheVariants as faults
use Rattle.ios_nat.specs.declared.kind.Kind.{Kind}
use Rattle.ios_nat.specs.declared.kind.Kind.TheVariants as kinds
use Rattle.ios_nat.specs.Faults.{IsDuplicate, IsFault, IsRestFault, rest_reason}
use Rattle.ios_nat.specs.Grammar.{IsAddressEntry, IsPool, IsPortEntry, Line, opening_words, source_words, unmodelled}
use Rattle.ios_nat.specs.Reading.{Fails, IsPoolTaken, IsRefused, IsTaken, is_address_taken, is_pool_taken, is_port_taken}
use Rattle.ios_nat.specs.Reading as reading
use Rattle.ios_nat.specs.Refusal.{lax_reason}
use Rattle.ios_nat.specs.Table.{Pool, Table}

-- the fault of the rest of a line is one of the line
pub rest_fault : (table : Table) (kind : Kind) (words rest : Words) (fault : NatFault) → words ≡ opening_words kind ++ rest → IsRestFault table kind rest fault → IsFault table words fault
rest_fault table kind words rest (faults.Refused why) opened fails = reading.rest kind rest why opened fails
rest_fault table kind words rest faults.NoMemory opened fails = tt

-- only lines of pools have names that are taken
pub static_free : (table : Table) (rest : Words) → IsTaken table kinds.Static rest → ⊥
static_free table rest taken = cc (taken.0)

pub dynamic_free : (table : Table) (rest : Words) → IsTaken table kinds.Dynamic rest → ⊥
dynamic_free table rest taken = cc (taken.0)

-- a line is refused where its words stop to begin one
pub stop_fails : (table : Table) (kind : Kind) (rest : Words) (stop : Stop) → (IsTaken table kind rest → ⊥) → IsStop NoName (Line kind) rest stop → Fails table kind rest (rest_reason kind rest stop)
stop_fails table kind rest stop free is =
    refused_at_stop (Line kind) rest stop (Fails table kind rest) (λ _. unmodelled kind) lax_reason
    (λ front more word whole stopped. reading.stop front more word (expected_of stop.due) (is_lax stop.due) free whole stopped)
    (λ begins none. reading.short free begins none) is

-- a line is refused where a side of its entry is taken
pub port_fault : (table : Table) (entry : PortEntry) (rest : Words) (fault : NatFault) → IsPortEntry entry rest → IsDuplicate (is_port_taken table.ports entry) fault → IsRestFault table kinds.Static rest fault
port_fault table entry rest (faults.Refused why) is taken = rw taken.1 (reading.port entry refl is taken.0)
port_fault table entry rest faults.NoMemory is taken = tt

pub address_fault : (table : Table) (entry : AddressEntry) (rest : Words) (fault : NatFault) → IsAddressEntry entry rest → IsDuplicate (is_address_taken table.addresses entry) fault → IsRestFault table kinds.Static rest fault
address_fault table entry rest (faults.Refused why) is taken = rw taken.1 (reading.address entry refl is taken.0)
address_fault table entry rest faults.NoMemory is taken = tt

-- a line of no kind
pub other_refused : (table : Table) (words more : Words) (word : List ℕ) → words ≡ source_words ++ word ∷ more → ((kind : Kind) (rest : Words) → words ≡ opening_words kind ++ rest → ⊥) → IsRefused table words (reason.Unmodelled word)
other_refused table words more word whole none =
    reading.other word more whole (λ is. none kinds.Static more (rw is at whole)) (λ is. none kinds.Dynamic more (rw is at whole))

pub unknown_refused : (table : Table) (words : Words) → ((word : List ℕ) (more : Words) → words ≡ source_words ++ word ∷ more → ⊥) → ((kind : Kind) (rest : Words) → words ≡ opening_words kind ++ rest → ⊥) → IsRefused table words reason.BadEntry
unknown_refused table words no_source none = reading.unknown no_source (none kinds.Pool)

-- a line that is read has a name that is free, where its name is not taken
pub pool_free : (pools : List Pool) (pool : Pool) (rest : Words) → IsPool false pool rest → (IsPoolTaken pools rest → ⊥) → is_pool_taken pools pool.0 ≡ false
pool_free pools pool rest is free =
    false_from_ne_true (is_pool_taken pools pool.0)
    (λ has. free (record { name = pool.0; more = is.back; begins = is.whole ∙ ap (λ front. front ++ is.back) is.first.0; is_name = is.first.1 refl; taken = has }))
