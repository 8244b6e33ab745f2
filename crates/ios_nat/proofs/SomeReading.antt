-- The words of a line have a reading or a reason.
use Rattle.std.proofs.Common.{◌≡◌, inl, inr, ℕ, Bool, true, false, List, [], ◌∷◌, ◌++◌, length, codes, refl, ap, ◌∙◌}
use Rattle.ios_lex.specs.declared.reason.IosReason.{IosReason}
use Rattle.ios_lex.specs.declared.reason.IosReason.TheVariants as reason
use Rattle.ios_lex.specs.Following.{Begins}
use Rattle.ios_lex.specs.NextWords.{NoName}
use Rattle.ios_lex.specs.Phrases.{Words}
use Rattle.ios_lex.proofs.SomeStop.{some_stop}
use Rattle.ios_nat.specs.declared.entry.AddressEntry.{AddressEntry}
use Rattle.ios_nat.specs.declared.entry.DynamicEntry.{DynamicEntry}
use Rattle.ios_nat.specs.declared.entry.PortEntry.{PortEntry}
use Rattle.ios_nat.specs.declared.kind.Kind.{Kind}
use Rattle.ios_nat.specs.declared.kind.Kind.TheVariants as kinds
use Rattle.ios_nat.specs.Grammar.{IsAddressEntry, IsDynamic, IsPool, IsPortEntry, Line, opening_words, source_words}
use Rattle.ios_nat.specs.Reading.{Adds, Fails, IsRefused, IsTaken, Reads, is_address_taken, is_pool_taken, is_port_taken, with_address_entry, with_dynamic_entry, with_pool, with_port_entry}
use Rattle.ios_nat.specs.Refusal.{reason_at}
use Rattle.ios_nat.specs.Table.{Pool, Table}
use Rattle.ios_nat.proofs.DynamicLines.{some_line as some_dynamic}
use Rattle.ios_nat.proofs.PoolLines.{some_line as some_pool}
use Rattle.ios_nat.proofs.StaticLines.{some_line as some_static}

-- a line of each kind begins
kind_begins : (kind : Kind) → Begins (Line kind false) []
kind_begins kinds.Static = (codes "0.0.0.0" ∷ codes "0.0.0.0" ∷ [], some_static false)
kind_begins kinds.Dynamic = some_dynamic
kind_begins kinds.Pool = some_pool

-- the rest of a line that is neither read nor refused
record IsLost (table : Table) (number : ℕ) (kind : Kind) (rest : Words) : Type 0 where
  pub unread : (new : Table) → Adds table number rest new kind → ⊥
  pub unrefused : (why : IosReason) → Fails table kind rest why → ⊥

no_port : (table : Table) (number : ℕ) (rest : Words) (entry : PortEntry) → IsLost table number kinds.Static rest → IsPortEntry entry rest → ⊥
no_port table number rest entry lost is = by (is_port_taken table.ports entry) refl
  where
    by : (taken : Bool) → is_port_taken table.ports entry ≡ taken → ⊥
    by true taken = lost.unrefused reason.DuplicateStatic (Fails.port entry refl is taken)
    by false free = lost.unread (with_port_entry table entry) (Adds.port entry is free refl)

no_address : (table : Table) (number : ℕ) (rest : Words) (entry : AddressEntry) → IsLost table number kinds.Static rest → IsAddressEntry entry rest → ⊥
no_address table number rest entry lost is = by (is_address_taken table.addresses entry) refl
  where
    by : (taken : Bool) → is_address_taken table.addresses entry ≡ taken → ⊥
    by true taken = lost.unrefused reason.DuplicateStatic (Fails.address entry refl is taken)
    by false free = lost.unread (with_address_entry table entry) (Adds.address entry is free refl)

no_pool : (table : Table) (number : ℕ) (rest : Words) (pool : Pool) → IsLost table number kinds.Pool rest → IsPool false pool rest → ⊥
no_pool table number rest pool lost is = by (is_pool_taken table.pools pool.0) refl
  where
    by : (taken : Bool) → is_pool_taken table.pools pool.0 ≡ taken → ⊥
    by true taken =
        lost.unrefused reason.DuplicatePool
        (Fails.taken (refl, record { name = pool.0; more = is.back; begins = is.whole ∙ ap (λ front. front ++ is.back) is.first.0; is_name = is.first.1 refl; taken = taken }))
    by false free = lost.unread (with_pool table pool) (Adds.pool pool is free refl)

no_dynamic : (table : Table) (number : ℕ) (rest : Words) (entry : DynamicEntry) → IsLost table number kinds.Dynamic rest → IsDynamic false entry rest → ⊥
no_dynamic table number rest entry lost is =
    let numbered : DynamicEntry = record entry { line = number } in
    lost.unread (with_dynamic_entry table numbered) (Adds.dynamic numbered is refl refl)

no_line : (table : Table) (number : ℕ) (kind : Kind) (rest : Words) → IsLost table number kind rest → Line kind false rest → ⊥
no_line table number kinds.Static rest lost (inl (entry, is)) = no_port table number rest entry lost is
no_line table number kinds.Static rest lost (inr (entry, is)) = no_address table number rest entry lost is
no_line table number kinds.Dynamic rest lost line = no_dynamic table number rest line.0 lost line.1
no_line table number kinds.Pool rest lost line = no_pool table number rest line.0 lost line.1

no_rest : (table : Table) (number : ℕ) (kind : Kind) (rest : Words) → IsLost table number kind rest → ⊥
no_rest table number kind rest lost =
    let free : IsTaken table kind rest → ⊥ = λ taken. lost.unrefused reason.DuplicatePool (Fails.taken taken) in
    some_stop NoName (Line kind) rest (kind_begins kind)
    (λ front more word due over whole stops. lost.unrefused (reason_at kind (length front) due over word) (Fails.stop front more word due over free whole stops))
    (λ begins. lost.unrefused reason.BadEntry (Fails.short free begins (no_line table number kind rest lost)))

pub some_reading : (table : Table) (number : ℕ) (words : Words) → ((new : Table) → Reads table number words new → ⊥) → ((why : IosReason) → IsRefused table words why → ⊥) → ⊥
some_reading table number words unread unrefused = unrefused reason.BadEntry (IsRefused.unknown no_source (unopened kinds.Pool))
  where
    unopened : (kind : Kind) (rest : Words) → words ≡ opening_words kind ++ rest → ⊥
    unopened kind rest opened =
        no_rest table number kind rest
        (record {
          unread = λ new adds. unread new (record { kind = kind; rest = rest; opened = opened; adds = adds });
          unrefused = λ why fails. unrefused why (IsRefused.rest kind rest why opened fails);
        })

    no_source : (word : List ℕ) (more : Words) → words ≡ source_words ++ word ∷ more → ⊥
    no_source word more whole =
        unrefused (reason.Unmodelled word)
        (IsRefused.other word more whole (λ is. unopened kinds.Static more (rw is at whole)) (λ is. unopened kinds.Dynamic more (rw is at whole)))
