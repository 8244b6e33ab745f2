-- The words of a line give one table or are refused for one reason.
use Rattle.std.proofs.Common.{◌≡◌, ◌⊎◌, inl, inr, ℕ, Bool, true, false, List, [], ◌∷◌, ◌++◌, length, codes, refl, sym, ap, ◌∙◌}
use Rattle.ios_lex.specs.declared.reason.IosReason.{IosReason}
use Rattle.ios_lex.specs.declared.reason.IosReason.TheVariants as reason
use Rattle.ios_lex.specs.Following.{Expected, StopsAt}
use Rattle.ios_lex.specs.NextWords.{NoName}
use Rattle.ios_lex.specs.Phrases.{Words}
use Rattle.ios_lex.proofs.OneStop.{begins_whole, no_begins_behind_stop, stop_is_one}
use Rattle.ios_lex.proofs.OneOpening.{IsFound, SameOpening, one_opening}
use Rattle.ios_nat.specs.declared.entry.AddressEntry.{AddressEntry}
use Rattle.ios_nat.specs.declared.entry.PortEntry.{PortEntry}
use Rattle.ios_nat.specs.declared.kind.Kind.{Kind}
use Rattle.ios_nat.specs.declared.kind.Kind.TheVariants as kinds
use Rattle.ios_nat.specs.Grammar.{IsAddressEntry, IsPool, IsPortEntry, Line, opening_words, source_words}
use Rattle.ios_nat.specs.Reading.{Adds, Fails, IsPoolTaken, IsRefused, IsTaken, Reads, is_address_taken, is_pool_taken, is_port_taken, with_address_entry, with_dynamic_entry, with_pool, with_port_entry}
use Rattle.ios_nat.specs.Refusal.{reason_at}
use Rattle.ios_nat.specs.Table.{Pool, Table}
use Rattle.ios_nat.proofs.OneEntry.{no_two_forms, one_address_entry, one_dynamic_entry, one_pool, one_port_entry}

-- a line opens in one way

abbrev all_kinds : List Kind
all_kinds = kinds.Static ∷ kinds.Dynamic ∷ kinds.Pool ∷ []

kind_of_line : (kind : Kind) → IsFound opening_words all_kinds kind
kind_of_line kinds.Static rest = refl
kind_of_line kinds.Dynamic rest = refl
kind_of_line kinds.Pool rest = refl

one_line_opening : (kind other : Kind) (rest rest' : Words) → opening_words kind ++ rest ≡ opening_words other ++ rest' → SameOpening kind other rest rest'
one_line_opening = one_opening opening_words all_kinds kind_of_line

-- the rest of a line that is read is a whole line, and its name is free

adds_line : (table : Table) (number : ℕ) (rest : Words) (new : Table) (kind : Kind) → Adds table number rest new kind → Line kind false rest
adds_line table number rest new kind (Adds.port entry is free added) = inl (entry, is)
adds_line table number rest new kind (Adds.address entry is free added) = inr (entry, is)
adds_line table number rest new kind (Adds.dynamic entry is line added) = (entry, is)
adds_line table number rest new kind (Adds.pool pool is free added) = (pool, is)

-- the name at which a pool's line is read is the one that is taken
names_are_one : (pools : List Pool) (pool : Pool) (rest : Words) → IsPool false pool rest → IsPoolTaken pools rest → is_pool_taken pools pool.0 ≡ true
names_are_one pools pool rest is used =
    let longer : (pool.0 ∷ []) ++ is.back ≡ used.name ∷ used.more = sym (ap (λ front. front ++ is.back) is.first.0) ∙ sym is.whole ∙ used.begins in
    let same : pool.0 ≡ used.name = cc longer in
    rw same used.taken

adds_free : (table : Table) (number : ℕ) (rest : Words) (new : Table) (kind : Kind) → Adds table number rest new kind → IsTaken table kind rest → ⊥
adds_free table number rest new kind (Adds.port entry is free added) used = cc (used.0)
adds_free table number rest new kind (Adds.address entry is free added) used = cc (used.0)
adds_free table number rest new kind (Adds.dynamic entry is line added) used = cc (used.0)
adds_free table number rest new kind (Adds.pool pool is free added) used = let taken = names_are_one table.pools pool rest is used.1 in cc (taken, free)

-- a line that is read is not refused

port_not_taken : (table : Table) (number : ℕ) (rest : Words) (new : Table) (kind : Kind) (entry : PortEntry) → Adds table number rest new kind → kind ≡ kinds.Static → IsPortEntry entry rest
    → is_port_taken table.ports entry ≡ true → ⊥
port_not_taken table number rest new kind entry (Adds.port other is free added) static spelled taken = let one = one_port_entry other entry rest is spelled in let is_free = rw one at free in cc (is_free, taken)
port_not_taken table number rest new kind entry (Adds.address other is free added) static spelled taken = no_two_forms entry other rest spelled is
port_not_taken table number rest new kind entry (Adds.dynamic other is line added) static spelled taken = cc static
port_not_taken table number rest new kind entry (Adds.pool pool is free added) static spelled taken = cc static

address_not_taken : (table : Table) (number : ℕ) (rest : Words) (new : Table) (kind : Kind) (entry : AddressEntry) → Adds table number rest new kind → kind ≡ kinds.Static → IsAddressEntry entry rest
    → is_address_taken table.addresses entry ≡ true → ⊥
address_not_taken table number rest new kind entry (Adds.port other is free added) static spelled taken = no_two_forms other entry rest is spelled
address_not_taken table number rest new kind entry (Adds.address other is free added) static spelled taken = let one = one_address_entry other entry rest is spelled in let is_free = rw one at free in cc (is_free, taken)
address_not_taken table number rest new kind entry (Adds.dynamic other is line added) static spelled taken = cc static
address_not_taken table number rest new kind entry (Adds.pool pool is free added) static spelled taken = cc static

not_both : (table : Table) (number : ℕ) (rest : Words) (new : Table) (kind : Kind) (why : IosReason) → Adds table number rest new kind → Fails table kind rest why → ⊥
not_both table number rest new kind why adds (Fails.taken used) = adds_free table number rest new kind adds used
not_both table number rest new kind why adds (Fails.stop f m w d b free whole stops) =
    no_begins_behind_stop (Line kind) f rest m w d b stops whole (begins_whole (Line kind false) rest (adds_line table number rest new kind adds))
not_both table number rest new kind why adds (Fails.short free begins ends) = ends (adds_line table number rest new kind adds)
not_both table number rest new kind why adds (Fails.port entry static is taken) = port_not_taken table number rest new kind entry adds static is taken
not_both table number rest new kind why adds (Fails.address entry static is taken) = address_not_taken table number rest new kind entry adds static is taken

-- one table

one_table : (table : Table) (number : ℕ) (rest : Words) (new other : Table) (kind : Kind) → Adds table number rest new kind → Adds table number rest other kind → new ≡ other
one_table table number rest new other kind (Adds.port e is free added) (Adds.port e' is' free' added') = added ∙ ap (with_port_entry table) (one_port_entry e e' rest is is') ∙ sym added'
one_table table number rest new other kind (Adds.port e is free added) (Adds.address e' is' free' added') = absurd (no_two_forms e e' rest is is')
one_table table number rest new other kind (Adds.address e is free added) (Adds.port e' is' free' added') = absurd (no_two_forms e' e rest is' is)
one_table table number rest new other kind (Adds.address e is free added) (Adds.address e' is' free' added') = added ∙ ap (with_address_entry table) (one_address_entry e e' rest is is') ∙ sym added'
one_table table number rest new other kind (Adds.dynamic e is line added) (Adds.dynamic e' is' line' added') = added ∙ ap (with_dynamic_entry table) (one_dynamic_entry e e' rest (line ∙ sym line') is is') ∙ sym added'
one_table table number rest new other kind (Adds.pool p is free added) (Adds.pool p' is' free' added') = added ∙ ap (with_pool table) (one_pool p p' rest is is') ∙ sym added'

-- one reason

static_free : (table : Table) (kind : Kind) (rest : Words) → kind ≡ kinds.Static → IsTaken table kind rest → ⊥
static_free table kind rest static used = cc (static, used.0)

static_line : (kind : Kind) (rest : Words) → kind ≡ kinds.Static → Line kinds.Static false rest → Line kind false rest
static_line kind rest static line = rw static line

reason_of_stop : (kind : Kind) (f f' : Words) (w w' : List ℕ) (d d' : Expected) (b b' : Bool) → f ≡ f' → w ≡ w' → d ≡ d' → b ≡ b' → reason_at kind (length f) d b w ≡ reason_at kind (length f') d' b' w'
reason_of_stop kind f f' w w' d d' b b' front word due over = rw (front, word, due, over) refl

-- a stop against a whole line
no_stop_in_line : (kind : Kind) (rest f m : Words) (w : List ℕ) (d : Expected) (b : Bool) → StopsAt NoName (Line kind) f w d b → rest ≡ f ++ w ∷ m → Line kind false rest → ⊥
no_stop_in_line kind rest f m w d b stops whole line = no_begins_behind_stop (Line kind) f rest m w d b stops whole (begins_whole (Line kind false) rest line)

one_reason : (table : Table) (kind : Kind) (rest : Words) (why other : IosReason) → Fails table kind rest why → Fails table kind rest other → why ≡ other
one_reason table kind rest why other (Fails.taken used) (Fails.taken used') = refl
one_reason table kind rest why other (Fails.taken used) (Fails.stop f m w d b free whole stops) = absurd (free used)
one_reason table kind rest why other (Fails.taken used) (Fails.short free begins ends) = absurd (free used)
one_reason table kind rest why other (Fails.taken used) (Fails.port e static is taken) = absurd (static_free table kind rest static used)
one_reason table kind rest why other (Fails.taken used) (Fails.address e static is taken) = absurd (static_free table kind rest static used)
one_reason table kind rest why other (Fails.stop f m w d b free whole stops) (Fails.taken used) = absurd (free used)
one_reason table kind rest why other (Fails.stop f m w d b free whole stops) (Fails.stop f' m' w' d' b' free' whole' stops') =
    let one = stop_is_one (Line kind) f f' m m' w w' d d' b b' (sym whole ∙ whole') stops stops' in
    reason_of_stop kind f f' w w' d d' b b' one.front_same one.word_same one.due_same one.over_same
one_reason table kind rest why other (Fails.stop f m w d b free whole stops) (Fails.short free' begins ends) = absurd (no_begins_behind_stop (Line kind) f rest m w d b stops whole begins)
one_reason table kind rest why other (Fails.stop f m w d b free whole stops) (Fails.port e static is taken) = absurd (no_stop_in_line kind rest f m w d b stops whole (static_line kind rest static (inl (e, is))))
one_reason table kind rest why other (Fails.stop f m w d b free whole stops) (Fails.address e static is taken) = absurd (no_stop_in_line kind rest f m w d b stops whole (static_line kind rest static (inr (e, is))))
one_reason table kind rest why other (Fails.short free begins ends) (Fails.taken used) = absurd (free used)
one_reason table kind rest why other (Fails.short free begins ends) (Fails.stop f m w d b free' whole stops) = absurd (no_begins_behind_stop (Line kind) f rest m w d b stops whole begins)
one_reason table kind rest why other (Fails.short free begins ends) (Fails.short free' begins' ends') = refl
one_reason table kind rest why other (Fails.short free begins ends) (Fails.port e static is taken) = absurd (ends (static_line kind rest static (inl (e, is))))
one_reason table kind rest why other (Fails.short free begins ends) (Fails.address e static is taken) = absurd (ends (static_line kind rest static (inr (e, is))))
one_reason table kind rest why other (Fails.port e static is taken) (Fails.taken used) = absurd (static_free table kind rest static used)
one_reason table kind rest why other (Fails.port e static is taken) (Fails.stop f m w d b free whole stops) = absurd (no_stop_in_line kind rest f m w d b stops whole (static_line kind rest static (inl (e, is))))
one_reason table kind rest why other (Fails.port e static is taken) (Fails.short free begins ends) = absurd (ends (static_line kind rest static (inl (e, is))))
one_reason table kind rest why other (Fails.port e static is taken) (Fails.port e' static' is' taken') = refl
one_reason table kind rest why other (Fails.port e static is taken) (Fails.address e' static' is' taken') = refl
one_reason table kind rest why other (Fails.address e static is taken) (Fails.taken used) = absurd (static_free table kind rest static used)
one_reason table kind rest why other (Fails.address e static is taken) (Fails.stop f m w d b free whole stops) = absurd (no_stop_in_line kind rest f m w d b stops whole (static_line kind rest static (inr (e, is))))
one_reason table kind rest why other (Fails.address e static is taken) (Fails.short free begins ends) = absurd (ends (static_line kind rest static (inr (e, is))))
one_reason table kind rest why other (Fails.address e static is taken) (Fails.port e' static' is' taken') = refl
one_reason table kind rest why other (Fails.address e static is taken) (Fails.address e' static' is' taken') = refl

-- lines

opened_source : (kind : Kind) (words rest more : Words) (word : List ℕ) → words ≡ opening_words kind ++ rest → words ≡ source_words ++ word ∷ more → (word ≡ codes "static") ⊎ (word ≡ codes "list")
opened_source kinds.Static words rest more word opened whole = inl (cc (opened, whole))
opened_source kinds.Dynamic words rest more word opened whole = inr (cc (opened, whole))
opened_source kinds.Pool words rest more word opened whole = absurd (let no : codes "inside" ≡ codes "pool" = cc (opened, whole) in cc no)

-- a line that is opened is no other
no_other : (kind : Kind) (words rest more : Words) (word : List ℕ) → words ≡ opening_words kind ++ rest → words ≡ source_words ++ word ∷ more → (word ≡ codes "static" → ⊥) → (word ≡ codes "list" → ⊥) → ⊥
no_other kind words rest more word opened whole no_static no_list = elim (opened_source kind words rest more word opened whole) [ inl is ↦ no_static is | inr is ↦ no_list is ]

no_unknown : (kind : Kind) (words rest : Words) → words ≡ opening_words kind ++ rest → ((word : List ℕ) (more : Words) → words ≡ source_words ++ word ∷ more → ⊥)
    → ((rest : Words) → words ≡ opening_words kinds.Pool ++ rest → ⊥) → ⊥
no_unknown kinds.Static words rest opened no_source no_pool = no_source (codes "static") rest opened
no_unknown kinds.Dynamic words rest opened no_source no_pool = no_source (codes "list") rest opened
no_unknown kinds.Pool words rest opened no_source no_pool = no_pool rest opened

pub tables_are_one : (table new other : Table) (number : ℕ) (words : Words) → Reads table number words new → Reads table number words other → new ≡ other
tables_are_one table new other number words x y =
    let one = one_line_opening x.kind y.kind x.rest y.rest (sym x.opened ∙ y.opened) in
    one_table table number x.rest new other x.kind x.adds (rw (one.kind_same, one.rest_same) y.adds)

pub no_refused_reading : (table new : Table) (number : ℕ) (words : Words) (why : IosReason) → Reads table number words new → IsRefused table words why → ⊥
no_refused_reading table new number words why x (IsRefused.rest kind rest why' opened fails) =
    let one = one_line_opening x.kind kind x.rest rest (sym x.opened ∙ opened) in
    not_both table number x.rest new x.kind why x.adds (rw (one.kind_same, one.rest_same) fails)
no_refused_reading table new number words why x (IsRefused.other word more whole no_static no_list) = no_other x.kind words x.rest more word x.opened whole no_static no_list
no_refused_reading table new number words why x (IsRefused.unknown no_source no_pool) = no_unknown x.kind words x.rest x.opened no_source no_pool

pub reasons_are_one : (table : Table) (words : Words) (why other : IosReason) → IsRefused table words why → IsRefused table words other → why ≡ other
reasons_are_one table words why other (IsRefused.rest kind rest w opened fails) (IsRefused.rest kind' rest' w' opened' fails') =
    let one = one_line_opening kind kind' rest rest' (sym opened ∙ opened') in
    one_reason table kind rest why other fails (rw (one.kind_same, one.rest_same) fails')
reasons_are_one table words why other (IsRefused.rest kind rest w opened fails) (IsRefused.other word more whole no_static no_list) = absurd (no_other kind words rest more word opened whole no_static no_list)
reasons_are_one table words why other (IsRefused.rest kind rest w opened fails) (IsRefused.unknown no_source no_pool) = absurd (no_unknown kind words rest opened no_source no_pool)
reasons_are_one table words why other (IsRefused.other word more whole no_static no_list) (IsRefused.rest kind rest w opened fails) = absurd (no_other kind words rest more word opened whole no_static no_list)
reasons_are_one table words why other (IsRefused.other word more whole no_static no_list) (IsRefused.other word' more' whole' no_static' no_list') = let same : word ≡ word' = cc (whole, whole') in ap reason.Unmodelled same
reasons_are_one table words why other (IsRefused.other word more whole no_static no_list) (IsRefused.unknown no_source no_pool) = absurd (no_source word more whole)
reasons_are_one table words why other (IsRefused.unknown no_source no_pool) (IsRefused.rest kind rest w opened fails) = absurd (no_unknown kind words rest opened no_source no_pool)
reasons_are_one table words why other (IsRefused.unknown no_source no_pool) (IsRefused.other word more whole no_static no_list) = absurd (no_source word more whole)
reasons_are_one table words why other (IsRefused.unknown no_source no_pool) (IsRefused.unknown no_source' no_pool') = refl
