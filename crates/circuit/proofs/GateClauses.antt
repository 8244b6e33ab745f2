-- The clauses of a gate hold where its variable has the gate's value.
use Rattle.std.proofs.Common.{◌≡◌, ℕ, ◌<◌, Bool, true, false, not, ◌&&◌, ◌||◌, List, [], ◌∷◌, length, map, refl, sym, ap, ap₂, ◌∙◌, if◌then◌else◌}
use Rattle.std.specs.List.{list_all, list_any, AllByRecursion}
use Rattle.std.proofs.lemmas.Bool.{false≢true}
use Rattle.std.proofs.lemmas.List.{get_or-map}
use Rattle.std.proofs.lemmas.List.Folds.{list_all-append}
use Rattle.cnf.specs.Clauses.{all_hold, clause_holds, lit_holds}
use Rattle.circuit.specs.declared.gate.Gate.{Gate}
use Rattle.circuit.specs.declared.gate.Gate.TheVariants as gate
use Rattle.circuit.specs.Append.{moved, number_at}
use Rattle.circuit.specs.Clauses.{gate_clauses, no, yes}
use Rattle.circuit.specs.Value.{gate_value, is_input, parts_of, value_at}

-- whether two values are the same
abbrev pub same : Bool → Bool → Bool
same true b = b
same false b = not b

pub same_is : (a b : Bool) → same a b ≡ true → a ≡ b
same_is true true h = refl
same_is true false h = absurd (false≢true h)
same_is false true h = absurd (false≢true h)
same_is false false h = refl

pub is_same : (a b : Bool) → a ≡ b → same a b ≡ true
is_same true true h = refl
is_same true false h = absurd (false≢true (sym h))
is_same false true h = absurd (false≢true h)
is_same false false h = refl

or_false : (b : Bool) → (b || false) ≡ b
or_false true = refl
or_false false = refl

-- ---- the two kinds of clauses of an `and`
each_part : (v : Bool) (values : List Bool) (variable : ℕ) (parts : List ℕ) → value_at values variable ≡ v →
    list_all (clause_holds values) (map (λ part. no variable ∷ yes part ∷ []) parts) ≡ (not v || list_all (value_at values) parts)
each_part true values variable [] is = refl
each_part false values variable [] is = refl
each_part true values variable (part ∷ parts) is =
    ap₂ ◌&&◌ (ap (λ b. not b || (value_at values part || false)) is ∙ or_false (value_at values part)) (each_part true values variable parts is)
each_part false values variable (part ∷ parts) is =
    ap₂ ◌&&◌ (ap (λ b. not b || (value_at values part || false)) is) (each_part false values variable parts is)

some_no : (values : List Bool) (parts : List ℕ) → list_any (lit_holds values) (map no parts) ≡ not (list_all (value_at values) parts)
some_no values [] = refl
some_no values (part ∷ parts) =
    ap (λ t. not (value_at values part) || t) (some_no values parts)
    ∙ elim (value_at values part) as (λ b. (not b || not (list_all (value_at values) parts)) ≡ not (b && list_all (value_at values) parts)) [ true ↦ refl | false ↦ refl ]

-- ---- and of an `or`
no_part : (v : Bool) (values : List Bool) (variable : ℕ) (parts : List ℕ) → value_at values variable ≡ v →
    list_all (clause_holds values) (map (λ part. yes variable ∷ no part ∷ []) parts) ≡ (v || not (list_any (value_at values) parts))
no_part true values variable [] is = refl
no_part false values variable [] is = refl
no_part true values variable (part ∷ parts) is =
    ap₂ ◌&&◌ (ap (λ b. b || (not (value_at values part) || false)) is) (no_part true values variable parts is)
no_part false values variable (part ∷ parts) is =
    ap₂ ◌&&◌ (ap (λ b. b || (not (value_at values part) || false)) is) (no_part false values variable parts is)
    ∙ elim (value_at values part) as (λ b. ((not b || false) && not (list_any (value_at values) parts)) ≡ not (b || list_any (value_at values) parts)) [ true ↦ refl | false ↦ refl ]

some_yes : (values : List Bool) (parts : List ℕ) → list_any (lit_holds values) (map yes parts) ≡ list_any (value_at values) parts
some_yes values [] = refl
some_yes values (part ∷ parts) = ap (λ t. value_at values part || t) (some_yes values parts)

both : (v a : Bool) → ((not v || a) && ((v || not a) && true)) ≡ same v a
both true true = refl
both true false = refl
both false true = refl
both false false = refl

either : (v a : Bool) → ((v || not a) && ((not v || a) && true)) ≡ same v a
either true true = refl
either true false = refl
either false true = refl
either false false = refl

turned : (v p : Bool) → ((not v || (not p || false)) && ((v || (p || false)) && true)) ≡ same v (not p)
turned true true = refl
turned true false = refl
turned false true = refl
turned false false = refl

chosen : (v c a b : Bool) →
    ((not c || (not v || (a || false))) && ((not c || (v || (not a || false))) && ((c || (not v || (b || false))) && ((c || (v || (not b || false))) && true)))) ≡ same v (if c then a else b)
chosen true true true b = refl
chosen true true false b = refl
chosen false true true b = refl
chosen false true false b = refl
chosen true false a true = refl
chosen true false a false = refl
chosen false false a true = refl
chosen false false a false = refl

-- the clauses of a gate whose parts are variables
pub gate_holds : (values : List Bool) (variable : ℕ) (g : Gate) → is_input g ≡ false → all_hold values (gate_clauses variable g) ≡ same (value_at values variable) (gate_value [] values g)
gate_holds values variable (gate.Input number) other = absurd (false≢true (sym other))
gate_holds values variable (gate.And parts) other =
    let v = value_at values variable in
    list_all-append (clause_holds values) (map (λ part. no variable ∷ yes part ∷ []) parts) ((yes variable ∷ map no parts) ∷ [])
    ∙ ap₂ (λ s t. s && (t && true)) (each_part v values variable parts refl) (ap (λ t. v || t) (some_no values parts))
    ∙ both v (list_all (value_at values) parts)
gate_holds values variable (gate.Or parts) other =
    let v = value_at values variable in
    list_all-append (clause_holds values) (map (λ part. yes variable ∷ no part ∷ []) parts) ((no variable ∷ map yes parts) ∷ [])
    ∙ ap₂ (λ s t. s && (t && true)) (no_part v values variable parts refl) (ap (λ t. not v || t) (some_yes values parts))
    ∙ either v (list_any (value_at values) parts)
gate_holds values variable (gate.Not part) other = turned (value_at values variable) (value_at values part)
gate_holds values variable (gate.Ite condition a b) other =
    chosen (value_at values variable) (value_at values condition) (value_at values a) (value_at values b)

-- ---- over variables or over nodes, a gate has one value
pub at_map : (values : List Bool) (variables : List ℕ) (place : ℕ) → place < length variables → value_at values (number_at variables place) ≡ value_at (map (value_at values) variables) place
at_map values variables place within = sym (get_or-map (value_at values) variables place 0 false within)

all_moved : (values : List Bool) (variables parts : List ℕ) → AllByRecursion (λ part. part < length variables) parts → list_all (value_at values) (map (number_at variables) parts) ≡ list_all (value_at (map (value_at values) variables)) parts
all_moved values variables [] within = refl
all_moved values variables (part ∷ parts) within = ap₂ ◌&&◌ (at_map values variables part within.0) (all_moved values variables parts within.1)

any_moved : (values : List Bool) (variables parts : List ℕ) → AllByRecursion (λ part. part < length variables) parts → list_any (value_at values) (map (number_at variables) parts) ≡ list_any (value_at (map (value_at values) variables)) parts
any_moved values variables [] within = refl
any_moved values variables (part ∷ parts) within = ap₂ ◌||◌ (at_map values variables part within.0) (any_moved values variables parts within.1)

pub moved_value : (inputs values : List Bool) (variables : List ℕ) (g : Gate) → is_input g ≡ false → AllByRecursion (λ part. part < length variables) (parts_of g) → gate_value [] values (moved variables g) ≡ gate_value inputs (map (value_at values) variables) g
moved_value inputs values variables (gate.Input number) other within = absurd (false≢true (sym other))
moved_value inputs values variables (gate.And parts) other within = all_moved values variables parts within
moved_value inputs values variables (gate.Or parts) other within = any_moved values variables parts within
moved_value inputs values variables (gate.Not part) other within = ap not (at_map values variables part within.0)
moved_value inputs values variables (gate.Ite condition a b) other within =
    ap (λ t. if t then value_at values (number_at variables a) else value_at values (number_at variables b)) (at_map values variables condition within.0)
    ∙ ap₂ (λ t u. if value_at (map (value_at values) variables) condition then t else u) (at_map values variables a within.1.0) (at_map values variables b within.1.1.0)

pub moved_other : (variables : List ℕ) (g : Gate) → is_input g ≡ false → is_input (moved variables g) ≡ false
moved_other variables (gate.Input number) other = other
moved_other variables g other = refl
