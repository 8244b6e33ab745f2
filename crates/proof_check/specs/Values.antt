-- What is known of some of the variables, and what it makes of literals and clauses.
use Rattle.std.specs.Prelude.{◌==◌, ◌&&◌, Bool, true, false, not, Option, Some, None, List, slice_index_or, slice_set}
use Rattle.std.specs.Option.{option_map}
use Rattle.std.specs.List.{filter}
use Rattle.cnf.specs.declared.lit.Lit.{Lit}
use Rattle.cnf.specs.Clauses.{signed}

-- what is known of a literal, by what is known of its variable
abbrev pub value_of : List (Option Bool) → Lit → Option Bool
value_of table l = option_map (signed l.negative) (slice_index_or table l.var None)

-- by what a literal is: free, false or true
abbrev pub by_value : {A : Type 0} → Option Bool → A → A → A → A
by_value None free on_false on_true = free
by_value (Some false) free on_false on_true = on_false
by_value (Some true) free on_false on_true = on_true

-- the table in which a literal has become true, and one in which it has become false
abbrev pub with_true : List (Option Bool) → Lit → List (Option Bool)
with_true table l = slice_set table l.var (Some (not l.negative))

abbrev pub with_false : List (Option Bool) → Lit → List (Option Bool)
with_false table l = slice_set table l.var (Some l.negative)

-- the literals that are not false
abbrev pub remaining : List (Option Bool) → List Lit → List Lit
remaining table lits = filter (λ l. by_value (value_of table l) true false true) lits

abbrev pub same_sign : Bool → Bool → Bool
same_sign true sign = sign
same_sign false sign = not sign

abbrev pub same_lit : Lit → Lit → Bool
same_lit a b = (a.var == b.var) && same_sign a.negative b.negative
