-- What calls say of a table of values.
use Rattle.std.specs.Prelude.{◌≡◌, ◌<◌, Bool, true, false, Option, Some, None, List, length, slice_index_or}
use Rattle.proof_check.specs.declared.table.Outcome.{Outcome}
use Rattle.proof_check.specs.declared.table.Outcome.TheVariants as outcome

-- whether literals could all be set false, and the table in which they are
abbrev pub IsAssumed : Option (List (Option Bool)) → Bool → List (Option Bool) → Type 0
IsAssumed None answer table = answer ≡ false
IsAssumed (Some expected) answer table = (answer ≡ true) × (table ≡ expected)

-- the literal that has to be true may be set true
abbrev pub IsFreeUnit : List (Option Bool) → Outcome → Type 0
IsFreeUnit table (outcome.Unit l) = (l.var < length table) × (slice_index_or table l.var None ≡ None)
IsFreeUnit table outcome.Conflict = Unit {0}
IsFreeUnit table outcome.Stuck = Unit {0}
