-- Unit propagation by one clause after another.
use Rattle.std.specs.Prelude.{ℕ, ◌+◌, Bool, Option, Some, None, List, [], ◌∷◌, if◌then◌else◌}
use Rattle.std.specs.List.{list_all}
use Rattle.cnf.specs.declared.lit.Lit.{Lit}
use Rattle.proof_check.specs.declared.table.Outcome.{Outcome}
use Rattle.proof_check.specs.declared.table.Outcome.TheVariants as outcome
use Rattle.proof_check.specs.Values.{by_value, remaining, same_lit, value_of, with_false, with_true}

-- where all literals are false the clause is in conflict; where all but one are, and nothing is known of that one, it
-- has to be true; a literal that is written twice counts once
abbrev pub outcome_of : List (Option Bool) → List Lit → Outcome
outcome_of table [] = outcome.Conflict
outcome_of table (l ∷ ls) =
    by_value (value_of table l)
    (if list_all (same_lit l) ls then outcome.Unit l else outcome.Stuck)
    outcome.Stuck
    outcome.Stuck

abbrev pub propagates : List (Option Bool) → List Lit → Outcome
propagates table lits = outcome_of table (remaining table lits)

-- the literals set false, in order; None where one stands with its negative
abbrev pub assumed : List (Option Bool) → List Lit → Option (List (Option Bool))
assumed table [] = Some table
assumed table (l ∷ ls) =
    by_value (value_of table l) (assumed (with_false table l) ls) (assumed table ls) None

abbrev pub by_outcome : {A : Type 0} → Outcome → A → (Lit → A) → A → A
by_outcome outcome.Conflict conflict unit stuck = conflict
by_outcome (outcome.Unit l) conflict unit stuck = unit l
by_outcome outcome.Stuck conflict unit stuck = stuck

-- a conflict ends the hints: a further one is a fault
abbrev pub behind_conflict : List (Option (List Lit)) → ℕ → Option ℕ
behind_conflict [] place = None
behind_conflict (clause ∷ clauses) place = Some (place + 1)

-- the place of the first hint that is a fault, where they are counted from this place on; None where each but the last
-- makes a literal true and the last is in conflict. A hint that names no live clause is a fault, and so is their end
-- before a conflict
abbrev pub hint_fault : List (Option Bool) → List (Option (List Lit)) → ℕ → Option ℕ
hint_fault table [] place = Some place
hint_fault table (None ∷ clauses) place = Some place
hint_fault table (Some clause ∷ clauses) place =
    by_outcome (propagates table clause)
    (behind_conflict clauses place)
    (λ l. hint_fault (with_true table l) clauses (place + 1))
    (Some place)
