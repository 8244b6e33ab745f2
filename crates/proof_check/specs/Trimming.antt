-- What is left of a derivation when it is trimmed: the steps from which the first empty clause can be reached by hints.
use Rattle.std.specs.Prelude.{◌==◌, ◌&&◌, ◌||◌, ◌+◌, ◌-◌, ℕ, zero, suc, nat_lt, Bool, true, false, not, List, [], ◌∷◌, ◌++◌, map, if◌then◌else◌}
use Rattle.std.specs.List.{filter, list_any, range_with_len}
use Rattle.certificates.specs.declared.derivation.Step.{Step}
use Rattle.certificates.specs.declared.derivation.Item.{Item}
use Rattle.certificates.specs.declared.derivation.Item.TheVariants as item
use Rattle.proof_check.specs.Derivations.{is_empty}

-- the steps up to the first with the empty clause
abbrev pub steps_to_empty : List Item → List Step
steps_to_empty [] = []
steps_to_empty (item.Add step ∷ items) =
    if is_empty step.clause then step ∷ [] else step ∷ steps_to_empty items
steps_to_empty (item.Delete numbers ∷ items) = steps_to_empty items

abbrev pub names : Step → ℕ → Bool
names step number = list_any (λ hint. hint == number) step.hints

abbrev pub is_end : List Step → Bool
is_end [] = true
is_end (step ∷ later) = false

-- one of the steps, which have the numbers from `first` on, is needed and names this number; the last one is needed, and so
-- is one that a later needed one names
abbrev pub is_named : ℕ → ℕ → List Step → Bool
is_named number first [] = false
is_named number first (step ∷ later) =
    ((is_end later || is_named first (first + 1) later) && names step number)
    || is_named number (first + 1) later

-- the step with this number, behind which these come, is needed
abbrev pub is_needed : ℕ → List Step → Bool
is_needed number later = is_end later || is_named number (number + 1) later

-- whether a number is kept: the numbers before `first` are, and of the steps those that are needed
abbrev pub is_kept : ℕ → List Step → ℕ → Bool
is_kept first [] number = nat_lt number first
is_kept first (step ∷ later) number =
    if number == first then is_needed first later else is_kept (first + 1) later number

-- how many of the numbers up to this one are kept
abbrev pub new_number : (ℕ → Bool) → ℕ → ℕ
new_number kept zero = zero
new_number kept (suc number) =
    if kept (suc number) then new_number kept number + 1 else new_number kept number

-- the steps that are named by this one and by no later one that is needed, as numbers that rise
abbrev pub last_named : ℕ → ℕ → Step → List Step → List ℕ
last_named given number step later =
    filter (λ n. names step n && not (is_named n (number + 1) later))
    (range_with_len (given + 1) (number - (given + 1)))

abbrev pub deletion : List ℕ → List Item
deletion [] = []
deletion (number ∷ numbers) = item.Delete (number ∷ numbers) ∷ []

-- the needed steps; behind each but the last what is named no more is deleted
abbrev pub needed_items : ℕ → ℕ → List Step → List Item
needed_items given first [] = []
needed_items given first (step ∷ later) =
    if is_needed first later
    then item.Add step
    ∷ ((if is_end later then [] else deletion (last_named given first step later))
    ++ needed_items given (first + 1) later)
    else needed_items given (first + 1) later

abbrev pub renumbered : (ℕ → ℕ) → Item → Item
renumbered new (item.Add step) = item.Add (record { clause = step.clause; hints = map new step.hints })
renumbered new (item.Delete numbers) = item.Delete (map new numbers)

-- over so many given clauses
abbrev pub trimmed : ℕ → List Item → List Item
trimmed given items =
    map (renumbered (new_number (is_kept (given + 1) (steps_to_empty items))))
    (needed_items given (given + 1) (steps_to_empty items))
