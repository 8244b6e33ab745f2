-- Which derivations are accepted, and what is wrong with others: reverse unit propagation with hints and deletions.
use Rattle.std.specs.Prelude.{◌≡◌, ℕ, zero, suc, ◌+◌, ◌||◌, nat_lt, Bool, true, false, Option, Some, None, List, [], ◌∷◌, ◌++◌, map, replicate, slice_index_or, slice_set, if◌then◌else◌, Result, MatchResult, ◌⊎◌}
use Rattle.std.specs.List.{list_all}
use Rattle.cnf.specs.declared.lit.Lit.{Lit}
use Rattle.certificates.specs.declared.derivation.Step.{Step}
use Rattle.certificates.specs.declared.derivation.Item.{Item}
use Rattle.certificates.specs.declared.derivation.Item.TheVariants as item
use Rattle.proof_check.specs.declared.fault.CheckFault.{CheckFault}
use Rattle.proof_check.specs.declared.fault.CheckFault.TheVariants as fault
use Rattle.proof_check.specs.Propagation.{assumed, hint_fault}

-- the clauses by their numbers, from 1; None for one that was deleted
abbrev pub Live : Type 0
Live = List (Option (List Lit))

-- the clause of a number; None where it is none, or is deleted
abbrev pub live_at : Live → ℕ → Option (List Lit)
live_at live zero = None
live_at live (suc place) = slice_index_or live place None

abbrev pub without : Live → ℕ → Live
without live zero = live
without live (suc place) = slice_set live place None

abbrev pub is_in_range : ℕ → List Lit → Bool
is_in_range vars lits = list_all (λ l. nat_lt l.var vars) lits

abbrev pub by_option : {A B : Type 0} → Option A → B → (A → B) → B
by_option None none some = none
by_option (Some x) none some = some x

-- the place of the hint that is a fault, by the list of the clauses that are hinted; 0 for a clause that has a literal with
-- its negative
abbrev pub fault_by : ℕ → List (Option (List Lit)) → List Lit → Option ℕ
fault_by vars hinted lits =
    by_option (assumed (replicate vars None) lits) (Some 0) (λ table. hint_fault table hinted 1)

abbrev pub step_fault : ℕ → Live → Step → Option ℕ
step_fault vars live step = fault_by vars (map (live_at live) step.hints) step.clause

-- the place, from this one on, of the first number that names no clause that is live then
abbrev pub delete_fault : Live → List ℕ → ℕ → Option ℕ
delete_fault live [] place = None
delete_fault live (number ∷ numbers) place =
    by_option (live_at live number) (Some place)
    (λ clause. delete_fault (without live number) numbers (place + 1))

abbrev pub without_all : Live → List ℕ → Live
without_all live [] = live
without_all live (number ∷ numbers) = without_all (without live number) numbers

abbrev pub is_empty : List Lit → Bool
is_empty [] = true
is_empty (l ∷ ls) = false

-- how far a derivation was taken: the clauses, how many items and steps there were, and whether one of the steps has the
-- empty clause
pub record Progress : Type 0 where
  pub live : Live
  pub items : ℕ
  pub steps : ℕ
  pub refuted : Bool

abbrev pub after_step : Progress → Step → Progress
after_step p step = record {
  live = p.live ++ Some step.clause ∷ [];
  items = p.items + 1;
  steps = p.steps + 1;
  refuted = p.refuted || is_empty step.clause;
}

abbrev pub after_delete : Progress → List ℕ → Progress
after_delete p numbers = record {
  live = without_all p.live numbers;
  items = p.items + 1;
  steps = p.steps;
  refuted = p.refuted;
}

-- the first fault of items that come next; the numbers of steps and items are from 1. A variable that is out of range
-- counts before all else of its step
abbrev pub first_fault : ℕ → Progress → List Item → Option CheckFault
first_fault vars p [] = if p.refuted then None else Some fault.NotEmpty
first_fault vars p (item.Add step ∷ items) =
    if is_in_range vars step.clause
    then by_option (step_fault vars p.live step) (first_fault vars (after_step p step) items)
    (λ place. Some (fault.Hint (p.steps + 1) place))
    else Some (fault.VarRange (p.steps + 1))
first_fault vars p (item.Delete numbers ∷ items) =
    by_option (delete_fault p.live numbers 1) (first_fault vars (after_delete p numbers) items)
    (λ place. Some (fault.NotLive (p.items + 1) place))

-- all given clauses are live at first
abbrev pub at_first : List (List Lit) → Progress
at_first clauses = record { live = map Some clauses; items = 0; steps = 0; refuted = false }

abbrev pub fault_of : ℕ → List (List Lit) → List Item → Option CheckFault
fault_of vars clauses items = first_fault vars (at_first clauses) items

-- each item is accepted, and some step has the empty clause
abbrev pub IsAccepted : ℕ → List (List Lit) → List Item → Type 0
IsAccepted vars clauses items = fault_of vars clauses items ≡ None

-- yes exactly where there is no fault, else the first one; or want of memory
abbrev pub Judges : Option CheckFault → {A : Type 0} → Result A CheckFault → Type 0
Judges expected result =
    MatchResult result (λ _. expected ≡ None)
    (λ given. (given ≡ fault.NoMemory) ⊎ (expected ≡ Some given))
