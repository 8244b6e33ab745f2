-- The nodes and inputs from which a node is made. The search is stated by it, and no public call.
use Rattle.std.specs.Prelude.{◌≡◌, ℕ, ◌<◌, Bool, true, Option, None, List, ◌++◌, length, fold, slice_set, slice_index_or}
use Rattle.std.specs.List.{AllByRecursion}
use Rattle.circuit.specs.declared.gate.Gate.{Gate}
use Rattle.circuit.specs.declared.gate.Gate.TheVariants as gate
use Rattle.circuit.specs.Value.{value, value_at, parts_of, input_count}
use Rattle.circuit.specs.Settled.{settled, settled_at}

-- these places marked too
abbrev pub with_marks : List Bool → List ℕ → List Bool
with_marks marked places = fold (λ so_far place. slice_set so_far place true) marked places

-- the parts of a marked node are marked
abbrev pub IsClosedAt : List Gate → List Bool → ℕ → Type 0
IsClosedAt gates marked place = (g : Gate) → value_at marked place ≡ true → AllByRecursion (λ part. value_at marked part ≡ true) (parts_of (slice_index_or gates place g))

-- marks of the root and of all from which it is made; what is settled need not be looked behind
pub record IsCone (gates : List Gate) (root : ℕ) (table : List (Option Bool)) (marked : List Bool) : Type 0 where
  pub count : length marked ≡ length gates
  pub start : value_at marked root ≡ true
  pub closed : (place : ℕ) → place < length gates → settled_at table place ≡ None → IsClosedAt gates marked place

-- an input gate that is marked has its input marked
abbrev pub IsInputNeeded : List Bool → Gate → Type 0
IsInputNeeded needed (gate.Input number) = value_at needed number ≡ true
IsInputNeeded needed g = Unit {0}

abbrev pub AreInputsNeeded : List Gate → List Bool → List Bool → Type 0
AreInputsNeeded gates marked needed = (place : ℕ) (g : Gate) → place < length gates → value_at marked place ≡ true → IsInputNeeded needed (slice_index_or gates place g)

-- the same values for the needed inputs
abbrev pub AgreeOn : List Bool → List Bool → List Bool → Type 0
AgreeOn needed xs ys = (number : ℕ) → value_at needed number ≡ true → value_at xs number ≡ value_at ys number

-- one mark for each input; where the first inputs are as chosen, no input without a mark changes the root
pub record IsSupport (gates : List Gate) (root : ℕ) (chosen needed : List Bool) : Type 0 where
  pub count : length needed ≡ input_count gates
  pub enough : (xs ys : List Bool) → AgreeOn needed (chosen ++ xs) (chosen ++ ys) → value gates (chosen ++ xs) root ≡ value gates (chosen ++ ys) root

-- such marks, for each choice that settles what the table has
abbrev pub IsSupportBy : List Gate → ℕ → List (Option Bool) → List Bool → Type 0
IsSupportBy gates root table needed = (chosen : List Bool) → table ≡ settled gates chosen → IsSupport gates root chosen needed
