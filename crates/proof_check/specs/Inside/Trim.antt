-- How a derivation is trimmed: from its end to its start, with a flag for each step.
use Rattle.std.specs.Prelude.{◌≡◌, ◌==◌, ◌&&◌, ◌||◌, ◌+◌, ◌-◌, ◌<◌, ◌≤◌, ℕ, nat_le, min, Bool, false, not, nat_lt, List, drop, length, map, slice_index, slice_index_or, if◌then◌else◌}
use Rattle.std.specs.Borrow.{Bor}
use Rattle.std.specs.List.{list_any}
use Rattle.certificates.specs.declared.derivation.Step.{Step}
use Rattle.proof_check.specs.Trimming.{is_named, new_number}

abbrev pub pointed : List (Bor Step) → List Step
pointed steps = map (λ s. s.now) steps

-- the flag of the step of a number
abbrev pub flag : ℕ → List Bool → ℕ → Bool
flag given named number = slice_index_or named (number - given - 1) false

-- a hint that is not flagged
abbrev pub is_last : ℕ → List Bool → List ℕ → ℕ → Bool
is_last given named hints number = list_any (λ hint. hint == number) hints && not (flag given named number)

-- one that is of a step before this place, and not flagged
abbrev pub is_taken : ℕ → List Bool → ℕ → ℕ → Bool
is_taken given named place number =
    (nat_lt given number && nat_le (number - given) place) && not (flag given named number)

-- the flags of these numbers are set, and no others are changed
pub record Marks (given : ℕ) (numbers : List ℕ) (old new : List Bool) : Type 0 where
  pub len : length new ≡ length old
  pub at : (place : ℕ) → place < length old
      → slice_index_or new place false
      ≡ (slice_index_or old place false || list_any (λ number. number == given + 1 + place) numbers)

-- the flags of all steps: whether a later step that is needed names them
pub record AreNamed (given : ℕ) (steps : List Step) (named : List Bool) : Type 0 where
  pub len : length named ≡ length steps
  pub at : (place : ℕ) → place < length steps
      → slice_index_or named place false
      ≡ is_named (given + 1 + place) (given + 1 + place + 1) (drop (place + 1) steps)

-- the new number of the last given clause, and those of the steps, where the flags say which are needed besides the last
abbrev pub kept_by : ℕ → List Bool → ℕ → Bool
kept_by given named number =
    nat_le number given || (flag given named number || (number - given == length named))

pub record AreNewNumbers (given : ℕ) (named : List Bool) (numbers : List ℕ) : Type 0 where
  pub len : length numbers ≡ length named + 1
  pub at : (place : ℕ) → place ≤ length named
      → slice_index numbers place ≡ new_number (kept_by given named) (given + place)

-- a number that is too high counts as the last
abbrev pub looked_up : ℕ → List ℕ → ℕ → ℕ
looked_up given numbers number =
    if nat_le number given then number
    else slice_index numbers (min (number - given) (length numbers - 1))
