-- The pairs of diagrams that were met so far while two are gone down at once. No public call is stated by these definitions.
use Rattle.std.specs.Prelude.{◌≡◌, ℕ, ◌<◌, Bool, List, slice_get, Some}
use Rattle.decision_diagram.specs.Tree.{Tree}
use Rattle.decision_diagram.specs.Table.{Table, IsOf, diagram}
use Rattle.decision_diagram.specs.Meeting.{LooksFirst, Meet, left_at}

-- the pair stands somewhere in the list
abbrev pub IsThere : List (ℕ × ℕ) → ℕ × ℕ → Type 0
IsThere pairs pair = (place : ℕ) × (slice_get pairs place ≡ Some pair)

-- each place keeps its pair
abbrev pub IsKept : List (ℕ × ℕ) → List (ℕ × ℕ) → Type 0
IsKept old new = (place : ℕ) (pair : ℕ × ℕ) → slice_get old place ≡ Some pair → slice_get new place ≡ Some pair

-- each pair stands in the table, and two roots meet at its trees
abbrev pub AreMet : Table → Tree → Tree → List (ℕ × ℕ) → Type 0
AreMet table one other pairs = (place : ℕ) (pair : ℕ × ℕ) → slice_get pairs place ≡ Some pair
    → IsOf table pair.0 × IsOf table pair.1 × Meet one other (diagram table pair.0) (diagram table pair.1)

-- roots that meet at these two, and at each of the old pairs, meet at each of the new ones
abbrev pub StaysMet : Table → ℕ → ℕ → List (ℕ × ℕ) → List (ℕ × ℕ) → Type 0
StaysMet table a b old new = (one other : Tree) → Meet one other (diagram table a) (diagram table b) → AreMet table one other old → AreMet table one other new

-- what is left of both behind the first bit that one of them looks at is among the pairs
abbrev pub AreBehind : Table → List (ℕ × ℕ) → ℕ → ℕ → Type 0
AreBehind table pairs a b = (bit : ℕ) (value : Bool) → LooksFirst (diagram table a) (diagram table b) bit
    → (pair : ℕ × ℕ) × IsThere pairs pair × (diagram table pair.0 ≡ left_at bit value (diagram table a)) × (diagram table pair.1 ≡ left_at bit value (diagram table b))

-- the two roots are among the pairs, each pair is met, and so is what is behind each of the first ones
pub record AreGoneDown (table : Table) (a b next : ℕ) (pairs : List (ℕ × ℕ)) : Type 0 where
  pub met : AreMet table (diagram table a) (diagram table b) pairs
  pub first : IsThere pairs (a, b)
  pub followed : (place : ℕ) (pair : ℕ × ℕ) → place < next → slice_get pairs place ≡ Some pair → AreBehind table pairs pair.0 pair.1
