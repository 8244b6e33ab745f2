-- Choices between diagrams, taken apart at a bit, and what was made of them before. No public call is stated by these words.
use Rattle.std.specs.Prelude.{◌≡◌, ℕ, ◌<◌, ◌≤◌, ◌+◌, Bool, true, false, List, Option, Some, ◌⊎◌, if◌then◌else◌}
use Rattle.circuit.specs.Value.{value_at}
use Rattle.decision_diagram.specs.declared.memo.Choice.{Choice}
use Rattle.decision_diagram.specs.contracts.memo.ChoicePartialEq.TheImpl as parts_test
use Rattle.decision_diagram.specs.Tree.{Tree, leaf, branch}
use Rattle.decision_diagram.specs.Table.{Table, HasValue, IsOf, LooksFrom, LooksFromThree, choice, diagram, value_in}
use Rattle.decision_diagram.specs.Meeting.{left_at}

-- the bit that a tree over so many bits looks at first, and one behind all where it looks at none
abbrev pub first_of : ℕ → Tree → ℕ
first_of count (leaf constant) = count
first_of count (branch bit low high) = bit

abbrev pub first_in : Table → ℕ → ℕ
first_in table d = first_of table.bits (diagram table d)

-- one of the three looks at this bit first, and none at an earlier one
pub record IsFirst (table : Table) (a b c bit : ℕ) : Type 0 where
  pub among : bit < table.bits
  pub a_from : LooksFrom table bit a
  pub b_from : LooksFrom table bit b
  pub c_from : LooksFrom table bit c
  pub one : (first_in table a ≡ bit) ⊎ ((first_in table b ≡ bit) ⊎ (first_in table c ≡ bit))

-- what a diagram goes on with where the bit is false, and where it is true: an earlier place each, where it looks at the bit
pub record AreEnds (table : Table) (bit d low high : ℕ) : Type 0 where
  pub low_within : IsOf table low
  pub high_within : IsOf table high
  pub low_later : LooksFrom table (bit + 1) low
  pub high_later : LooksFrom table (bit + 1) high
  pub value : (bits : List Bool) → value_in table d bits ≡ (if value_at bits bit then value_in table high bits else value_in table low bits)
  pub low_left : diagram table low ≡ left_at bit false (diagram table d)
  pub high_left : diagram table high ≡ left_at bit true (diagram table d)
  pub low_most : low ≤ d
  pub high_most : high ≤ d
  pub smaller : bit < table.bits → first_in table d ≡ bit → (low < d) × (high < d)

-- a diagram of the new table for a choice between three of the old one
pub record IsChoice (old new : Table) (condition yes other d : ℕ) : Type 0 where
  pub has_value : HasValue new (choice old condition yes other) d
  pub from : LooksFromThree old new condition yes other d

-- the derived test of equal parts
abbrev pub same_parts : Choice → Choice → Bool
same_parts = (parts_test.ghosts).eq

-- the parts stand in the table, and so does the choice between them
pub record IsRemembered (table : Table) (parts : Choice) (d : ℕ) : Type 0 where
  pub condition : IsOf table parts.condition
  pub yes : IsOf table parts.yes
  pub other : IsOf table parts.other
  pub made : IsChoice table table parts.condition parts.yes parts.other d

-- what is remembered is right
abbrev pub AreRemembered : Table → (Choice → Option ℕ) → Type 0
AreRemembered table known = (parts : Choice) (d : ℕ) → known parts ≡ Some d → IsRemembered table parts d
