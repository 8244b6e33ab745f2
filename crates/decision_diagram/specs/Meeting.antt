-- Two diagrams, gone down at once: the pairs of parts at which they meet.
use Rattle.std.specs.Prelude.{◌≡◌, ℕ, ◌<◌, ◌≤◌, ◌==◌, nat_lt, Bool, true, false, List, length, Contains, slice_get, Some, if◌then◌else◌}
use Rattle.std.specs.List.{All}
use Rattle.decision_diagram.specs.Tree.{Tree, leaf, branch}

-- what is left of a tree where a bit has this value, and it looks at no earlier one
abbrev pub left_at : ℕ → Bool → Tree → Tree
left_at bit value (leaf constant) = leaf constant
left_at bit value (branch first low high) = if first == bit then (if value then high else low) else branch first low high

-- this is the first bit that one of the two looks at
abbrev pub LooksFirst : Tree → Tree → ℕ → Type 0
LooksFirst (leaf a) (leaf b) bit = ⊥
LooksFirst (leaf a) (branch first low high) bit = bit ≡ first
LooksFirst (branch first low high) (leaf b) bit = bit ≡ first
LooksFirst (branch one low high) (branch other a b) bit = bit ≡ (if nat_lt one other then one else other)

-- both roots, and behind each pair what is left of both behind the first bit that one of them looks at
pub data Meet (a b : Tree) : Tree → Tree → Type 0 where
  roots : Meet a b a b
  behind : (c d : Tree) (bit : ℕ) (value : Bool) → Meet a b c d → LooksFirst c d bit
      → Meet a b (left_at bit value c) (left_at bit value d)

-- they meet at no more pairs than so many
pub record MeetSeldom (most : ℕ) (a b : Tree) : Type 0 where
  pub pairs : List (Tree × Tree)
  pub few : length pairs ≤ most
  pub all : (c d : Tree) → Meet a b c d → Contains pairs (c, d)

-- they meet at more pairs than so many
pub record MeetOften (most : ℕ) (a b : Tree) : Type 0 where
  pub pairs : List (Tree × Tree)
  pub many : most < length pairs
  pub met : All (λ pair. Meet a b pair.0 pair.1) pairs
  pub different : (i j : ℕ) (pair : Tree × Tree) → slice_get pairs i ≡ Some pair → slice_get pairs j ≡ Some pair → i ≡ j
