-- Decision diagrams as trees: which value one has, and when it is ordered and reduced.
use Rattle.std.specs.Prelude.{◌≡◌, ℕ, ◌<◌, ◌≤◌, ◌+◌, Bool, List, length, if◌then◌else◌}
use Rattle.circuit.specs.Value.{value_at}

-- a value for all bits, or a bit that is looked at, with what follows where it is false and where it is true
pub data Tree : Type 0 where
  leaf : Bool → Tree
  branch : ℕ → Tree → Tree → Tree

-- the value for these bits, numbered from 0
abbrev pub value : Tree → List Bool → Bool
value (leaf constant) bits = constant
value (branch bit low high) bits = if value_at bits bit then value high bits else value low bits

-- the first bit that is looked at is not before this one, each later one comes behind those above it, all are among so many,
-- and no branch has two equal ends
abbrev pub IsReduced : ℕ → ℕ → Tree → Type 0
IsReduced first count (leaf constant) = Unit {0}
IsReduced first count (branch bit low high) =
    (first ≤ bit) × (bit < count) × (low ≡ high → ⊥) × IsReduced (bit + 1) count low × IsReduced (bit + 1) count high

-- the same value for all values of so many bits
abbrev pub SameValue : ℕ → Tree → Tree → Type 0
SameValue count a b = (bits : List Bool) → length bits ≡ count → value a bits ≡ value b bits
