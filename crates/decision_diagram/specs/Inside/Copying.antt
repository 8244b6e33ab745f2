-- Which diagrams of a table were copied into another one. No public call is stated by these definitions.
use Rattle.std.specs.Prelude.{◌≡◌, ℕ, false, List, length, Option, Some, None, slice_index_or}
use Rattle.std.specs.List.{list_any}
use Rattle.decision_diagram.specs.Tree.{Tree, branch}
use Rattle.decision_diagram.specs.Table.{Table, IsOf, IsTable, diagram, trees}
use Rattle.decision_diagram.specs.Listing.{same_tree}

-- the copy of the diagram at this place, if there is one
abbrev pub copy_at : List (Option ℕ) → ℕ → Option ℕ
copy_at copies d = slice_index_or copies d None

-- each copy has the tree of its diagram, and a branch with no copy is not in the other table
pub record AreCopies (source fresh : Table) (copies : List (Option ℕ)) : Type 0 where
  pub table : IsTable fresh
  pub bits : fresh.bits ≡ source.bits
  pub count : length copies ≡ length source.nodes
  pub within : (d copy : ℕ) → copy_at copies d ≡ Some copy → IsOf fresh copy
  pub same : (d copy : ℕ) → copy_at copies d ≡ Some copy → diagram fresh copy ≡ diagram source d
  pub missing : (d bit : ℕ) (low high : Tree) → IsOf source d → copy_at copies d ≡ None → diagram source d ≡ branch bit low high
      → list_any (same_tree (branch bit low high)) (trees fresh.nodes) ≡ false

-- each copy stands in the table and has the tree of its diagram; the table may have more
pub record AreAdopted (source table : Table) (copies : List (Option ℕ)) : Type 0 where
  pub bits : table.bits ≡ source.bits
  pub count : length copies ≡ length source.nodes
  pub within : (d copy : ℕ) → copy_at copies d ≡ Some copy → IsOf table copy
  pub same : (d copy : ℕ) → copy_at copies d ≡ Some copy → diagram table copy ≡ diagram source d
