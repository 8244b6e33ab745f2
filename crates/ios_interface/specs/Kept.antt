-- How the interfaces are kept while their lines are taken. No public call is stated by it.
use Rattle.std.specs.Prelude.{◌≡◌, ℕ, ◌≤◌, List, length}
use Rattle.std.specs.List.{AllByRecursion, IsDistinct}
use Rattle.std.specs.Str.{bytes_eq}
use Rattle.ios_names.specs.Names.{most_names}
use Rattle.ios_interface.specs.Block.{Block}
use Rattle.ios_interface.specs.Interfaces.{IsNumberOf, block_names, names_so_far}

abbrev pub HasItsNumber : List (List ℕ) → Block → Type 0
HasItsNumber names block = IsNumberOf names block.number block.name

-- an index has the names of the blocks, of which no two are one, and the names are counted
-- and not too many
pub record AreKept (known : List (List ℕ)) (blocks : List Block) (index : List (List ℕ))
    (count : ℕ) : Type 0 where
  pub indexed : block_names blocks ≡ index
  pub different : IsDistinct bytes_eq (block_names blocks)
  pub counted : count ≡ length (names_so_far known blocks)
  pub few : length (names_so_far known blocks) ≤ most_names
  pub numbered : AllByRecursion (HasItsNumber (names_so_far known blocks)) blocks
