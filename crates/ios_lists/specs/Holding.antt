-- How the lists are held while lines are taken. Private calls are stated by it, and no public one.
use Rattle.std.specs.Prelude.{◌≡◌, ℕ, Bool, List, Some, map}
use Rattle.std.specs.List.{position_or_len}
use Rattle.std.specs.Str.{bytes_eq}
use Rattle.ios_acl.specs.List.{AccessList}
use Rattle.ios_lists.specs.Lists.{list_named, with_list, name_at, HaveDifferentNames}

abbrev pub name_of : AccessList → List ℕ
name_of list = list.name

-- these are the names of the lists, which differ
pub record HasNames (lists : List AccessList) (names : List (List ℕ)) : Type 0 where
  pub names_are : map name_of lists ≡ names
  pub different : HaveDifferentNames lists

abbrev pub has_name : List ℕ → AccessList → Bool
has_name name list = bytes_eq name list.name

-- the place of the first list of this name, and behind all where there is none
abbrev pub place_named : List AccessList → List ℕ → ℕ
place_named lists name = position_or_len (has_name name) lists

-- the list of this name stands among these, new where there was none before
pub record IsBegun (old : List AccessList) (name : List ℕ) (extended : Bool)
    (new : List AccessList) (place : ℕ) : Type 0 where
  pub put : new ≡ with_list old (list_named old name extended)
  pub at : name_at new place ≡ Some name
