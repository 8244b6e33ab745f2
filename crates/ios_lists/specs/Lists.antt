-- The access lists of a configuration, in the order in which they were begun, each under its name.
use Rattle.std.specs.Prelude.{◌≢◌, ℕ, Bool, not, List, [], ◌∷◌, Option, Some, None, option_map, slice_get}
use Rattle.std.specs.Bool.{if◌then◌else◌}
use Rattle.std.specs.List.{AllByRecursion}
use Rattle.std.specs.Str.{bytes_eq}
use Rattle.ios_acl.specs.Block.{empty_list}
use Rattle.ios_acl.specs.List.{AccessList}

-- the list of this name, or a new one of this kind
abbrev pub list_named : List AccessList → List ℕ → Bool → AccessList
list_named [] name extended = empty_list name extended
list_named (list ∷ lists) name extended =
    if bytes_eq name list.name then list else list_named lists name extended

-- the lists with this one in place of that of its name, or at the end
abbrev pub with_list : List AccessList → AccessList → List AccessList
with_list [] new = new ∷ []
with_list (list ∷ lists) new =
    if bytes_eq new.name list.name then new ∷ lists else list ∷ with_list lists new

-- the kind of the list of this name, where there is one
abbrev pub kind_named : List AccessList → List ℕ → Option Bool
kind_named [] name = None
kind_named (list ∷ lists) name =
    if bytes_eq name list.name then Some list.extended else kind_named lists name

-- no list of this name has the other kind
abbrev pub FitsLists : List AccessList → List ℕ → Bool → Type 0
FitsLists lists name extended = kind_named lists name ≢ Some (not extended)

-- the name of the list at this place
abbrev pub name_at : List AccessList → ℕ → Option (List ℕ)
name_at lists place = option_map (λ (list : AccessList). list.name) (slice_get lists place)

-- no two of the lists have one name
abbrev pub HaveDifferentNames : List AccessList → Type 0
HaveDifferentNames [] = Unit {0}
HaveDifferentNames (list ∷ lists) =
    AllByRecursion (λ (other : AccessList). other.name ≢ list.name) lists × HaveDifferentNames lists
