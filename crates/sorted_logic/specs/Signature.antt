-- Signatures: sorts that lie below one another, and functions and relations over them.
use Rattle.std.specs.Prelude.{◌≡◌, ◌<◌, ◌≤◌, ℕ, zero, suc, Bool, false, not, ◌&&◌, ◌||◌, ◌==◌, List, ◌++◌, Option, Some, None, length, map, slice_get, option_map, option_and_then}
use Rattle.std.specs.List.{AllByRecursion, IsDistinct, list_any}
use Rattle.std.specs.Option.{option_map_or}
use Rattle.std.specs.Str.{bytes_eq}
use Rattle.sorted_logic.specs.declared.declarations.FuncDecl.{FuncDecl}
use Rattle.sorted_logic.specs.declared.declarations.RelDecl.{RelDecl}
use Rattle.sorted_logic.specs.declared.declarations.SortDecl.{SortDecl}
use Rattle.sorted_logic.specs.declared.term.Sort.{Sort}
use Rattle.sorted_logic.specs.Field.{field_names}

-- what is declared, each kind in order of declaration; a symbol is its place there
pub record Signature : Type 0 where
  pub sorts : List SortDecl
  pub functions : List FuncDecl
  pub relations : List RelDecl
  pub disjoint : List (Sort × Sort)

-- the direct supersort of a sort, which a root has not
abbrev pub parent : List SortDecl → ℕ → Option ℕ
parent sorts s = option_map (λ p. p.0) (option_and_then (λ d. d.under) (slice_get sorts s))

-- the sort that stands so many steps above one, or the root on the way
abbrev pub climbed : List SortDecl → ℕ → ℕ → ℕ
climbed sorts zero s = s
climbed sorts (suc steps) s = option_map_or (climbed sorts steps) (parent sorts s) s

-- the second sort is the first, or stands at most so many steps above it
abbrev pub reaches : List SortDecl → ℕ → ℕ → ℕ → Bool
reaches sorts zero s t = s == t
reaches sorts (suc steps) s t =
    s == t || option_map_or (λ p. reaches sorts steps p t) (parent sorts s) false

-- the first sort is the second, or lies below it
abbrev pub below : Signature → ℕ → ℕ → Bool
below sig s t = reaches sig.sorts (length sig.sorts) s t

-- the root under which a sort lies
abbrev pub root : Signature → ℕ → ℕ
root sig s = climbed sig.sorts (length sig.sorts) s

-- how many bits the numbers of a sort's elements have: as many as its root was declared with
abbrev pub sort_bits : Signature → ℕ → Option ℕ
sort_bits sig s = option_and_then (λ d. d.bits) (slice_get sig.sorts (root sig s))

-- one of the two sorts lies at or below one sort of the pair, and the other at or below the other
abbrev pub keeps_apart : Signature → ℕ → ℕ → Sort × Sort → Bool
keeps_apart sig s t pair =
    (below sig s pair.0.0 && below sig t pair.1.0) || (below sig s pair.1.0 && below sig t pair.0.0)

-- two sorts may share elements: they have one root, and no disjoint pair keeps them apart
abbrev pub may_overlap : Signature → ℕ → ℕ → Bool
may_overlap sig s t = root sig s == root sig t && not (list_any (keeps_apart sig s t) sig.disjoint)

-- each supersort is declared, and from each sort one comes to a root, so that none lies below itself
pub record IsHierarchy (sorts : List SortDecl) : Type 0 where
  pub declared : (s p : ℕ) → parent sorts s ≡ Some p → p < length sorts
  pub rooted : (s : ℕ) → parent sorts (climbed sorts (length sorts) s) ≡ None

abbrev pub AreSorts : List SortDecl → List Sort → Type 0
AreSorts sorts places = AllByRecursion (λ s. s.0 < length sorts) places

-- a declared number of bits stands at a root, and is from 1 to 128
abbrev pub AreBits : SortDecl → Type 0
AreBits d = (bits : ℕ) → d.bits ≡ Some bits → (d.under ≡ None) × (1 ≤ bits) × (bits ≤ 128)

-- all names, of sorts, then of functions, then of relations
abbrev pub names : Signature → List (List ℕ)
names sig =
    map (λ d. d.name) sig.sorts ++ map (λ d. d.name) sig.functions ++ map (λ d. d.name) sig.relations

-- no name is declared twice, or is that of a field of requests; and what declarations speak of is declared
pub record IsSignature (sig : Signature) : Type 0 where
  pub names_differ : IsDistinct bytes_eq (names sig)
  pub names_free : AllByRecursion (λ name. list_any (bytes_eq name) field_names ≡ false) (names sig)
  pub hierarchy : IsHierarchy sig.sorts
  pub bits : AllByRecursion AreBits sig.sorts
  pub functions : AllByRecursion (λ d. AreSorts sig.sorts d.args × (d.result.0 < length sig.sorts)) sig.functions
  pub relations : AllByRecursion (λ d. AreSorts sig.sorts d.args) sig.relations
  pub disjoint : AllByRecursion (λ pair. (pair.0.0 < length sig.sorts) × (pair.1.0 < length sig.sorts)) sig.disjoint
