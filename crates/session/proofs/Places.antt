-- Lists and routers by their places.
use Rattle.std.proofs.Common.{◌≡◌, ℕ, zero, suc, Bool, true, false, ◌&&◌, List, [], ◌∷◌, drop, Option, Some, None, IsSome, slice_get, refl, arith}
use Rattle.std.specs.List.{filter}
use Rattle.std.specs.Str.{bytes_eq}
use Rattle.ios_acl.specs.List.{AccessList}
use Rattle.session.specs.Library.{Loaded, is_defined, defined_lists, list_among, list_of}

abbrev is_here : AccessList → List ℕ → Bool
is_here list name = is_defined list && bytes_eq name list.name

first_here : (list : AccessList) (lists : List AccessList) (name : List ℕ) → is_here list name ≡ true → list_among (filter is_defined (list ∷ lists)) name ≡ Some list
first_here list lists name here = grind (arith, here)

first_elsewhere : (list : AccessList) (lists : List AccessList) (name : List ℕ) → is_here list name ≡ false → list_among (filter is_defined (list ∷ lists)) name ≡ list_among (filter is_defined lists) name
first_elsewhere list lists name here = grind (arith, here)

-- the list at a place that is defined and of this name is the first of those from there on
pub list_here : (lists : List AccessList) (i : ℕ) (name : List ℕ) (list : AccessList) → slice_get lists i ≡ Some list → (is_defined list && bytes_eq name list.name) ≡ true → list_among (filter is_defined (drop i lists)) name ≡ Some list
list_here [] i name list at here = cc
list_here (other ∷ lists) zero name list at here =
    let same : other ≡ list = cc in
    rw same (first_here list lists name here)
list_here (other ∷ lists) (suc i) name list at here = list_here lists i name list at here

-- and one that is not is passed over
pub list_elsewhere : (lists : List AccessList) (i : ℕ) (name : List ℕ) (list : AccessList) → slice_get lists i ≡ Some list → (is_defined list && bytes_eq name list.name) ≡ false → list_among (filter is_defined (drop i lists)) name ≡ list_among (filter is_defined (drop (suc i) lists)) name
list_elsewhere [] i name list at here = cc
list_elsewhere (other ∷ lists) zero name list at here =
    let same : other ≡ list = cc in
    rw same (first_elsewhere list lists name here)
list_elsewhere (other ∷ lists) (suc i) name list at here = list_elsewhere lists i name list at here

-- the router at a place that is of this name is the first of those from there on
pub router_here : (library : List Loaded) (i : ℕ) (router name : List ℕ) (loaded : Loaded) → slice_get library i ≡ Some loaded → bytes_eq router loaded.name ≡ true → list_of (drop i library) router name ≡ list_among (defined_lists loaded.router) name
router_here [] i router name loaded at here = cc
router_here (other ∷ library) zero router name loaded at here =
    let same : other ≡ loaded = cc in
    rw (same, here) refl
router_here (other ∷ library) (suc i) router name loaded at here = router_here library i router name loaded at here

pub router_elsewhere : (library : List Loaded) (i : ℕ) (router name : List ℕ) (loaded : Loaded) → slice_get library i ≡ Some loaded → bytes_eq router loaded.name ≡ false → list_of (drop i library) router name ≡ list_of (drop (suc i) library) router name
router_elsewhere [] i router name loaded at here = cc
router_elsewhere (other ∷ library) zero router name loaded at here =
    let same : other ≡ loaded = cc in
    rw (same, here) refl
router_elsewhere (other ∷ library) (suc i) router name loaded at here = router_elsewhere library i router name loaded at here

-- what an option holds
pub held : {A : Type 0} (o : Option A) → IsSome o → (x : A) × (o ≡ Some x)
held (Some x) some = (x, refl)
held None some = cc
