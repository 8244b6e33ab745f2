-- The routers that a run has loaded.
use Rattle.std.specs.Prelude.{ℕ, Bool, not, ◌==◌, ◌||◌, List, [], ◌∷◌, length, Option, Some, None, codes}
use Rattle.std.specs.Bool.{if◌then◌else◌}
use Rattle.std.specs.List.{list_any, filter}
use Rattle.std.specs.Str.{bytes_eq}
use Rattle.ios_acl.specs.List.{AccessList}
use Rattle.ios_config.specs.Router.{Router}

pub record Loaded : Type 0 where
  pub name : List ℕ
  pub router : Router

-- a router of this name is loaded
abbrev pub is_router : List Loaded → List ℕ → Bool
is_router library name = list_any (λ (loaded : Loaded). bytes_eq name loaded.name) library

-- the name is that of a router, or of the built-in vocabulary
abbrev pub is_taken : List Loaded → List ℕ → Bool
is_taken library name = bytes_eq name (codes "net") || is_router library name

-- a list without entries is not defined
abbrev pub is_defined : AccessList → Bool
is_defined list = not (length list.entries == 0)

abbrev pub defined_lists : Router → List AccessList
defined_lists router = filter is_defined router.lists

abbrev pub list_among : List AccessList → List ℕ → Option AccessList
list_among [] name = None
list_among (list ∷ lists) name = if bytes_eq name list.name then Some list else list_among lists name

-- the defined list of this name, of the router of this name
abbrev pub list_of : List Loaded → List ℕ → List ℕ → Option AccessList
list_of [] router name = None
list_of (loaded ∷ library) router name =
    if bytes_eq router loaded.name then list_among (defined_lists loaded.router) name else list_of library router name

-- the defined list under the path ROUTER.acl.LIST
abbrev pub list_at_path : List Loaded → List (List ℕ) → Option AccessList
list_at_path library (router ∷ part ∷ name ∷ []) = if bytes_eq part (codes "acl") then list_of library router name else None
list_at_path library other = None
