-- What the lines of a configuration make of a router.
use Rattle.std.specs.Prelude.{ℕ, List, [], ◌∷◌, map, length}
use Rattle.ios_acl.specs.List.{AccessList}
use Rattle.ios_interface.specs.Block.{interface_of}
use Rattle.ios_interface.specs.Interfaces.{Interfaces}
use Rattle.ios_nat.specs.Table.{Table}
use Rattle.ios_route.specs.ActiveRoutes.{active_routes}
use Rattle.ios_route.specs.Interfaces.{Interface}
use Rattle.ios_route.specs.declared.routes.Active.{Active}
use Rattle.ios_route.specs.declared.static_route.StaticRoute.{StaticRoute}

-- what indented lines belong to: the block of a list or of an interface of this name, or nothing
pub data OpenBlock : Type 0 where
  nothing : OpenBlock
  list_block : List ℕ → OpenBlock
  interface_block : List ℕ → OpenBlock

-- what was read so far. Lists and interfaces stand in the order in which they were begun, and routes in that of their lines;
-- `ignored` is how many lines were ignored
pub record Draft : Type 0 where
  pub lists : List AccessList
  pub interfaces : Interfaces
  pub routes : List StaticRoute
  pub nat : Table
  pub block : OpenBlock
  pub ignored : ℕ

abbrev pub no_entries : Table
no_entries = record { ports = []; addresses = []; pools = []; dynamic = [] }

-- before the first line, where these names of interfaces are known
abbrev pub no_lines : List (List ℕ) → Draft
no_lines known = record {
  lists = [];
  interfaces = record { known = known; blocks = [] };
  routes = [];
  nat = no_entries;
  block = OpenBlock.nothing;
  ignored = 0;
}

-- a router. Of its routes those are kept that are active, and how many static ones its lines give
pub record Router : Type 0 where
  pub lists : List AccessList
  pub interfaces : List Interface
  pub routes : List Active
  pub static_routes : ℕ
  pub nat : Table
  pub ignored : ℕ

abbrev pub names_of : List Interface → List (List ℕ)
names_of interfaces = map (λ (interface : Interface). interface.name) interfaces

abbrev pub interfaces_of : Draft → List Interface
interfaces_of draft = map interface_of draft.interfaces.blocks

abbrev pub router_of : Draft → Router
router_of draft = record {
  lists = draft.lists;
  interfaces = interfaces_of draft;
  routes = active_routes (interfaces_of draft) draft.routes;
  static_routes = length draft.routes;
  nat = draft.nat;
  ignored = draft.ignored;
}

-- a router of one list
abbrev pub of_list : AccessList → Router
of_list list = record {
  lists = list ∷ [];
  interfaces = [];
  routes = [];
  static_routes = 0;
  nat = no_entries;
  ignored = 0;
}
