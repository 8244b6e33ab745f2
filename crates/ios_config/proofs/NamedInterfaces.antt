-- Names of pools and interfaces in dynamic entries, and the first that is not there.
use Rattle.std.proofs.Common.{◌≡◌, ℕ, Bool, true, false, List, [], ◌∷◌, Option, Some, None, is_some, map, refl, ◌∙◌}
use Rattle.std.specs.Bool.{if◌then◌else◌}
use Rattle.std.specs.Option.{option_map_or}
use Rattle.std.specs.Str.{bytes_eq}
use Rattle.ios_lex.specs.declared.reason.IosReason.TheVariants as ios
use Rattle.ios_interface.specs.Block.{Block, interface_of}
use Rattle.ios_interface.specs.Interfaces.{block_named}
use Rattle.ios_nat.specs.Table.{Table, pool_named}
use Rattle.ios_nat.specs.declared.entry.DynamicFrom.TheVariants as from
use Rattle.ios_route.specs.ActiveRoutes.{named}
use Rattle.ios_route.specs.Interfaces.{Interface}
use Rattle.ios_config.specs.Whole.{unnamed}

by_name : (block : Block) (found : Option Interface) (named_block : Option Block) (here : Bool) → is_some found ≡ is_some named_block
    → is_some (if here then Some (interface_of block) else found) ≡ is_some (if here then Some block else named_block)
by_name block found named_block true same = refl
by_name block found named_block false same = same

-- there is an interface of a name where there is a block of it
interface_there : (blocks : List Block) (name : List ℕ) → is_some (named (map interface_of blocks) name) ≡ is_some (block_named blocks name)
interface_there [] name = refl
interface_there (block ∷ blocks) name =
    by_name block (named (map interface_of blocks) name) (block_named blocks name) (bytes_eq name block.name) (interface_there blocks name)

when_some : (found : Option Interface) (b : Bool) → is_some found ≡ b → option_map_or (λ _. None) found (Some ios.UnknownInterface) ≡ (if b then None else Some ios.UnknownInterface)
when_some None b is = rw (← is) refl
when_some (Some interface) b is = rw (← is) refl

pub unnamed_interface : (blocks : List Block) (table : Table) (name : List ℕ) (b : Bool) → is_some (block_named blocks name) ≡ b
    → unnamed (map interface_of blocks) table (from.Interface name) ≡ (if b then None else Some ios.UnknownInterface)
unnamed_interface blocks table name b is = when_some (named (map interface_of blocks) name) b (interface_there blocks name ∙ is)

-- and a pool that is there is named
pub unnamed_pool : (interfaces : List Interface) (table : Table) (name : List ℕ) → is_some (pool_named table.pools name) ≡ true
    → unnamed interfaces table (from.Pool name) ≡ None
unnamed_pool interfaces table name there = by_pool (pool_named table.pools name) there
  where
    by_pool : (found : Option (ℕ × ℕ)) → is_some found ≡ true → option_map_or (λ _. None) found (Some ios.UnknownPool) ≡ None
    by_pool None none = absurd cc
    by_pool (Some range) some = refl
