-- What is tested of a configuration whose lines are all taken: where its static routes lead, and what its dynamic entries name.
use Rattle.std.specs.Prelude.{ℕ, List, Option, Some, None}
use Rattle.std.specs.List.{filter_map}
use Rattle.std.specs.Option.{option_map_or}
use Rattle.ios_lex.specs.declared.reason.IosReason.{IosReason}
use Rattle.ios_lex.specs.declared.reason.IosReason.TheVariants as ios
use Rattle.ios_nat.specs.Table.{Table, pool_named}
use Rattle.ios_nat.specs.declared.entry.DynamicEntry.{DynamicEntry}
use Rattle.ios_nat.specs.declared.entry.DynamicFrom.{DynamicFrom}
use Rattle.ios_nat.specs.declared.entry.DynamicFrom.TheVariants as from
use Rattle.ios_route.specs.ActiveRoutes.{named}
use Rattle.ios_route.specs.Interfaces.{Interface}
use Rattle.ios_route.specs.declared.routes.RouteFault.{RouteFault}
use Rattle.ios_route.specs.declared.routes.RouteFault.TheVariants as fault

-- the line and the reason of a static route that leads nowhere
pub data IsRouteRefusal : RouteFault → ℕ → IosReason → Type 0 where
  not_connected : (line : ℕ)
      → IsRouteRefusal (fault.NextHopNotConnected line) line ios.NextHopNotConnected
  unknown : (line : ℕ) → IsRouteRefusal (fault.UnknownInterface line) line ios.UnknownInterface

-- the reason where the addresses of a dynamic entry come from a pool or an interface that is not there
abbrev pub unnamed : List Interface → Table → DynamicFrom → Option IosReason
unnamed interfaces table (from.Pool name) =
    option_map_or (λ _. None) (pool_named table.pools name) (Some ios.UnknownPool)
unnamed interfaces table (from.Interface name) =
    option_map_or (λ _. None) (named interfaces name) (Some ios.UnknownInterface)

-- the same with the line of the entry
abbrev pub dangling : List Interface → Table → DynamicEntry → Option (ℕ × IosReason)
dangling interfaces table entry =
    option_map_or (λ (why : IosReason). Some (entry.line, why))
    (unnamed interfaces table entry.from) None

-- those of all dynamic entries, in their order
abbrev pub all_dangling : List Interface → Table → List (ℕ × IosReason)
all_dangling interfaces table = filter_map (dangling interfaces table) table.dynamic
