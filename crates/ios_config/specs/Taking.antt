-- How a draft is held while its lines are taken, and what is handed out where one is not. Private calls are stated by it, and no
-- public one.
use Rattle.std.specs.Prelude.{◌≡◌, ℕ, ◌<◌, List, [], ◌∷◌, ◌++◌, Option, Some, None, length, slice_get}
use Rattle.ios_lex.specs.Lines.{Reading}
use Rattle.ios_lex.specs.Phrases.{Words}
use Rattle.ios_lex.specs.declared.fault.LineFault.{LineFault}
use Rattle.ios_lex.specs.declared.fault.LineFault.TheVariants as lines
use Rattle.ios_lex.specs.declared.reason.IosReason.{IosReason}
use Rattle.ios_lex.specs.declared.reason.IosReason.TheVariants as ios
use Rattle.ios_acl.specs.Block.{IsWithinBlock}
use Rattle.ios_acl.specs.List.{AccessList}
use Rattle.ios_acl.specs.declared.fault.AclFault.{AclFault}
use Rattle.ios_acl.specs.declared.fault.AclFault.TheVariants as acl
use Rattle.ios_interface.specs.Block.{Block}
use Rattle.ios_nat.specs.Reading.{IsRefused, Reads}
use Rattle.ios_nat.specs.Table.{Table}
use Rattle.ios_nat.specs.declared.fault.NatFault.{NatFault}
use Rattle.ios_nat.specs.declared.fault.NatFault.TheVariants as nat
use Rattle.ios_route.specs.declared.routes.RouteFault.{RouteFault}
use Rattle.ios_route.specs.declared.routes.RouteFault.TheVariants as routes
use Rattle.ios_config.specs.declared.draft.OpenBlock.{OpenBlock as Place}
use Rattle.ios_config.specs.declared.draft.OpenBlock.TheVariants as place
use Rattle.ios_config.specs.declared.fault.ConfigFault.{ConfigFault}
use Rattle.ios_config.specs.declared.fault.ConfigFault.TheVariants as fault
use Rattle.ios_config.specs.Line.{IsLineRefused, Makes, Refuses, Rule, Takes, with_translation}
use Rattle.ios_config.specs.Reading.{TakesAll, dangling_entries, route_faults}
use Rattle.ios_config.specs.Router.{Draft, OpenBlock, Router, router_of}
use Rattle.ios_config.specs.Whole.{IsRouteRefusal}

abbrev pub list_in : Option AccessList → OpenBlock
list_in None = OpenBlock.nothing
list_in (Some list) = OpenBlock.list_block list.name

abbrev pub interface_in : Option Block → OpenBlock
interface_in None = OpenBlock.nothing
interface_in (Some block) = OpenBlock.interface_block block.name

-- the block at a place
abbrev pub block_of : List AccessList → List Block → Place → OpenBlock
block_of lists blocks place.Nothing = OpenBlock.nothing
block_of lists blocks (place.List at) = list_in (slice_get lists at)
block_of lists blocks (place.Interface at) = interface_in (slice_get blocks at)

-- there is one
abbrev pub IsBlockPlace : List AccessList → List Block → Place → Type 0
IsBlockPlace lists blocks place.Nothing = Unit {0}
IsBlockPlace lists blocks (place.List at) = at < length lists
IsBlockPlace lists blocks (place.Interface at) = at < length blocks

abbrev pub of_list : AclFault → LineFault
of_list (acl.Refused why) = lines.Refused why
of_list acl.NoMemory = lines.NoMemory

abbrev pub of_translation : NatFault → LineFault
of_translation (nat.Refused why) = lines.Refused why
of_translation nat.NoMemory = lines.NoMemory

abbrev pub of_route : RouteFault → ConfigFault
of_route (routes.NextHopNotConnected line) = fault.At line ios.NextHopNotConnected
of_route (routes.UnknownInterface line) = fault.At line ios.UnknownInterface
of_route routes.NoMemory = fault.NoMemory

abbrev pub located : ℕ → LineFault → ConfigFault
located line (lines.Refused why) = fault.At line why
located line lines.NoMemory = fault.NoMemory

-- the line is refused; memory may be wanting at any time
abbrev pub IsLineFault : Draft → Reading → LineFault → Type 0
IsLineFault draft line (lines.Refused why) = IsLineRefused draft line why
IsLineFault draft line lines.NoMemory = Unit {0}

-- the draft takes any line of the open block that has these words, and any line that falls under a rule
abbrev pub TakesWithin : Draft → Words → Draft → Type 0
TakesWithin draft words new =
    (line : Reading) → IsWithinBlock line → line.words ≡ words → Takes draft line new

abbrev pub IsWithinFault : Draft → Words → LineFault → Type 0
IsWithinFault draft words fault =
    (line : Reading) → IsWithinBlock line → line.words ≡ words → IsLineFault draft line fault

abbrev pub MakesBy : Rule → Draft → ℕ → Words → Draft → Type 0
MakesBy rule draft number words new = Makes draft number words rule new

abbrev pub IsRuleFault : Rule → Draft → Words → LineFault → Type 0
IsRuleFault rule draft words (lines.Refused why) = Refuses draft words rule why
IsRuleFault rule draft words lines.NoMemory = Unit {0}

-- the table of a draft takes a line on address translation, or does not
pub record Translates (draft : Draft) (number : ℕ) (words : Words) (new : Draft) : Type 0 where
  pub table : Table
  pub reads : Reads draft.nat number words table
  pub made : new ≡ with_translation draft table

abbrev pub IsTranslationFault : Draft → Words → LineFault → Type 0
IsTranslationFault draft words (lines.Refused why) = IsRefused draft.nat words why
IsTranslationFault draft words lines.NoMemory = Unit {0}

-- the lines up to one are taken, and that one is not
pub data StopsAmong (draft : Draft) (readings : List Reading) : ConfigFault → Type 0 where
  line : (before after : List Reading) (line : Reading) (next : Draft) (fault : LineFault)
      → readings ≡ before ++ line ∷ after
      → TakesAll draft before next → IsLineFault next line fault
      → StopsAmong draft readings (located line.number fault)

-- the router of a draft that passes the tests of the whole
pub record IsMade (draft : Draft) (router : Router) : Type 0 where
  pub lead : route_faults draft ≡ []
  pub found : dangling_entries draft ≡ []
  pub is : router ≡ router_of draft

-- the first dynamic entry that names what is not there
pub record IsDangling (draft : Draft) (given : ConfigFault) : Type 0 where
  pub at : ℕ
  pub why : IosReason
  pub more : List (ℕ × IosReason)
  pub first : dangling_entries draft ≡ (at, why) ∷ more
  pub is : given ≡ fault.At at why

-- a test of the whole fails; memory may be wanting at any time
pub data IsWholeFault (draft : Draft) : ConfigFault → Type 0 where
  route : (first : RouteFault) (more : List RouteFault) (at : ℕ) → (why : IosReason)
      → route_faults draft ≡ first ∷ more
      → IsRouteRefusal first at why → IsWholeFault draft (fault.At at why)
  dynamic : (given : ConfigFault) → route_faults draft ≡ [] → IsDangling draft given
      → IsWholeFault draft given
  memory : IsWholeFault draft fault.NoMemory
