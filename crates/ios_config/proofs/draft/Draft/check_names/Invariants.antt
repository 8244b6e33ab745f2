use Rattle.std.proofs.Common.{◌≡◌, drop}
use Rattle.std.specs.List.{filter_map}
use Rattle.ios_config.specs.Router.{interfaces_of}
use Rattle.ios_config.specs.Whole.{dangling}
use Rattle.ios_config.proofs.draft.Draft.check_names.Given as goal

-- none of the entries so far names what is not there
abbrev pub invariant-loop-entry : goal.invariant-loop-entry
invariant-loop-entry l =
    filter_map (dangling (interfaces_of l.self) l.self.nat) (drop l.entry-index l.entry-items)
    ≡ filter_map (dangling (interfaces_of l.self) l.self.nat) l.self.nat.dynamic
