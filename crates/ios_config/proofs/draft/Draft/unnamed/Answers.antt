use Rattle.std.proofs.Common.{rules, sym, true, false}
use Rattle.ios_config.specs.Router.{interfaces_of}
use Rattle.ios_config.proofs.NamedInterfaces.{unnamed_interface, unnamed_pool}
use Rattle.ios_config.proofs.draft.Draft.unnamed.Goals.{in_default-via-in-Pool+else-is_none, in_default-via-in-Interface+else-not-has}
use Rattle.ios_config.proofs.draft.Draft.unnamed.Goals as goal

-- src/draft.rt:304:5
pub returns-in-Interface : goal.returns-in-Interface
returns-in-Interface c =
    rw (← c.self.view_is, c.in-Interface.is)
    (sym (unnamed_interface c.self.inside.interfaces.blocks c.self.inside.nat c.in-Interface.name false (search rules)))

-- src/draft.rt:304:5
pub returns-in_default : goal.returns-in_default
returns-in_default c = elim c.in_default.branch [
  | in_default-via-in-Pool+else-is_none w ↦
      rw (← c.self.view_is, w.in-Pool.is)
      (sym (unnamed_pool (interfaces_of c.args.self.now) c.self.inside.nat w.in-Pool.name (search rules)))
  | in_default-via-in-Interface+else-not-has w ↦
      rw (← c.self.view_is, w.in-Interface.is)
      (sym (unnamed_interface c.self.inside.interfaces.blocks c.self.inside.nat w.in-Interface.name true (search rules)))
]
