use Rattle.std.proofs.Common.{ap, ◌∙◌}
use Rattle.ios_lists.proofs.Growing.{names_pushed, put_behind}
use Rattle.ios_names.specs.Names.{with_name}
use Rattle.ios_lists.proofs.lists.Lists.push.Goals as goal

pub invariant_of-self-in_default : goal.invariant_of-self-in_default
invariant_of-self-in_default c =
    names_pushed c.self.inside.lists.items c.push.new.self.items c.self.inside.index c.add.new.self c.args.list c.self.invariant (rw (← c.self.view_is) at c.requires)
    c.in_default.ensures.items (c.in_ok-add.ensures.added ∙ ap (with_name c.self.inside.index) c.name.ensures)

pub returns-clause-pushed : goal.returns-clause-pushed
returns-clause-pushed c =
    rw (← c.self.view_is) (c.in_default.ensures.items ∙ put_behind c.self.inside.lists.items c.args.list (rw (← c.self.view_is) at c.requires))
