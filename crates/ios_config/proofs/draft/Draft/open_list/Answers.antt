use Rattle.ios_config.proofs.Taken.{list_fault, opened_list}
use Rattle.ios_config.proofs.draft.Draft.open_list.Goals as goal

pub returns-in-Ok-clause-taken : goal.returns-in-Ok-clause-taken
returns-in-Ok-clause-taken c number words =
    rw (← c.self.view_is)
    (opened_list c.self.inside.lists c.open.new.self c.self.inside.interfaces c.self.inside.routes.items c.self.inside.nat c.self.inside.block c.self.inside.ignored c.args.rest.now c.in-Ok.place
    c.in-Ok.ensures.opened number words)

pub returns-in-Err-clause-refused : goal.returns-in-Err-clause-refused
returns-in-Err-clause-refused c words =
    rw (c.of_list.ensures, ← c.self.view_is) (list_fault _ c.args.rest.now words c.in-Err.fault c.in-Err.ensures.refused)
