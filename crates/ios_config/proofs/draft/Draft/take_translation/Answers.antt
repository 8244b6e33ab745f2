use Rattle.ios_config.proofs.Taken.{translated}
use Rattle.ios_config.proofs.draft.Draft.take_translation.Goals as goal

pub returns-in-Ok-clause-taken : goal.returns-in-Ok-clause-taken
returns-in-Ok-clause-taken c =
    rw (← c.self.view_is)
    (translated c.self.inside.lists c.self.inside.interfaces c.self.inside.routes.items c.self.inside.nat c.read_line.new.self c.self.inside.block c.self.inside.ignored c.args.number c.args.words.now
    c.in-Ok.ensures.read)
