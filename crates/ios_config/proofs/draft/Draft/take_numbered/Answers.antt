use Rattle.ios_config.proofs.Taken.{numbered, numbered_fault}
use Rattle.ios_config.proofs.draft.Draft.take_numbered.Goals as goal

pub returns-in-Ok-clause-taken : goal.returns-in-Ok-clause-taken
returns-in-Ok-clause-taken c number words =
    rw (c.count.ensures, ← c.self.view_is) (numbered _ c.args.rest.now c.take_numbered.new.self c.in-Ok.taken c.in-Ok.ensures.read number words)

pub returns-in-Err-clause-refused : goal.returns-in-Err-clause-refused
returns-in-Err-clause-refused c words =
    rw (c.of_list.ensures, ← c.self.view_is) (numbered_fault _ c.args.rest.now words c.in-Err.fault c.in-Err.ensures.refused)
