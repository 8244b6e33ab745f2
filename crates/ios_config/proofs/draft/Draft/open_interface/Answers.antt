use Rattle.std.proofs.lemmas.Result.{err_from_is_err_and}
use Rattle.ios_interface.proofs.NamedBlocks.{place_within}
use Rattle.ios_config.proofs.Taken.{interface_fault, opened_interface}
use Rattle.ios_config.proofs.draft.Draft.open_interface.Goals as goal

pub returns-in_err-place-clause-refused : goal.returns-in_err-place-clause-refused
returns-in_err-place-clause-refused c =
    let p = err_from_is_err_and c.from_residual.result c.from_residual.ensures.1 in
    rw (p.1, p.2) (λ words. rw (← c.self.view_is) (interface_fault _ c.args.rest.now words c.in_err-place.field-0.0 c.in_err-place.ensures.refused))

pub invariant_of-self-2 : goal.invariant_of-self-2
invariant_of-self-2 c =
    place_within c.open.new.self.blocks c.in_ok-place.place c.in_ok-place.ensures.opened.name c.in_ok-place.ensures.opened.there

pub returns-clause-taken : goal.returns-clause-taken
returns-clause-taken c number words =
    rw (← c.self.view_is)
    (opened_interface c.self.inside.lists c.self.inside.interfaces c.open.new.self c.self.inside.routes.items c.self.inside.nat c.self.inside.block c.self.inside.ignored c.args.rest.now c.in_ok-place.place
    c.in_ok-place.ensures.opened number words)
