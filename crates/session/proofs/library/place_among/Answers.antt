use Rattle.std.proofs.Common.{◌∙◌, sym, refl, add-one}
use Rattle.std.proofs.lemmas.Option.{slice_get_read}
use Rattle.session.proofs.Places.{list_here, list_elsewhere}
use Rattle.session.proofs.library.place_among.Goals as goal

pub returns-then-is_defined_as-clause-found : goal.returns-then-is_defined_as-clause-found
returns-then-is_defined_as-clause-found c =
    let list = c.index-lists-place.result in
    let at = slice_get_read c.args.lists.now _ c.loop-place.place list refl c.loop-place-test.true c.index-lists-place.is in
    at ∙ sym (list_here c.args.lists.now c.loop-place.place c.args.name.now list at (sym c.is_defined_as.ensures ∙ c.if-is_defined_as.true)) ∙ c.loop-place.invariant

pub loop-place-preserved : goal.loop-place-preserved
loop-place-preserved c =
    let list = c.index-lists-place.result in
    let at = slice_get_read c.args.lists.now _ c.loop-place.place list refl c.loop-place-test.true c.index-lists-place.is in
    rw add-one (sym (list_elsewhere c.args.lists.now c.loop-place.place c.args.name.now list at (sym c.is_defined_as.ensures ∙ c.if-is_defined_as.false)) ∙ c.loop-place.invariant)
