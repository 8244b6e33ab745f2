use Rattle.std.proofs.Common.{◌≡◌, ◌∙◌, true, sym, refl, slice_get, Some}
use Rattle.std.specs.Str.{bytes_eq}
use Rattle.std.proofs.lemmas.Option.{slice_get_read}
use Rattle.session.proofs.Places.{router_here}
use Rattle.session.proofs.locate.place_of.Goals as goal

pub returns-then-eq-clause-found : goal.returns-then-eq-clause-found
returns-then-eq-clause-found c =
    let library = c.args.library.now in
    let loaded = c.index-library-place.result in
    let at : slice_get library c.loop-place.place ≡ Some loaded = slice_get_read library _ c.loop-place.place loaded refl c.loop-place-test.true c.index-library-place.is in
    let named : bytes_eq c.args.router.now loaded.name ≡ true = cc (c.eq.ensures, c.if-eq.true, c.as_bytes.ensures.value, c.bytes.ensures, c.name.ensures) in
    c.place_in.ensures.found loaded at ∙ sym (router_here library c.loop-place.place c.args.router.now c.args.list.now loaded at named) ∙ c.loop-place.invariant
