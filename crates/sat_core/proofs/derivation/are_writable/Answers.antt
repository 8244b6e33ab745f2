use Rattle.std.proofs.Common.{◌≡◌, sym, subst, take, rules, All}
use Rattle.std.proofs.lemmas.List.{take_more, take_all}
use Rattle.std.proofs.lemmas.List.Elements.{All-push}
use Rattle.certificates.specs.Writable.{IsWritableItem}
use Rattle.sat_core.proofs.derivation.are_writable.Goals as goal

pub loop-item-preserved : goal.loop-item-preserved
loop-item-preserved c =
    let items = c.args.items.now in
    let place = c.loop-item.item-index in
    let one = c.item-item.result in
    subst (All IsWritableItem) (sym (take_more items place one c.loop-item-test.true)) (All-push IsWritableItem (take place items) _ c.loop-item.invariant (subst IsWritableItem c.item-item.is c.if-not-is_writable_item.ensures))

pub returns : goal.returns
returns c =
    let all : take c.loop-item.item-index c.args.items.now ≡ c.args.items.now = take_all c.loop-item.item-index c.args.items.now (search rules) in
    subst (All IsWritableItem) all c.loop-item.invariant
