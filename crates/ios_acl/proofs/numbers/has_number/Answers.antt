use Rattle.ios_acl.proofs.Rising.{has_there, has_past}
use Rattle.ios_acl.proofs.numbers.has_number.Goals as goal

pub returns-then-place-entries : goal.returns-then-place-entries
returns-then-place-entries c =
    has_there c.args.number c.place_of-place.result c.args.entries.now _ c.requires c.place_of-place.ensures c.if-place-entries.true

pub returns-else-place-entries : goal.returns-else-place-entries
returns-else-place-entries c =
    has_past c.args.number c.place_of-place.result c.args.entries.now c.requires c.place_of-place.ensures c.if-place-entries.false
