use Rattle.std.proofs.Common.{◌≡◌, ◌<◌, Some, None, position, rules}
use Rattle.std.specs.Str.{bytes_eq}
use Rattle.ios_names.specs.Names.{most_names}
use Rattle.ios_interface.specs.Interfaces.{IsHeadingRefused, block_names, number_of}
use Rattle.ios_interface.proofs.NamedBlocks.{block_absent}
use Rattle.ios_interface.proofs.OpenedBlocks.{opened_again, opened_new}
use Rattle.ios_interface.proofs.interfaces.Interfaces.open.Goals as goal

pub returns-in_default-clause-refused : goal.returns-in_default-clause-refused
returns-in_default-clause-refused c = IsHeadingRefused.misread c.in_default.ensures.none

pub returns-in-Some-place-clause-opened : goal.returns-in-Some-place-clause-opened
returns-in-Some-place-clause-opened c =
    let indexed : block_names c.args.self.now.blocks ≡ c.self.inside.index = rw (← c.self.view_is) c.self.invariant.indexed in
    let at : position (bytes_eq c.in-Some.name.now) c.self.inside.index ≡ Some c.in-Some-place.place = search rules in
    opened_again c.args.self.now c.self.inside.index c.args.words.now c.in-Some.name.now c.in-Some-place.place indexed at c.in-Some.ensures.found

pub number-requires : goal.number-requires
number-requires c =
    let indexed : block_names c.args.self.now.blocks ≡ c.self.inside.index = rw (← c.self.view_is) c.self.invariant.indexed in
    let none : position (bytes_eq c.in-Some.name.now) c.self.inside.index ≡ None = search rules in
    block_absent c.args.self.now.blocks c.self.inside.index c.in-Some.name.now indexed none

pub returns-in_default-number-clause-refused : goal.returns-in_default-number-clause-refused
returns-in_default-number-clause-refused c =
    let indexed : block_names c.args.self.now.blocks ≡ c.self.inside.index = rw (← c.self.view_is) c.self.invariant.indexed in
    let none : position (bytes_eq c.in-Some.name.now) c.self.inside.index ≡ None = search rules in
    IsHeadingRefused.too_many c.in-Some.name.now c.in-Some.ensures.found (block_absent c.args.self.now.blocks c.self.inside.index c.in-Some.name.now indexed none) c.in_default-number.ensures.none

pub begin-requires-clause-absent : goal.begin-requires-clause-absent
begin-requires-clause-absent c =
    let indexed : block_names c.args.self.now.blocks ≡ c.self.inside.index = rw (← c.self.view_is) c.self.invariant.indexed in
    let none : position (bytes_eq c.in-Some.name.now) c.self.inside.index ≡ None = search rules in
    block_absent c.args.self.now.blocks c.self.inside.index c.in-Some.name.now indexed none

pub returns-clause-opened : goal.returns-clause-opened
returns-clause-opened c =
    let indexed : block_names c.args.self.now.blocks ≡ c.self.inside.index = rw (← c.self.view_is) c.self.invariant.indexed in
    let none : position (bytes_eq c.in-Some.name.now) c.self.inside.index ≡ None = search rules in
    let absent = block_absent c.args.self.now.blocks c.self.inside.index c.in-Some.name.now indexed none in
    let few : number_of c.args.self.now.known c.args.self.now.blocks c.in-Some.name.now < most_names = rw (← c.in-Some-number.ensures.found) c.in-Some-number.ensures.few in
    opened_new c.args.self.now c.begin.new.self c.args.words.now c.in-Some.name.now c.in_ok-place.place absent few c.in_ok-place.ensures.begun c.in_ok-place.ensures.place c.in-Some.ensures.found
