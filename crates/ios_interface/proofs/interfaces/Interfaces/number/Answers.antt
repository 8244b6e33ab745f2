use Rattle.std.proofs.Common.{◌≡◌, ◌∙◌, Some, None, position, sym, length, rules}
use Rattle.std.specs.Str.{bytes_eq}
use Rattle.ios_interface.specs.Interfaces.{names_so_far}
use Rattle.ios_interface.proofs.InterfaceNumbers.{number_known, number_new}
use Rattle.ios_interface.proofs.interfaces.Interfaces.number.Goals as goal

pub returns-in-Some-clause-found : goal.returns-in-Some-clause-found
returns-in-Some-clause-found c =
    let at : position (bytes_eq c.args.name.now) c.args.self.now.known ≡ Some c.in-Some.number = search rules in
    number_known c.args.self.now.known c.args.self.now.blocks c.args.name.now c.in-Some.number at

pub returns-then-self-lt-MOST_NAMES-clause-found : goal.returns-then-self-lt-MOST_NAMES-clause-found
returns-then-self-lt-MOST_NAMES-clause-found c =
    let unknown : position (bytes_eq c.args.name.now) c.args.self.now.known ≡ None = search rules in
    let counted : c.self.inside.count ≡ length (names_so_far c.args.self.now.known c.args.self.now.blocks) = rw (← c.self.view_is) c.self.invariant.counted in
    counted ∙ sym (number_new c.args.self.now.known c.args.self.now.blocks c.args.name.now unknown c.requires)

pub returns-else-self-lt-MOST_NAMES-clause-none : goal.returns-else-self-lt-MOST_NAMES-clause-none
returns-else-self-lt-MOST_NAMES-clause-none c =
    let unknown : position (bytes_eq c.args.name.now) c.args.self.now.known ≡ None = search rules in
    let counted : c.self.inside.count ≡ length (names_so_far c.args.self.now.known c.args.self.now.blocks) = rw (← c.self.view_is) c.self.invariant.counted in
    let new = number_new c.args.self.now.known c.args.self.now.blocks c.args.name.now unknown c.requires in
    rw (new, ← counted) c.if-self-lt-MOST_NAMES.false
