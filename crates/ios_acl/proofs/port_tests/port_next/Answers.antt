use Rattle.std.proofs.Common.{◌≡◌, [], ◌∷◌, refl, rules}
use Rattle.ios_acl.proofs.PortWords.{LacksPort, no_port_first, stop_no_port}
use Rattle.ios_acl.proofs.port_tests.port_next.Goals as goal

pub returns-in_default-clause-stop : goal.returns-in_default-clause-stop
returns-in_default-clause-stop c =
    let none : LacksPort c.args.tcp c.args.words.now = λ word more whole n is. absurd (search rules) in
    stop_no_port c.args.tcp c.args.words.now c.stop_before.result none c.stop_before.ensures.due c.stop_before.ensures.left

pub returns-in_default-port-clause-stop : goal.returns-in_default-port-clause-stop
returns-in_default-port-clause-stop c =
    let whole : c.args.words.now ≡ c.in-Some.first.now ∷ c.in-Some.rest.now = search rules in
    let none = no_port_first c.args.tcp c.args.words.now c.in-Some.first.now c.in-Some.rest.now whole (rw c.bytes.ensures at c.in_default-port.ensures.none) in
    stop_no_port c.args.tcp c.args.words.now c.stop_before-in_default-port.result none c.stop_before-in_default-port.ensures.due c.stop_before-in_default-port.ensures.left

pub returns-clause-read : goal.returns-clause-read
returns-clause-read c =
    let whole : c.args.words.now ≡ c.in-Some.first.now ∷ c.in-Some.rest.now = search rules in
    (c.in-Some.first.now ∷ [], whole, (c.in-Some.first.now, refl, rw c.bytes.ensures at c.in-Some-port.ensures.found))
