use Rattle.std.proofs.Common.{◌≡◌, true, false, Some, None, rules}
use Rattle.ios_config.specs.Choices.{alone, shared}
use Rattle.ios_config.specs.Sources.{counting, fixed, goes_out, IsSource, own}
use Rattle.ios_config.proofs.SourceCases.{alone_full, by_dynamic, by_static, no_source, shared_full, stays, uncounted}
use Rattle.ios_config.proofs.source_choice.sources.Goals as goal

pub returns-then-not-goes_out-clause-none : goal.returns-then-not-goes_out-clause-none
returns-then-not-goes_out-clause-none c =
    let inner : goes_out c.args.interfaces.now c.args.entry c.args.exit ≡ false = search rules in
    rw c.alone-own.ensures
    (no_source (IsSource c.args.lists.now c.args.interfaces.now c.args.nat.now c.args.entry c.args.exit c.args.packet.now) (Some (alone (own c.args.packet.now))) (alone_full (own c.args.packet.now))
    (stays c.args.lists.now c.args.interfaces.now c.args.nat.now c.args.entry c.args.exit c.args.packet.now inner))

pub returns-in-Some-clause-none : goal.returns-in-Some-clause-none
returns-in-Some-clause-none c =
    let out : goes_out c.args.interfaces.now c.args.entry c.args.exit ≡ true = search rules in
    let is : fixed c.args.nat.now c.args.packet.now ≡ Some (c.in-Some.address, c.in-Some.port) = search rules in
    rw c.alone.ensures
    (no_source (IsSource c.args.lists.now c.args.interfaces.now c.args.nat.now c.args.entry c.args.exit c.args.packet.now) (Some (alone (c.in-Some.address, c.in-Some.port))) (alone_full (c.in-Some.address, c.in-Some.port))
    (by_static c.args.lists.now c.args.interfaces.now c.args.nat.now c.args.entry c.args.exit c.args.packet.now out (c.in-Some.address, c.in-Some.port) is))

pub returns-in-Some-counting-clause-some : goal.returns-in-Some-counting-clause-some
returns-in-Some-counting-clause-some c =
    let out : goes_out c.args.interfaces.now c.args.entry c.args.exit ≡ true = search rules in
    let none : fixed c.args.nat.now c.args.packet.now ≡ None = search rules in
    let counts : counting c.args.lists.now c.args.nat.now.dynamic c.args.packet.now ≡ Some c.in-Some-counting.dynamic.now = search rules in
    rw c.shared.ensures
    (by_dynamic c.args.lists.now c.args.interfaces.now c.args.nat.now c.args.entry c.args.exit c.args.packet.now out none c.in-Some-counting.dynamic.now counts)

pub returns-in-Some-counting-clause-none : goal.returns-in-Some-counting-clause-none
returns-in-Some-counting-clause-none c =
    let out : goes_out c.args.interfaces.now c.args.entry c.args.exit ≡ true = search rules in
    let none : fixed c.args.nat.now c.args.packet.now ≡ None = search rules in
    let counts : counting c.args.lists.now c.args.nat.now.dynamic c.args.packet.now ≡ Some c.in-Some-counting.dynamic.now = search rules in
    rw c.shared.ensures
    (no_source (IsSource c.args.lists.now c.args.interfaces.now c.args.nat.now c.args.entry c.args.exit c.args.packet.now) (shared c.args.interfaces.now c.args.nat.now c.args.packet.now c.in-Some-counting.dynamic.now)
    (shared_full c.args.interfaces.now c.args.nat.now c.args.packet.now c.in-Some-counting.dynamic.now)
    (by_dynamic c.args.lists.now c.args.interfaces.now c.args.nat.now c.args.entry c.args.exit c.args.packet.now out none c.in-Some-counting.dynamic.now counts))

pub returns-in-None-clause-none : goal.returns-in-None-clause-none
returns-in-None-clause-none c =
    let out : goes_out c.args.interfaces.now c.args.entry c.args.exit ≡ true = search rules in
    let none : fixed c.args.nat.now c.args.packet.now ≡ None = search rules in
    let counts : counting c.args.lists.now c.args.nat.now.dynamic c.args.packet.now ≡ None = search rules in
    rw c.alone-own.ensures
    (no_source (IsSource c.args.lists.now c.args.interfaces.now c.args.nat.now c.args.entry c.args.exit c.args.packet.now) (Some (alone (own c.args.packet.now))) (alone_full (own c.args.packet.now))
    (uncounted c.args.lists.now c.args.interfaces.now c.args.nat.now c.args.entry c.args.exit c.args.packet.now out none counts))
