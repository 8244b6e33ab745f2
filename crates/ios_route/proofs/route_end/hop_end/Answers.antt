use Rattle.std.proofs.Common.{rules}
use Rattle.std.proofs.lemmas.List.{nil_from_length}
use Rattle.std.proofs.lemmas.Result.{err_from_is_err_and}
use Rattle.ios_lex.specs.Address.{IsAddress}
use Rattle.ios_route.specs.RouteParts.{BeginsDistance}
use Rattle.ios_route.proofs.RouteDistances.{distance_none, hop_none, hop_read, hop_behind_stop, hop_distance_stop, hop_stop}
use Rattle.ios_route.proofs.route_end.hop_end.Goals as goal

pub returns-in_default-clause-read : goal.returns-in_default-clause-read
returns-in_default-clause-read c = hop_none c.args.words.now 1 (distance_none c.args.words.now (nil_from_length c.args.words.now c.in_default.ensures.cases))

pub returns-in_err-found-clause-stop : goal.returns-in_err-found-clause-stop
returns-in_err-found-clause-stop c =
    let address : IsAddress c.in-Some.first.now c.in-Some-address.hop = rw c.bytes.ensures at c.in-Some-address.ensures.found in
    let p = err_from_is_err_and c.from_residual.result c.from_residual.ensures.1 in
    rw (p.1, p.2)
    (hop_behind_stop c.args.words.now c.in-Some.rest.now c.in-Some.first.now c.in-Some-address.hop c.in_err-found.field-0.0 c.in-Some.ensures.cases.0 address c.in_err-found.ensures.stop)

pub returns-in-Some-address-clause-read : goal.returns-in-Some-address-clause-read
returns-in-Some-address-clause-read c =
    let address : IsAddress c.in-Some.first.now c.in-Some-address.hop = rw c.bytes.ensures at c.in-Some-address.ensures.found in
    hop_read c.args.words.now c.in-Some.rest.now c.in-Some.first.now c.in-Some-address.hop c.in_ok-found.found c.in-Some.ensures.cases.0 address c.in_ok-found.ensures.read

pub returns-then-not-begins_distance-clause-stop : goal.returns-then-not-begins_distance-clause-stop
returns-then-not-begins_distance-clause-stop c =
    let other : BeginsDistance c.in-Some.first.now → ⊥ = λ begins. let yes = c.begins_distance.ensures.1 begins in search rules in
    hop_stop c.args.words.now c.in-Some.rest.now c.in-Some.first.now c.stop_before.result c.stop_before.ensures.left c.stop_before.ensures.due c.in-Some.ensures.cases.0
    other (rw c.bytes.ensures at c.in_default-address.ensures.none)

pub returns-in_err-found-2-clause-stop : goal.returns-in_err-found-2-clause-stop
returns-in_err-found-2-clause-stop c =
    let begins : BeginsDistance c.in-Some.first.now = c.begins_distance.ensures.0 (search rules) in
    let p = err_from_is_err_and c.from_residual-in_err-found-2.result c.from_residual-in_err-found-2.ensures.1 in
    rw (p.1, p.2)
    (hop_distance_stop c.args.words.now c.in-Some.rest.now c.in-Some.first.now c.in_err-found-2.field-0.0 c.in-Some.ensures.cases.0 begins
    (rw c.bytes.ensures at c.in_default-address.ensures.none) c.in_err-found-2.ensures.stop)

pub returns-clause-read : goal.returns-clause-read
returns-clause-read c = hop_none c.args.words.now c.in_ok-found-2.found c.in_ok-found-2.ensures.read
