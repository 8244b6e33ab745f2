use Rattle.std.proofs.Common.{◌≡◌, false, true, rules}
use Rattle.std.proofs.lemmas.List.{nil_from_length}
use Rattle.std.proofs.lemmas.Result.{err_from_is_err_and}
use Rattle.ios_route.specs.RouteParts.{is_option}
use Rattle.ios_route.specs.RouteLines.{HasDistance}
use Rattle.ios_route.proofs.RouteDistances.{distance_none, distance_read, distance_behind_stop, distance_options_stop, distance_stop}
use Rattle.ios_route.proofs.route_end.distance_end.Goals as goal

pub returns-in_default-clause-read : goal.returns-in_default-clause-read
returns-in_default-clause-read c = distance_none c.args.words.now (nil_from_length c.args.words.now c.in_default.ensures.cases)

pub returns-in_err-options-clause-stop : goal.returns-in_err-options-clause-stop
returns-in_err-options-clause-stop c =
    let p = err_from_is_err_and c.from_residual.result c.from_residual.ensures.1 in
    rw (p.1, p.2)
    (distance_behind_stop c.args.words.now c.in-Some.rest.now c.in-Some.first.now c.in-Some-distance.found c.in_err-options.field-0.0 c.in-Some.ensures.cases.0
    c.in-Some-distance.ensures.found c.in_err-options.ensures.stop)

pub returns-in-Some-distance-clause-read : goal.returns-in-Some-distance-clause-read
returns-in-Some-distance-clause-read c =
    distance_read c.args.words.now c.in-Some.rest.now c.in-Some.first.now c.in-Some-distance.found c.in-Some.ensures.cases.0 c.in-Some-distance.ensures.found c.in_ok-options.ensures.read

pub returns-then-not-is_option-clause-stop : goal.returns-then-not-is_option-clause-stop
returns-then-not-is_option-clause-stop c =
    let other : is_option c.in-Some.first.now ≡ false = search rules in
    distance_stop c.args.words.now c.in-Some.rest.now c.in-Some.first.now c.stop_before.result c.stop_before.ensures.left c.stop_before.ensures.due c.in-Some.ensures.cases.0
    other c.in_default-distance.ensures.none

pub returns-in_err-options-2-clause-stop : goal.returns-in_err-options-2-clause-stop
returns-in_err-options-2-clause-stop c =
    let option : is_option c.in-Some.first.now ≡ true = search rules in
    let p = err_from_is_err_and c.from_residual-in_err-options-2.result c.from_residual-in_err-options-2.ensures.1 in
    rw (p.1, p.2)
    (distance_options_stop c.args.words.now c.in-Some.rest.now c.in-Some.first.now c.in_err-options-2.field-0.0 c.in-Some.ensures.cases.0 option c.in_err-options-2.ensures.stop)

pub returns-clause-read : goal.returns-clause-read
returns-clause-read c = HasDistance.left_out c.args.words.now c.in_ok-options-2.ensures.read
