use Rattle.std.proofs.lemmas.List.{nil_from_length}
use Rattle.std.proofs.lemmas.Result.{err_from_is_err_and}
use Rattle.ios_lex.specs.Address.{IsAddress}
use Rattle.ios_route.proofs.RouteMasks.{line_short_stop, line_word_stop, line_behind_stop}
use Rattle.ios_route.proofs.route_line.spelled.Goals as goal

pub returns-in_default-clause-stop : goal.returns-in_default-clause-stop
returns-in_default-clause-stop c =
    line_short_stop c.args.words.now c.stop_before.result c.stop_before.ensures.left c.stop_before.ensures.due (nil_from_length c.args.words.now c.in_default.ensures.cases)

pub returns-in_default-address-clause-stop : goal.returns-in_default-address-clause-stop
returns-in_default-address-clause-stop c =
    let stop = c.stop_before-in_default-address in
    line_word_stop c.args.words.now c.in-Some.rest.now c.in-Some.first.now stop.result stop.ensures.left stop.ensures.due c.in-Some.ensures.cases.0
    (rw c.bytes.ensures at c.in_default-address.ensures.none)

pub returns-in_err-len-clause-stop : goal.returns-in_err-len-clause-stop
returns-in_err-len-clause-stop c =
    let address : IsAddress c.in-Some.first.now c.in-Some-address.prefix = rw c.bytes.ensures at c.in-Some-address.ensures.found in
    let p = err_from_is_err_and c.from_residual.result c.from_residual.ensures.1 in
    rw (p.1, p.2)
    (line_behind_stop c.args.words.now c.in-Some.rest.now c.in-Some.first.now c.in-Some-address.prefix c.in_err-len.field-0.0
    c.in-Some.ensures.cases.0 address c.in_err-len.ensures.stop)
