use Rattle.std.proofs.Common.{◌≡◌, false, true, sym, ◌∙◌, codes, rules}
use Rattle.std.specs.Str.{bytes_eq}
use Rattle.std.proofs.lemmas.List.{nil_from_length}
use Rattle.std.proofs.lemmas.Result.{err_from_is_err_and}
use Rattle.ios_lex.specs.Address.{IsAddress}
use Rattle.ios_lex.specs.NextWords.{IsNameBeside}
use Rattle.ios_lex.proofs.FirstStops.{begins_with_text}
use Rattle.ios_lex.proofs.WordForms.{words_differ}
use Rattle.ios_route.specs.RouteLines.{unmodelled}
use Rattle.ios_route.proofs.RouteExitWords.{exit_hop_read, exit_hop_stop, exit_null_read, exit_null_stop, exit_out_read, exit_out_stop, exit_short_stop, exit_stop, is_interface}
use Rattle.ios_route.proofs.route_line.exit_end.Goals as goal

pub returns-in_default-clause-stop : goal.returns-in_default-clause-stop
returns-in_default-clause-stop c =
    exit_short_stop c.args.words.now c.stop_before.result c.stop_before.ensures.left c.stop_before.ensures.due (nil_from_length c.args.words.now c.in_default.ensures.cases)

pub returns-in_err-distance-clause-stop : goal.returns-in_err-distance-clause-stop
returns-in_err-distance-clause-stop c =
    let address : IsAddress c.in-Some.first.now c.in-Some-address.hop = rw c.bytes.ensures at c.in-Some-address.ensures.found in
    let p = err_from_is_err_and c.from_residual.result c.from_residual.ensures.1 in
    rw (p.1, p.2)
    (exit_hop_stop c.args.words.now c.in-Some.rest.now c.in-Some.first.now c.in-Some-address.hop c.in_err-distance.field-0.0 c.in-Some.ensures.cases.0 address c.in_err-distance.ensures.stop)

pub returns-in-Some-address-clause-read : goal.returns-in-Some-address-clause-read
returns-in-Some-address-clause-read c =
    let address : IsAddress c.in-Some.first.now c.in-Some-address.hop = rw c.bytes.ensures at c.in-Some-address.ensures.found in
    exit_hop_read c.args.words.now c.in-Some.rest.now c.in-Some.first.now c.in-Some-address.hop c.in_ok-distance.distance c.in-Some.ensures.cases.0 address c.in_ok-distance.ensures.read

pub returns-in_err-distance-2-clause-stop : goal.returns-in_err-distance-2-clause-stop
returns-in_err-distance-2-clause-stop c =
    let test : bytes_eq c.in-Some.first.now (codes "Null0") ≡ true = sym c.is.ensures ∙ c.if-is.true in
    let p = err_from_is_err_and c.from_residual-in_err-distance-2.result c.from_residual-in_err-distance-2.ensures.1 in
    rw (p.1, p.2)
    (exit_null_stop c.args.words.now c.in-Some.rest.now c.in_err-distance-2.field-0.0
    (begins_with_text c.args.words.now c.in-Some.rest.now c.in-Some.first.now (codes "Null0") c.in-Some.ensures.cases.0 test) c.in_err-distance-2.ensures.stop)

pub returns-then-is-clause-read : goal.returns-then-is-clause-read
returns-then-is-clause-read c =
    let test : bytes_eq c.in-Some.first.now (codes "Null0") ≡ true = sym c.is.ensures ∙ c.if-is.true in
    exit_null_read c.args.words.now c.in-Some.rest.now c.in_ok-distance-2.distance
    (begins_with_text c.args.words.now c.in-Some.rest.now c.in-Some.first.now (codes "Null0") c.in-Some.ensures.cases.0 test) c.in_ok-distance-2.ensures.read

pub returns-then-not-is_name_beside-clause-stop : goal.returns-then-not-is_name_beside-clause-stop
returns-then-not-is_name_beside-clause-stop c =
    let test : bytes_eq c.in-Some.first.now (codes "Null0") ≡ false = sym c.is.ensures ∙ c.if-is.false in
    let other : IsNameBeside unmodelled c.in-Some.first.now → ⊥ = λ is. let yes = c.is_name_beside.ensures.1 is in search rules in
    let stop = c.stop_before-then-not-is_name_beside in
    exit_stop c.args.words.now c.in-Some.rest.now c.in-Some.first.now stop.result stop.ensures.left stop.ensures.due c.in-Some.ensures.cases.0
    (rw c.bytes.ensures at c.in_default-address.ensures.none) (words_differ c.in-Some.first.now (codes "Null0") test) other

pub returns-in_err-hop-clause-stop : goal.returns-in_err-hop-clause-stop
returns-in_err-hop-clause-stop c =
    let test : bytes_eq c.in-Some.first.now (codes "Null0") ≡ false = sym c.is.ensures ∙ c.if-is.false in
    let name : IsNameBeside unmodelled c.in-Some.first.now = c.is_name_beside.ensures.0 (search rules) in
    let p = err_from_is_err_and c.from_residual-in_err-hop.result c.from_residual-in_err-hop.ensures.1 in
    rw (p.1, p.2)
    (exit_out_stop c.args.words.now c.in-Some.rest.now c.in-Some.first.now c.in_err-hop.field-0.0 c.in-Some.ensures.cases.0
    (is_interface c.in-Some.first.now (rw c.bytes.ensures at c.in_default-address.ensures.none) (words_differ c.in-Some.first.now (codes "Null0") test) name)
    c.in_err-hop.ensures.stop)

pub returns-clause-read : goal.returns-clause-read
returns-clause-read c =
    let test : bytes_eq c.in-Some.first.now (codes "Null0") ≡ false = sym c.is.ensures ∙ c.if-is.false in
    let name : IsNameBeside unmodelled c.in-Some.first.now = c.is_name_beside.ensures.0 (search rules) in
    exit_out_read c.args.words.now c.in-Some.rest.now c.in-Some.first.now c.in_ok-hop.hop c.in_ok-hop.distance c.in-Some.ensures.cases.0
    (is_interface c.in-Some.first.now (rw c.bytes.ensures at c.in_default-address.ensures.none) (words_differ c.in-Some.first.now (codes "Null0") test) name false)
    c.in_ok-hop.ensures.read
