use Rattle.std.proofs.Common.{◌≡◌, true, false, codes, rules}
use Rattle.std.specs.Str.{bytes_eq}
use Rattle.std.proofs.lemmas.Result.{err_from_is_err_and}
use Rattle.ios_lex.specs.Address.{IsAddress}
use Rattle.ios_lex.proofs.FirstStops.{begins_with_text}
use Rattle.ios_lex.proofs.WordForms.{words_differ}
use Rattle.ios_acl.proofs.WildcardForms.{wildcard_some, wildcard_stop, wildcard_log_stop, wildcard_end_stop}
use Rattle.ios_acl.proofs.places.wildcard_end.Goals as goal

pub returns-in_err-end-clause-stop : goal.returns-in_err-end-clause-stop
returns-in_err-end-clause-stop c =
    let test : bytes_eq c.in-Some.first.now (codes "log") ≡ true = search rules in
    let p = err_from_is_err_and c.from_residual.result c.from_residual.ensures.1 in
    rw (p.1, p.2)
    (wildcard_log_stop c.args.words.now c.in-Some.rest.now c.in_err-end.field-0.0
    (begins_with_text c.args.words.now c.in-Some.rest.now c.in-Some.first.now (codes "log") c.in-Some.ensures.cases.0 test)
    c.in_err-end.ensures.stop)

pub returns-in_default-address-clause-stop : goal.returns-in_default-address-clause-stop
returns-in_default-address-clause-stop c =
    let log : bytes_eq c.in-Some.first.now (codes "log") ≡ false = search rules in
    let none = rw c.bytes.ensures at c.in_default-address.ensures.none in
    wildcard_stop c.args.words.now c.in-Some.rest.now c.in-Some.first.now c.stop_before.result c.stop_before.ensures.left c.stop_before.ensures.due c.in-Some.ensures.cases.0
    (words_differ c.in-Some.first.now (codes "log") log) none

pub returns-in_err-end-2-clause-stop : goal.returns-in_err-end-2-clause-stop
returns-in_err-end-2-clause-stop c =
    let address : IsAddress c.in-Some.first.now c.in-Some-address.wildcard = search rules in
    let p = err_from_is_err_and c.from_residual-in_err-end-2.result c.from_residual-in_err-end-2.ensures.1 in
    rw (p.1, p.2)
    (wildcard_end_stop c.args.words.now c.in-Some.rest.now c.in-Some.first.now c.in-Some-address.wildcard c.in_err-end-2.field-0.0 c.in-Some.ensures.cases.0 address
    c.in_err-end-2.ensures.stop)

pub returns-clause-read : goal.returns-clause-read
returns-clause-read c =
    let address : IsAddress c.in-Some.first.now c.in-Some-address.wildcard = search rules in
    rw c.in-Some.ensures.cases.0 (wildcard_some c.in-Some.first.now c.in-Some-address.wildcard c.in-Some.rest.now address c.in_ok-end-2.ensures.read)
