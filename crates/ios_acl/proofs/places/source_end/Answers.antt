use Rattle.std.proofs.Common.{◌≡◌, true, false, [], codes, rules}
use Rattle.std.specs.Str.{bytes_eq}
use Rattle.std.proofs.lemmas.List.{nil_from_length}
use Rattle.std.proofs.lemmas.Result.{err_from_is_err_and}
use Rattle.ios_lex.specs.Address.{IsAddress}
use Rattle.ios_lex.specs.NextWords.{SomeAddress}
use Rattle.ios_lex.proofs.FirstStops.{begins_with_text, lacks_none, lacks_word}
use Rattle.ios_lex.proofs.Stopping.{stop_in_any_names}
use Rattle.ios_lex.proofs.WordForms.{words_differ}
use Rattle.ios_acl.specs.Parts.{SomeSourceEnd}
use Rattle.ios_acl.proofs.SourceForms.{source_any, source_host, source_address, no_source_begins, source_stop, source_any_stop, source_host_stop, source_host_end_stop, source_address_stop}
use Rattle.ios_acl.proofs.places.source_end.Goals as goal

pub returns-in_default-clause-stop : goal.returns-in_default-clause-stop
returns-in_default-clause-stop c =
    let none : c.args.words.now ≡ [] = nil_from_length c.args.words.now c.in_default.ensures.cases in
    source_stop c.args.words.now c.stop_before.result c.stop_before.ensures.left c.stop_before.ensures.due (λ b. lacks_none (SomeSourceEnd b) c.args.words.now none)

pub returns-in_err-end-clause-stop : goal.returns-in_err-end-clause-stop
returns-in_err-end-clause-stop c =
    let test : bytes_eq c.in-Some.first.now (codes "any") ≡ true = search rules in
    let p = err_from_is_err_and c.from_residual.result c.from_residual.ensures.1 in
    rw (p.1, p.2)
    (source_any_stop c.args.words.now c.in-Some.rest.now c.in_err-end.field-0.0
    (begins_with_text c.args.words.now c.in-Some.rest.now c.in-Some.first.now (codes "any") c.in-Some.ensures.cases.0 test)
    c.in_err-end.ensures.stop)

pub returns-then-is-clause-read : goal.returns-then-is-clause-read
returns-then-is-clause-read c =
    let test : bytes_eq c.in-Some.first.now (codes "any") ≡ true = search rules in
    source_any c.args.words.now c.in-Some.rest.now
    (begins_with_text c.args.words.now c.in-Some.rest.now c.in-Some.first.now (codes "any") c.in-Some.ensures.cases.0 test)
    c.in_ok-end.ensures.read

pub returns-in_err-host-clause-stop : goal.returns-in_err-host-clause-stop
returns-in_err-host-clause-stop c =
    let test : bytes_eq c.in-Some.first.now (codes "host") ≡ true = search rules in
    let p = err_from_is_err_and c.from_residual-in_err-host.result c.from_residual-in_err-host.ensures.1 in
    rw (p.1, p.2)
    (source_host_stop c.args.words.now c.in-Some.rest.now c.in_err-host.field-0.0
    (begins_with_text c.args.words.now c.in-Some.rest.now c.in-Some.first.now (codes "host") c.in-Some.ensures.cases.0 test)
    c.in_err-host.ensures.part (stop_in_any_names SomeAddress c.in-Some.rest.now c.in_err-host.field-0.0 c.in_err-host.ensures.part c.in_err-host.ensures.stop))

pub returns-in_err-end-2-clause-stop : goal.returns-in_err-end-2-clause-stop
returns-in_err-end-2-clause-stop c =
    let test : bytes_eq c.in-Some.first.now (codes "host") ≡ true = search rules in
    let p = err_from_is_err_and c.from_residual-in_err-end-2.result c.from_residual-in_err-end-2.ensures.1 in
    rw (p.1, p.2)
    (source_host_end_stop c.args.words.now c.in-Some.rest.now c.in_ok-host.rest.now c.in_ok-host.host c.in_err-end-2.field-0.0
    (begins_with_text c.args.words.now c.in-Some.rest.now c.in-Some.first.now (codes "host") c.in-Some.ensures.cases.0 test)
    c.in_ok-host.ensures.read c.in_err-end-2.ensures.stop)

pub returns-then-is-2-clause-read : goal.returns-then-is-2-clause-read
returns-then-is-2-clause-read c =
    let test : bytes_eq c.in-Some.first.now (codes "host") ≡ true = search rules in
    source_host c.args.words.now c.in-Some.rest.now c.in_ok-host.rest.now c.in_ok-host.host
    (begins_with_text c.args.words.now c.in-Some.rest.now c.in-Some.first.now (codes "host") c.in-Some.ensures.cases.0 test)
    c.in_ok-host.ensures.read c.in_ok-end-2.ensures.read

pub returns-in_default-address-clause-stop : goal.returns-in_default-address-clause-stop
returns-in_default-address-clause-stop c =
    let any : bytes_eq c.in-Some.first.now (codes "any") ≡ false = search rules in
    let host : bytes_eq c.in-Some.first.now (codes "host") ≡ false = search rules in
    let none = rw c.bytes.ensures at c.in_default-address.ensures.none in
    source_stop c.args.words.now c.stop_before-in_default-address.result c.stop_before-in_default-address.ensures.left c.stop_before-in_default-address.ensures.due
    (λ b. lacks_word (SomeSourceEnd b) c.args.words.now c.in-Some.rest.now c.in-Some.first.now c.in-Some.ensures.cases.0
    (no_source_begins c.in-Some.first.now (words_differ c.in-Some.first.now (codes "any") any) (words_differ c.in-Some.first.now (codes "host") host) none b))

pub returns-in_err-wildcard-clause-stop : goal.returns-in_err-wildcard-clause-stop
returns-in_err-wildcard-clause-stop c =
    let address : IsAddress c.in-Some.first.now c.in-Some-address.some = search rules in
    let p = err_from_is_err_and c.from_residual-in_err-wildcard.result c.from_residual-in_err-wildcard.ensures.1 in
    rw (p.1, p.2)
    (source_address_stop c.args.words.now c.in-Some.rest.now c.in-Some.first.now c.in-Some-address.some c.in_err-wildcard.field-0.0 c.in-Some.ensures.cases.0 address
    c.in_err-wildcard.ensures.stop)

pub returns-clause-read : goal.returns-clause-read
returns-clause-read c =
    let address : IsAddress c.in-Some.first.now c.in-Some-address.some = search rules in
    source_address c.args.words.now c.in-Some.rest.now c.in-Some.first.now c.in-Some-address.some c.in_ok-wildcard.wildcard c.in-Some.ensures.cases.0 address
    c.in_ok-wildcard.ensures.read
