use Rattle.std.proofs.Common.{sym, ◌∙◌, codes}
use Rattle.std.proofs.lemmas.List.{nil_from_length}
use Rattle.std.proofs.lemmas.Result.{err_from_is_err_and}
use Rattle.ios_route.proofs.RouteOptions.{ok_then, err_then, may_test, may_not, options_none, permanent_read, permanent_stop, name_within_stop, name_read, name_stop, tag_within_stop, tag_read, tag_stop, option_stop}
use Rattle.ios_route.proofs.route_end.+options.Goals as goal

pub returns-in_default-clause-read : goal.returns-in_default-clause-read
returns-in_default-clause-read t c =
    let a = c.args in
    options_none a.permanent a.name a.tag a.words.now (nil_from_length a.words.now c.in_default.ensures.cases)

pub returns-then-may_be-clause-read : goal.returns-then-may_be-clause-read
returns-then-may_be-clause-read t c =
    let a = c.args in
    let test = may_test a.words.now c.in-Some.rest.now c.in-Some.first.now (codes "permanent") a.permanent c.in-Some.ensures.cases.0 (sym c.may_be.ensures ∙ c.if-may_be.true) in
    ok_then c.options.result _ _ (λ u are. permanent_read a.permanent a.name a.tag a.words.now c.in-Some.rest.now test.0 test.1 are) c.options.ensures.read

pub returns-then-may_be-clause-stop : goal.returns-then-may_be-clause-stop
returns-then-may_be-clause-stop t c =
    let a = c.args in
    let test = may_test a.words.now c.in-Some.rest.now c.in-Some.first.now (codes "permanent") a.permanent c.in-Some.ensures.cases.0 (sym c.may_be.ensures ∙ c.if-may_be.true) in
    err_then c.options.result _ _ (λ stop stops. permanent_stop a.permanent a.name a.tag a.words.now c.in-Some.rest.now stop test.0 test.1 stops) c.options.ensures.stop

pub returns-in_err-rest-clause-stop : goal.returns-in_err-rest-clause-stop
returns-in_err-rest-clause-stop t c =
    let a = c.args in
    let test = may_test a.words.now c.in-Some.rest.now c.in-Some.first.now (codes "name") a.name c.in-Some.ensures.cases.0 (sym c.may_be-2.ensures ∙ c.if-may_be-2.true) in
    let p = err_from_is_err_and c.from_residual.result c.from_residual.ensures.1 in
    rw (p.1, p.2)
    (name_within_stop a.permanent a.name a.tag a.words.now c.in-Some.rest.now c.in_err-rest.field-0.0 test.0 test.1 c.in_err-rest.ensures.part c.in_err-rest.ensures.stop)

pub returns-then-may_be-2-clause-read : goal.returns-then-may_be-2-clause-read
returns-then-may_be-2-clause-read t c =
    let a = c.args in
    let test = may_test a.words.now c.in-Some.rest.now c.in-Some.first.now (codes "name") a.name c.in-Some.ensures.cases.0 (sym c.may_be-2.ensures ∙ c.if-may_be-2.true) in
    ok_then c.options-then-may_be-2.result _ _
    (λ u are. name_read a.permanent a.name a.tag a.words.now c.in-Some.rest.now c.in_ok-rest.rest.now c.in_ok-rest.field-0-0.now test.0 test.1 c.in_ok-rest.ensures.read are)
    c.options-then-may_be-2.ensures.read

pub returns-then-may_be-2-clause-stop : goal.returns-then-may_be-2-clause-stop
returns-then-may_be-2-clause-stop t c =
    let a = c.args in
    let test = may_test a.words.now c.in-Some.rest.now c.in-Some.first.now (codes "name") a.name c.in-Some.ensures.cases.0 (sym c.may_be-2.ensures ∙ c.if-may_be-2.true) in
    err_then c.options-then-may_be-2.result _ _
    (λ stop stops. name_stop a.permanent a.name a.tag a.words.now c.in-Some.rest.now c.in_ok-rest.rest.now c.in_ok-rest.field-0-0.now stop test.0 test.1 c.in_ok-rest.ensures.read stops)
    c.options-then-may_be-2.ensures.stop

pub returns-in_err-rest-2-clause-stop : goal.returns-in_err-rest-2-clause-stop
returns-in_err-rest-2-clause-stop t c =
    let a = c.args in
    let test = may_test a.words.now c.in-Some.rest.now c.in-Some.first.now (codes "tag") a.tag c.in-Some.ensures.cases.0 (sym c.may_be-3.ensures ∙ c.if-may_be-3.true) in
    let p = err_from_is_err_and c.from_residual-in_err-rest-2.result c.from_residual-in_err-rest-2.ensures.1 in
    rw (p.1, p.2)
    (tag_within_stop a.permanent a.name a.tag a.words.now c.in-Some.rest.now c.in_err-rest-2.field-0.0 test.0 test.1 c.in_err-rest-2.ensures.part c.in_err-rest-2.ensures.stop)

pub returns-then-may_be-3-clause-read : goal.returns-then-may_be-3-clause-read
returns-then-may_be-3-clause-read t c =
    let a = c.args in
    let test = may_test a.words.now c.in-Some.rest.now c.in-Some.first.now (codes "tag") a.tag c.in-Some.ensures.cases.0 (sym c.may_be-3.ensures ∙ c.if-may_be-3.true) in
    ok_then c.options-then-may_be-3.result _ _
    (λ u are. tag_read a.permanent a.name a.tag a.words.now c.in-Some.rest.now c.in_ok-rest-2.rest.now c.in_ok-rest-2.field-0-0 test.0 test.1 c.in_ok-rest-2.ensures.read are)
    c.options-then-may_be-3.ensures.read

pub returns-then-may_be-3-clause-stop : goal.returns-then-may_be-3-clause-stop
returns-then-may_be-3-clause-stop t c =
    let a = c.args in
    let test = may_test a.words.now c.in-Some.rest.now c.in-Some.first.now (codes "tag") a.tag c.in-Some.ensures.cases.0 (sym c.may_be-3.ensures ∙ c.if-may_be-3.true) in
    err_then c.options-then-may_be-3.result _ _
    (λ stop stops. tag_stop a.permanent a.name a.tag a.words.now c.in-Some.rest.now c.in_ok-rest-2.rest.now c.in_ok-rest-2.field-0-0 stop test.0 test.1 c.in_ok-rest-2.ensures.read stops)
    c.options-then-may_be-3.ensures.stop

pub returns-clause-stop : goal.returns-clause-stop
returns-clause-stop t c =
    let a = c.args in
    let word = c.in-Some.first.now in
    option_stop a.permanent a.name a.tag a.words.now c.in-Some.rest.now word c.stop_before.result c.stop_before.ensures.left c.stop_before.ensures.due c.in-Some.ensures.cases.0
    (may_not word (codes "permanent") a.permanent (sym c.may_be.ensures ∙ c.if-may_be.false))
    (may_not word (codes "name") a.name (sym c.may_be-2.ensures ∙ c.if-may_be-2.false))
    (may_not word (codes "tag") a.tag (sym c.may_be-3.ensures ∙ c.if-may_be-3.false))
