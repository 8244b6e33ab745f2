use Rattle.std.proofs.Common.{◌≡◌, true, false, [], ◌∷◌, length, ap, rules}
use Rattle.std.specs.Bool.{◌==◌}
use Rattle.std.proofs.lemmas.Bool.{eqb-true, eqb-false}
use Rattle.std.proofs.lemmas.List.{nil_from_length}
use Rattle.ios_acl.specs.Parts.{is_log_word}
use Rattle.ios_acl.proofs.LogForms.{log_stop, log_stop_behind}
use Rattle.ios_acl.proofs.LogWords.{log_read}
use Rattle.ios_acl.proofs.endings.end.Goals as goal

pub returns-then-not-is_log-clause-stop : goal.returns-then-not-is_log-clause-stop
returns-then-not-is_log-clause-stop c =
    let whole : c.args.words.now ≡ c.in-Some.first.now ∷ c.in-Some.rest.now = search rules in
    let other : is_log_word c.args.extended c.in-Some.first.now ≡ false = search rules in
    log_stop c.args.extended c.args.words.now c.in-Some.rest.now c.in-Some.first.now c.stop_before.result c.stop_before.ensures.left c.stop_before.ensures.due whole other

pub returns-then-not-is_empty-clause-stop : goal.returns-then-not-is_empty-clause-stop
returns-then-not-is_empty-clause-stop c =
    let whole : c.args.words.now ≡ c.in-Some.first.now ∷ c.in-Some.rest.now = search rules in
    let test : is_log_word c.args.extended c.in-Some.first.now ≡ true = search rules in
    let some : (length c.in-Some.rest.now == 0) ≡ false = search rules in
    log_stop_behind c.args.extended c.args.words.now c.in-Some.rest.now c.in-Some.first.now c.stop_before-then-not-is_empty.result
    c.stop_before-then-not-is_empty.ensures.left c.stop_before-then-not-is_empty.ensures.due whole test
    (λ none. eqb-false (length c.in-Some.rest.now) 0 some (ap length none))

pub returns-clause-read : goal.returns-clause-read
returns-clause-read c =
    let whole : c.args.words.now ≡ c.in-Some.first.now ∷ c.in-Some.rest.now = search rules in
    let test : is_log_word c.args.extended c.in-Some.first.now ≡ true = search rules in
    let empty : (length c.in-Some.rest.now == 0) ≡ true = search rules in
    let none : c.in-Some.rest.now ≡ [] = nil_from_length c.in-Some.rest.now (eqb-true (length c.in-Some.rest.now) 0 empty) in
    rw (whole, none) (log_read c.args.extended c.in-Some.first.now test)
