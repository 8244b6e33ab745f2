use Rattle.std.proofs.Common.{◌≡◌, [], true, false, codes, rules}
use Rattle.std.specs.Str.{bytes_eq}
use Rattle.std.proofs.lemmas.List.{nil_from_length}
use Rattle.ios_lex.proofs.FirstStops.{begins_with_text, lacks_none, lacks_word}
use Rattle.ios_lex.proofs.WordForms.{words_differ}
use Rattle.ios_acl.specs.Reading.{Sentence}
use Rattle.ios_acl.specs.Stops.{IsStop}
use Rattle.ios_acl.proofs.Sentences.{extended_read, no_sentence_begins, remark_read, sentence_stop, standard_read, stop_behind_verdict}
use Rattle.ios_acl.proofs.spelled.sentence.Goals as goal

pub returns-in_default-clause-stop : goal.returns-in_default-clause-stop
returns-in_default-clause-stop c =
    let none : c.args.words.now ≡ [] = nil_from_length c.args.words.now c.in_default.ensures.cases in
    sentence_stop c.args.extended c.args.words.now c.stop_before.result c.stop_before.ensures.left c.stop_before.ensures.due (λ b. lacks_none (Sentence c.args.extended b) c.args.words.now none)

pub returns-then-is-clause-read : goal.returns-then-is-clause-read
returns-then-is-clause-read c =
    let test : bytes_eq c.in-Some.first.now (codes "remark") ≡ true = search rules in
    remark_read c.args.extended false c.args.words.now c.in-Some.rest.now
    (begins_with_text c.args.words.now c.in-Some.rest.now c.in-Some.first.now (codes "remark") c.in-Some.ensures.cases.0 test)

pub returns-in_default-verdict_of-clause-stop : goal.returns-in_default-verdict_of-clause-stop
returns-in_default-verdict_of-clause-stop c =
    let test : bytes_eq c.in-Some.first.now (codes "remark") ≡ false = search rules in
    sentence_stop c.args.extended c.args.words.now c.stop_before-in_default-verdict_of.result c.stop_before-in_default-verdict_of.ensures.left c.stop_before-in_default-verdict_of.ensures.due
    (λ b. lacks_word (Sentence c.args.extended b) c.args.words.now c.in-Some.rest.now c.in-Some.first.now c.in-Some.ensures.cases.0
    (no_sentence_begins c.args.extended c.in-Some.first.now (words_differ c.in-Some.first.now (codes "remark") test) c.in_default-verdict_of.ensures.none b))

pub returns-in_err-entry-clause-stop : goal.returns-in_err-entry-clause-stop
returns-in_err-entry-clause-stop c =
    let stop : IsStop (Sentence true) c.args.words.now c.in_err-entry.field-0.0 =
    stop_behind_verdict true c.in-Some-verdict_of.verdict c.args.words.now c.in-Some.rest.now c.in-Some.first.now c.in_err-entry.field-0.0 c.in-Some.ensures.cases.0
    c.in-Some-verdict_of.ensures.found c.in_err-entry.ensures.stop in
    rw c.if-extended.true (search rules)

pub returns-in_err-entry-2-clause-stop : goal.returns-in_err-entry-2-clause-stop
returns-in_err-entry-2-clause-stop c =
    let stop : IsStop (Sentence false) c.args.words.now c.in_err-entry-2.field-0.0 =
    stop_behind_verdict false c.in-Some-verdict_of.verdict c.args.words.now c.in-Some.rest.now c.in-Some.first.now c.in_err-entry-2.field-0.0 c.in-Some.ensures.cases.0
    c.in-Some-verdict_of.ensures.found c.in_err-entry-2.ensures.stop in
    rw c.if-extended.false (search rules)

pub returns-in_ok-entry-clause-read : goal.returns-in_ok-entry-clause-read
returns-in_ok-entry-clause-read c =
    rw c.if-extended.true
    (extended_read c.in-Some-verdict_of.verdict c.in_ok-entry.entry c.args.words.now c.in-Some.rest.now c.in-Some.first.now c.in-Some.ensures.cases.0
    c.in-Some-verdict_of.ensures.found c.in_ok-entry.ensures.verdict c.in_ok-entry.ensures.read)

pub returns-in_ok-entry-2-clause-read : goal.returns-in_ok-entry-2-clause-read
returns-in_ok-entry-2-clause-read c =
    rw c.if-extended.false
    (standard_read c.in-Some-verdict_of.verdict c.in_ok-entry-2.entry c.args.words.now c.in-Some.rest.now c.in-Some.first.now c.in-Some.ensures.cases.0
    c.in-Some-verdict_of.ensures.found c.in_ok-entry-2.ensures.verdict c.in_ok-entry-2.ensures.read)
