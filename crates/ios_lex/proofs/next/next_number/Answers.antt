use Rattle.std.proofs.Common.{◌≡◌, [], ◌∷◌, rules}
use Rattle.std.proofs.lemmas.List.{nil_from_length}
use Rattle.ios_lex.specs.NextWords.{SomeNumber}
use Rattle.ios_lex.proofs.FirstStops.{lacks_none, lacks_word}
use Rattle.ios_lex.proofs.NextWordForms.{number_read, number_stop, no_number_begins}
use Rattle.ios_lex.proofs.next.next_number.Goals as goal

pub returns-in_default-clause-stop : goal.returns-in_default-clause-stop
returns-in_default-clause-stop c =
    let none : c.args.words.now ≡ [] = nil_from_length c.args.words.now c.in_default.ensures.cases in
    number_stop c.args.low c.args.high c.args.words.now c.stop_before.result c.requires.some c.requires.short c.stop_before.ensures.left c.stop_before.ensures.due
    (λ b. lacks_none (SomeNumber c.args.low c.args.high b) c.args.words.now none)

pub returns-in_default-number_from-clause-stop : goal.returns-in_default-number_from-clause-stop
returns-in_default-number_from-clause-stop c =
    let whole : c.args.words.now ≡ c.in-Some.first.now ∷ c.in-Some.rest.now = search rules in
    let none = rw c.bytes.ensures at c.in_default-number_from.ensures.none in
    let stop = c.stop_before-in_default-number_from in
    number_stop c.args.low c.args.high c.args.words.now stop.result c.requires.some c.requires.short stop.ensures.left stop.ensures.due
    (λ b. lacks_word (SomeNumber c.args.low c.args.high b) c.args.words.now c.in-Some.rest.now c.in-Some.first.now whole
    (no_number_begins c.args.low c.args.high c.in-Some.first.now none b))

pub returns-clause-read : goal.returns-clause-read
returns-clause-read c =
    let whole : c.args.words.now ≡ c.in-Some.first.now ∷ c.in-Some.rest.now = search rules in
    let found = rw c.bytes.ensures at c.in-Some-number_from.ensures.found in
    number_read c.args.low c.args.high c.args.words.now c.in-Some.rest.now c.in-Some.first.now c.in-Some-number_from.found whole found.0 found.1
