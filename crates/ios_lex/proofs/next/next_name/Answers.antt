use Rattle.std.proofs.Common.{◌≡◌, [], ◌∷◌, false, rules}
use Rattle.std.proofs.lemmas.List.{nil_from_length}
use Rattle.ios_lex.specs.NextWords.{SomeName}
use Rattle.ios_lex.specs.Refusal.{texts}
use Rattle.ios_lex.proofs.FirstStops.{lacks_none, lacks_word}
use Rattle.ios_lex.proofs.NextWordForms.{name_stop, no_name_begins}
use Rattle.ios_lex.proofs.next.next_name.Goals as goal

pub returns-in_default-clause-stop : goal.returns-in_default-clause-stop
returns-in_default-clause-stop c =
    let none : c.args.words.now ≡ [] = nil_from_length c.args.words.now c.in_default.ensures.cases in
    name_stop (texts c.args.table.now) c.args.words.now c.stop_before.result c.requires c.stop_before.ensures.left c.stop_before.ensures.due
    (lacks_none (SomeName (texts c.args.table.now) false) c.args.words.now none)

pub returns-then-not-is_name_beside-clause-stop : goal.returns-then-not-is_name_beside-clause-stop
returns-then-not-is_name_beside-clause-stop c =
    let whole : c.args.words.now ≡ c.in-Some.first.now ∷ c.in-Some.rest.now = search rules in
    let stop = c.stop_before-then-not-is_name_beside in
    name_stop (texts c.args.table.now) c.args.words.now stop.result c.requires stop.ensures.left stop.ensures.due
    (lacks_word (SomeName (texts c.args.table.now) false) c.args.words.now c.in-Some.rest.now c.in-Some.first.now whole
    (no_name_begins (texts c.args.table.now) c.in-Some.first.now (λ is. let yes = c.is_name_beside.ensures.1 is in search rules)))
