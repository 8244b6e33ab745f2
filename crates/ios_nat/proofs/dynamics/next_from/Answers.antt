use Rattle.std.proofs.Common.{◌≡◌, [], false, codes, rules}
use Rattle.std.specs.Str.{bytes_eq}
use Rattle.std.proofs.lemmas.List.{nil_from_length}
use Rattle.ios_lex.proofs.FirstStops.{lacks_none}
use Rattle.ios_lex.proofs.WordForms.{words_differ}
use Rattle.ios_nat.specs.Parts.{SomeFromWord}
use Rattle.ios_nat.proofs.DynamicLines.{from_stop, lacks_from}
use Rattle.ios_nat.proofs.dynamics.next_from.Goals as goal

pub returns-in_default-clause-stop : goal.returns-in_default-clause-stop
returns-in_default-clause-stop c =
    let none : c.args.words.now ≡ [] = nil_from_length c.args.words.now c.in_default.ensures.cases in
    from_stop c.args.words.now c.stop_before.result c.stop_before.ensures.left c.stop_before.ensures.due (λ b. lacks_none (SomeFromWord b) c.args.words.now none)

pub returns-else-is-2-clause-stop : goal.returns-else-is-2-clause-stop
returns-else-is-2-clause-stop c =
    let pool : bytes_eq c.in-Some.first.now (codes "pool") ≡ false = search rules in
    let interface : bytes_eq c.in-Some.first.now (codes "interface") ≡ false = search rules in
    from_stop c.args.words.now c.stop_before-else-is-2.result c.stop_before-else-is-2.ensures.left c.stop_before-else-is-2.ensures.due
    (lacks_from c.args.words.now c.in-Some.rest.now c.in-Some.first.now c.in-Some.ensures.cases.0 (words_differ c.in-Some.first.now (codes "pool") pool) (words_differ c.in-Some.first.now (codes "interface") interface))
