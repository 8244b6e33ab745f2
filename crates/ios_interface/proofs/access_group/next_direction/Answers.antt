use Rattle.std.proofs.Common.{◌≡◌, [], false, codes, rules}
use Rattle.std.specs.Str.{bytes_eq}
use Rattle.std.proofs.lemmas.List.{nil_from_length}
use Rattle.ios_lex.proofs.FirstStops.{lacks_none}
use Rattle.ios_lex.proofs.WordForms.{words_differ}
use Rattle.ios_interface.specs.Parts.{SomeDirection}
use Rattle.ios_interface.proofs.GroupLines.{direction_stop, lacks_direction}
use Rattle.ios_interface.proofs.access_group.next_direction.Goals as goal

pub returns-in_default-clause-stop : goal.returns-in_default-clause-stop
returns-in_default-clause-stop c =
    let none : c.args.words.now ≡ [] = nil_from_length c.args.words.now c.in_default.ensures.cases in
    direction_stop c.args.words.now c.stop_before.result c.stop_before.ensures.left c.stop_before.ensures.due (λ b. lacks_none (SomeDirection b) c.args.words.now none)

pub returns-else-is-2-clause-stop : goal.returns-else-is-2-clause-stop
returns-else-is-2-clause-stop c =
    let inward : bytes_eq c.in-Some.first.now (codes "in") ≡ false = search rules in
    let outward : bytes_eq c.in-Some.first.now (codes "out") ≡ false = search rules in
    direction_stop c.args.words.now c.stop_before-else-is-2.result c.stop_before-else-is-2.ensures.left c.stop_before-else-is-2.ensures.due
    (lacks_direction c.args.words.now c.in-Some.rest.now c.in-Some.first.now c.in-Some.ensures.cases.0 (words_differ c.in-Some.first.now (codes "in") inward) (words_differ c.in-Some.first.now (codes "out") outward))
