use Rattle.std.proofs.Common.{◌≡◌, true, false, codes, rules}
use Rattle.std.specs.Str.{bytes_eq}
use Rattle.ios_lex.specs.NextWords.{NoName}
use Rattle.ios_lex.specs.Stops.{IsStop}
use Rattle.ios_lex.proofs.FirstStops.{begins_with_text}
use Rattle.ios_lex.proofs.WordForms.{words_differ}
use Rattle.ios_nat.specs.Parts.{SomeOverload}
use Rattle.ios_nat.proofs.DynamicLines.{no_overload_stop, overload_stop}
use Rattle.ios_nat.proofs.dynamics.overload_end.Goals as goal

pub returns-then-not-is-clause-stop : goal.returns-then-not-is-clause-stop
returns-then-not-is-clause-stop c =
    let test : bytes_eq c.in-Some.first.now (codes "overload") ≡ false = search rules in
    no_overload_stop c.args.words.now c.in-Some.rest.now c.in-Some.first.now c.stop_before.result c.in-Some.ensures.cases.0 c.stop_before.ensures.left c.stop_before.ensures.due (words_differ c.in-Some.first.now (codes "overload") test)

pub returns-in_err-next_end-clause-stop : goal.returns-in_err-next_end-clause-stop
returns-in_err-next_end-clause-stop c =
    let test : bytes_eq c.in-Some.first.now (codes "overload") ≡ true = search rules in
    let whole = begins_with_text c.args.words.now c.in-Some.rest.now c.in-Some.first.now (codes "overload") c.in-Some.ensures.cases.0 test in
    let stop : IsStop NoName SomeOverload c.args.words.now c.in_err-next_end.field-0.0 = overload_stop c.args.words.now c.in-Some.rest.now c.in_err-next_end.field-0.0 whole c.in_err-next_end.ensures.stop in
    search rules
