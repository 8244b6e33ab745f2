use Rattle.std.proofs.Common.{◌≡◌, [], true, false, codes, rules}
use Rattle.std.specs.Str.{bytes_eq}
use Rattle.std.proofs.lemmas.List.{nil_from_length}
use Rattle.std.proofs.lemmas.Result.{IfErr-weaker, IfOk-weaker}
use Rattle.ios_lex.specs.NextWords.{NoMore, NoName, SomeMask, SomeNumber}
use Rattle.ios_lex.specs.Stops.{IsStop}
use Rattle.ios_lex.proofs.FirstStops.{begins_with_text, lacks_none}
use Rattle.ios_lex.proofs.WordForms.{words_differ}
use Rattle.ios_lex.proofs.LineParts.{number_part, some_number, stop_behind_last, whole_part}
use Rattle.ios_lex.proofs.MaskForms.{mask_part, some_mask}
use Rattle.ios_nat.specs.Grammar.{IsSize}
use Rattle.ios_nat.proofs.PoolWords.{lacks_size, length_stop, netmask_stop, size_stop}
use Rattle.ios_nat.proofs.pool_lines.size_end.Goals as goal

pub returns-in_default-clause-stop : goal.returns-in_default-clause-stop
returns-in_default-clause-stop c =
    let none : c.args.words.now ≡ [] = nil_from_length c.args.words.now c.in_default.ensures.cases in
    size_stop c.args.words.now c.stop_before.result c.stop_before.ensures.left c.stop_before.ensures.due (λ b. lacks_none (IsSize b) c.args.words.now none)

pub returns-in_err-rest-clause-stop : goal.returns-in_err-rest-clause-stop
returns-in_err-rest-clause-stop c =
    let test : bytes_eq c.in-Some.first.now (codes "netmask") ≡ true = search rules in
    let whole = begins_with_text c.args.words.now c.in-Some.rest.now c.in-Some.first.now (codes "netmask") c.in-Some.ensures.cases.0 test in
    let stop : IsStop NoName IsSize c.args.words.now c.in_err-rest.field-0.0 = netmask_stop c.args.words.now c.in-Some.rest.now c.in_err-rest.field-0.0 whole c.in_err-rest.ensures.stop in
    search rules

pub returns-then-is-clause-read : goal.returns-then-is-clause-read
returns-then-is-clause-read c =
    let test : bytes_eq c.in-Some.first.now (codes "netmask") ≡ true = search rules in
    let whole = begins_with_text c.args.words.now c.in-Some.rest.now c.in-Some.first.now (codes "netmask") c.in-Some.ensures.cases.0 test in
    let mask = some_mask c.in_ok-rest.field-0-0 c.in-Some.rest.now c.in_ok-rest.rest.now c.in_ok-rest.ensures.read in
    IfOk-weaker c.next_end.result (λ _. c.in_ok-rest.rest.now ≡ []) (λ _. IsSize false c.args.words.now)
    (λ _ none. IsSize.mask c.in-Some.rest.now whole (whole_part (SomeMask false) c.in-Some.rest.now c.in_ok-rest.rest.now mask none)) c.next_end.ensures.read

pub returns-then-is-clause-stop : goal.returns-then-is-clause-stop
returns-then-is-clause-stop c =
    let test : bytes_eq c.in-Some.first.now (codes "netmask") ≡ true = search rules in
    let whole = begins_with_text c.args.words.now c.in-Some.rest.now c.in-Some.first.now (codes "netmask") c.in-Some.ensures.cases.0 test in
    let mask = some_mask c.in_ok-rest.field-0-0 c.in-Some.rest.now c.in_ok-rest.rest.now c.in_ok-rest.ensures.read in
    IfErr-weaker c.next_end.result (IsStop NoName NoMore c.in_ok-rest.rest.now) (IsStop NoName IsSize c.args.words.now)
    (λ stop stops. netmask_stop c.args.words.now c.in-Some.rest.now stop whole (stop_behind_last SomeMask c.in-Some.rest.now c.in_ok-rest.rest.now stop mask_part mask stops)) c.next_end.ensures.stop

pub returns-then-not-is-clause-stop : goal.returns-then-not-is-clause-stop
returns-then-not-is-clause-stop c =
    let netmask : bytes_eq c.in-Some.first.now (codes "netmask") ≡ false = search rules in
    let prefix : bytes_eq c.in-Some.first.now (codes "prefix-length") ≡ false = search rules in
    size_stop c.args.words.now c.stop_before-then-not-is.result c.stop_before-then-not-is.ensures.left c.stop_before-then-not-is.ensures.due
    (lacks_size c.args.words.now c.in-Some.rest.now c.in-Some.first.now c.in-Some.ensures.cases.0 (words_differ c.in-Some.first.now (codes "netmask") netmask) (words_differ c.in-Some.first.now (codes "prefix-length") prefix))

pub returns-in_err-rest-2-clause-stop : goal.returns-in_err-rest-2-clause-stop
returns-in_err-rest-2-clause-stop c =
    let test : bytes_eq c.in-Some.first.now (codes "prefix-length") ≡ true = search rules in
    let whole = begins_with_text c.args.words.now c.in-Some.rest.now c.in-Some.first.now (codes "prefix-length") c.in-Some.ensures.cases.0 test in
    let stop : IsStop NoName IsSize c.args.words.now c.in_err-rest-2.field-0.0 = length_stop c.args.words.now c.in-Some.rest.now c.in_err-rest-2.field-0.0 whole c.in_err-rest-2.ensures.stop in
    search rules

pub returns-clause-read : goal.returns-clause-read
returns-clause-read c =
    let test : bytes_eq c.in-Some.first.now (codes "prefix-length") ≡ true = search rules in
    let whole = begins_with_text c.args.words.now c.in-Some.rest.now c.in-Some.first.now (codes "prefix-length") c.in-Some.ensures.cases.0 test in
    let number = some_number 1 32 c.in_ok-rest-2.field-0-0 c.in-Some.rest.now c.in_ok-rest-2.rest.now c.in_ok-rest-2.ensures.read in
    IfOk-weaker c.next_end-2.result (λ _. c.in_ok-rest-2.rest.now ≡ []) (λ _. IsSize false c.args.words.now)
    (λ _ none. IsSize.prefix c.in-Some.rest.now whole (whole_part (SomeNumber 1 32 false) c.in-Some.rest.now c.in_ok-rest-2.rest.now number none)) c.next_end-2.ensures.read

pub returns-clause-stop : goal.returns-clause-stop
returns-clause-stop c =
    let test : bytes_eq c.in-Some.first.now (codes "prefix-length") ≡ true = search rules in
    let whole = begins_with_text c.args.words.now c.in-Some.rest.now c.in-Some.first.now (codes "prefix-length") c.in-Some.ensures.cases.0 test in
    let number = some_number 1 32 c.in_ok-rest-2.field-0-0 c.in-Some.rest.now c.in_ok-rest-2.rest.now c.in_ok-rest-2.ensures.read in
    IfErr-weaker c.next_end-2.result (IsStop NoName NoMore c.in_ok-rest-2.rest.now) (IsStop NoName IsSize c.args.words.now)
    (λ stop stops. length_stop c.args.words.now c.in-Some.rest.now stop whole (stop_behind_last (SomeNumber 1 32) c.in-Some.rest.now c.in_ok-rest-2.rest.now stop (number_part 1 32) number stops)) c.next_end-2.ensures.stop
