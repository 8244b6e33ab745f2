use Rattle.std.proofs.Common.{[], false, true, rules}
use Rattle.ios_lex.specs.NextWords.{NoName, SomeAddress}
use Rattle.ios_lex.specs.Stops.{BeginsWith, IsStop}
use Rattle.ios_nat.specs.Parts.{Options, SomeGlobalEnd}
use Rattle.ios_lex.proofs.LineParts.{address_part, some_address, stop_behind_first, stop_in_first}
use Rattle.ios_nat.proofs.StaticLines.{some_options}
use Rattle.ios_nat.proofs.statics.global_end.Goals as goal

pub returns-in_err-global-clause-stop : goal.returns-in_err-global-clause-stop
returns-in_err-global-clause-stop c =
    let stop : IsStop NoName SomeGlobalEnd c.args.words.now c.in_err-global.field-0.0 =
    stop_in_first SomeAddress (Options true true) c.args.words.now [] c.in_err-global.field-0.0 address_part some_options c.in_err-global.ensures.part c.in_err-global.ensures.stop in
    search rules

pub returns-in_err-options-clause-stop : goal.returns-in_err-options-clause-stop
returns-in_err-options-clause-stop c =
    let global : BeginsWith (SomeAddress false) c.args.words.now c.in_ok-global.rest.now = some_address c.in_ok-global.global c.args.words.now c.in_ok-global.rest.now c.in_ok-global.ensures.read in
    let stop : IsStop NoName SomeGlobalEnd c.args.words.now c.in_err-options.field-0.0 =
    stop_behind_first SomeAddress (Options true true) c.args.words.now c.in_ok-global.rest.now c.in_err-options.field-0.0 address_part global c.in_err-options.ensures.stop in
    search rules
