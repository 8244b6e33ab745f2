use Rattle.std.proofs.Common.{rules}
use Rattle.ios_lex.specs.NextWords.{NoName}
use Rattle.ios_lex.specs.Stops.{IsStop}
use Rattle.ios_interface.specs.declared.kind.Kind.TheVariants as kinds
use Rattle.ios_interface.specs.Grammar.{Line}
use Rattle.ios_interface.proofs.GroupLines.{stop_behind_direction, stop_behind_list, stop_in_list}
use Rattle.ios_interface.proofs.access_group.access_group.Goals as goal

pub returns-in_err-name-clause-stop : goal.returns-in_err-name-clause-stop
returns-in_err-name-clause-stop c =
    let stop : IsStop NoName (Line kinds.AccessGroup) c.args.words.now c.in_err-name.field-0.0 =
    stop_in_list c.args.words.now c.in_err-name.field-0.0 c.in_err-name.ensures.part c.in_err-name.ensures.stop in
    search rules

pub returns-in_err-direction-clause-stop : goal.returns-in_err-direction-clause-stop
returns-in_err-direction-clause-stop c =
    let stop : IsStop NoName (Line kinds.AccessGroup) c.args.words.now c.in_err-direction.field-0.0 =
    stop_behind_list c.in_ok-name.name.now c.args.words.now c.in_ok-name.rest.now c.in_err-direction.field-0.0 c.in_ok-name.ensures.read
    c.in_err-direction.ensures.stop in
    search rules

pub returns-in_err-next_end-clause-stop : goal.returns-in_err-next_end-clause-stop
returns-in_err-next_end-clause-stop c =
    let stop : IsStop NoName (Line kinds.AccessGroup) c.args.words.now c.in_err-next_end.field-0.0 =
    stop_behind_list c.in_ok-name.name.now c.args.words.now c.in_ok-name.rest.now c.in_err-next_end.field-0.0 c.in_ok-name.ensures.read
    (stop_behind_direction c.in_ok-direction.direction c.in_ok-name.rest.now c.in_ok-direction.rest.now c.in_err-next_end.field-0.0 c.in_ok-direction.ensures.read c.in_err-next_end.ensures.stop) in
    search rules
