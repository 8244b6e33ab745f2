use Rattle.std.proofs.Common.{rules}
use Rattle.ios_lex.specs.NextWords.{NoName}
use Rattle.ios_lex.specs.Stops.{IsStop}
use Rattle.ios_nat.specs.declared.kind.Kind.TheVariants as kinds
use Rattle.ios_nat.specs.Grammar.{Line}
use Rattle.ios_nat.proofs.PoolLines.{stop_behind_first_address, stop_behind_last_address, stop_behind_name, stop_in_first_address, stop_in_last, stop_in_name}
use Rattle.ios_lex.proofs.LineParts.{then_read}
use Rattle.ios_nat.proofs.pool_lines.pool.Goals as goal

pub returns-in_err-name-clause-stop : goal.returns-in_err-name-clause-stop
returns-in_err-name-clause-stop c =
    let stop : IsStop NoName (Line kinds.Pool) c.args.words.now c.in_err-name.field-0.0 =
    stop_in_name c.args.words.now c.in_err-name.field-0.0 c.in_err-name.ensures.part (rw c.unmodelled.ensures at c.in_err-name.ensures.stop) in
    search rules

pub returns-in_err-first-clause-stop : goal.returns-in_err-first-clause-stop
returns-in_err-first-clause-stop c =
    let name = rw c.unmodelled.ensures at c.in_ok-name.ensures.read in
    let stop : IsStop NoName (Line kinds.Pool) c.args.words.now c.in_err-first.field-0.0 =
    stop_behind_name c.in_ok-name.name.now c.args.words.now c.in_ok-name.rest.now c.in_err-first.field-0.0 name
    (stop_in_first_address c.in_ok-name.rest.now c.in_err-first.field-0.0 c.in_err-first.ensures.part c.in_err-first.ensures.stop) in
    search rules

pub returns-in_err-last-clause-stop : goal.returns-in_err-last-clause-stop
returns-in_err-last-clause-stop c =
    let name = rw c.unmodelled.ensures at c.in_ok-name.ensures.read in
    let stop : IsStop NoName (Line kinds.Pool) c.args.words.now c.in_err-last.field-0.0 =
    stop_behind_name c.in_ok-name.name.now c.args.words.now c.in_ok-name.rest.now c.in_err-last.field-0.0 name
    (stop_behind_first_address c.in_ok-first.first c.in_ok-name.rest.now c.in_ok-first.rest.now c.in_err-last.field-0.0 c.in_ok-first.ensures.read
    (stop_in_last c.in_ok-first.first c.in_ok-first.rest.now c.in_err-last.field-0.0 c.in_err-last.ensures.part c.in_err-last.ensures.stop)) in
    search rules

pub returns-in_err-size_end-clause-stop : goal.returns-in_err-size_end-clause-stop
returns-in_err-size_end-clause-stop c =
    let name = rw c.unmodelled.ensures at c.in_ok-name.ensures.read in
    let stop : IsStop NoName (Line kinds.Pool) c.args.words.now c.in_err-size_end.field-0.0 =
    stop_behind_name c.in_ok-name.name.now c.args.words.now c.in_ok-name.rest.now c.in_err-size_end.field-0.0 name
    (stop_behind_first_address c.in_ok-first.first c.in_ok-name.rest.now c.in_ok-first.rest.now c.in_err-size_end.field-0.0 c.in_ok-first.ensures.read
    (stop_behind_last_address c.in_ok-first.first c.in_ok-last.last c.in_ok-first.rest.now c.in_ok-last.rest.now c.in_err-size_end.field-0.0 c.in_ok-last.ensures.read c.in_err-size_end.ensures.stop)) in
    search rules

pub returns-clause-read : goal.returns-clause-read
returns-clause-read c =
    let name = rw c.unmodelled.ensures at c.in_ok-name.ensures.read in
    then_read c.args.words.now c.in_ok-name.rest.now name
    (then_read c.in_ok-name.rest.now c.in_ok-first.rest.now c.in_ok-first.ensures.read
    (then_read c.in_ok-first.rest.now c.in_ok-last.rest.now c.in_ok-last.ensures.read c.in_ok-size_end.ensures.read))
