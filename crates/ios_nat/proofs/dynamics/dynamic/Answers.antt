use Rattle.std.proofs.Common.{rules}
use Rattle.ios_lex.specs.NextWords.{NoName}
use Rattle.ios_lex.specs.Stops.{IsStop}
use Rattle.ios_nat.specs.declared.kind.Kind.TheVariants as kinds
use Rattle.ios_nat.specs.Grammar.{Line}
use Rattle.ios_nat.proofs.DynamicLines.{dynamic_read, stop_behind_from, stop_behind_from_name, stop_behind_list, stop_in_from, stop_in_from_name, stop_in_list}
use Rattle.ios_nat.proofs.dynamics.dynamic.Goals as goal

pub returns-in_err-list-clause-stop : goal.returns-in_err-list-clause-stop
returns-in_err-list-clause-stop c =
    let stop : IsStop NoName (Line kinds.Dynamic) c.args.words.now c.in_err-list.field-0.0 =
    stop_in_list c.args.words.now c.in_err-list.field-0.0 c.in_err-list.ensures.part (rw c.unmodelled.ensures at c.in_err-list.ensures.stop) in
    search rules

pub returns-in_err-pool-clause-stop : goal.returns-in_err-pool-clause-stop
returns-in_err-pool-clause-stop c =
    let list = rw c.unmodelled.ensures at c.in_ok-list.ensures.read in
    let stop : IsStop NoName (Line kinds.Dynamic) c.args.words.now c.in_err-pool.field-0.0 =
    stop_behind_list c.in_ok-list.list.now c.args.words.now c.in_ok-list.rest.now c.in_err-pool.field-0.0 list
    (stop_in_from c.in_ok-list.rest.now c.in_err-pool.field-0.0 c.in_err-pool.ensures.part c.in_err-pool.ensures.stop) in
    search rules

pub returns-in_err-name-clause-stop : goal.returns-in_err-name-clause-stop
returns-in_err-name-clause-stop c =
    let list = rw c.unmodelled.ensures at c.in_ok-list.ensures.read in
    let stop : IsStop NoName (Line kinds.Dynamic) c.args.words.now c.in_err-name.field-0.0 =
    stop_behind_list c.in_ok-list.list.now c.args.words.now c.in_ok-list.rest.now c.in_err-name.field-0.0 list
    (stop_behind_from c.in_ok-pool.pool c.in_ok-list.rest.now c.in_ok-pool.rest.now c.in_err-name.field-0.0 c.in_ok-pool.ensures.read
    (stop_in_from_name c.in_ok-pool.rest.now c.in_err-name.field-0.0 c.in_err-name.ensures.part (rw c.unmodelled-2.ensures at c.in_err-name.ensures.stop))) in
    search rules

pub returns-in_err-overload-clause-stop : goal.returns-in_err-overload-clause-stop
returns-in_err-overload-clause-stop c =
    let list = rw c.unmodelled.ensures at c.in_ok-list.ensures.read in
    let name = rw c.unmodelled-2.ensures at c.in_ok-name.ensures.read in
    let stop : IsStop NoName (Line kinds.Dynamic) c.args.words.now c.in_err-overload.field-0.0 =
    stop_behind_list c.in_ok-list.list.now c.args.words.now c.in_ok-list.rest.now c.in_err-overload.field-0.0 list
    (stop_behind_from c.in_ok-pool.pool c.in_ok-list.rest.now c.in_ok-pool.rest.now c.in_err-overload.field-0.0 c.in_ok-pool.ensures.read
    (stop_behind_from_name c.in_ok-name.name.now c.in_ok-pool.rest.now c.in_ok-name.rest.now c.in_err-overload.field-0.0 name c.in_err-overload.ensures.stop)) in
    search rules

pub returns-clause-read : goal.returns-clause-read
returns-clause-read c line =
    let list = rw c.unmodelled.ensures at c.in_ok-list.ensures.read in
    let name = rw c.unmodelled-2.ensures at c.in_ok-name.ensures.read in
    dynamic_read line c.in_ok-list.list.now c.in_ok-name.name.now c.in_ok-pool.pool c.in_ok-overload.overload c.args.words.now c.in_ok-list.rest.now c.in_ok-pool.rest.now c.in_ok-name.rest.now
    list c.in_ok-pool.ensures.read name c.in_ok-overload.ensures.read
