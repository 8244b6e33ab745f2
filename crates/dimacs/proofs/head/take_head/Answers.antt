use Rattle.std.proofs.lemmas.Result.{err_from_is_err_and}
use Rattle.dimacs.proofs.Heads.{no_p, no_cnf, no_vars, no_count, taken_p, taken_cnf, taken_vars, taken_head}
use Rattle.dimacs.proofs.head.take_head.Goals as goal

pub returns-in_err-take_word-clause-refused : goal.returns-in_err-take_word-clause-refused
returns-in_err-take_word-clause-refused c =
    let p = err_from_is_err_and c.from_residual.result c.from_residual.ensures.1 in
    rw (p.1, p.2) (no_p c.args.words.now c.in_err-take_word.field-0.0 c.in_err-take_word.ensures.missed)

pub returns-in_err-take_word-2-clause-refused : goal.returns-in_err-take_word-2-clause-refused
returns-in_err-take_word-2-clause-refused c =
    let p = err_from_is_err_and c.from_residual-in_err-take_word-2.result c.from_residual-in_err-take_word-2.ensures.1 in
    rw (p.1, p.2) (no_cnf c.args.words.now c.take_word.new.words c.in_err-take_word-2.field-0.0
    (taken_p _ c.take_word.new.words c.take_word.new.words c.in_ok-take_word.ensures.taken) c.in_err-take_word-2.ensures.missed)

pub returns-in_err-vars-clause-refused : goal.returns-in_err-vars-clause-refused
returns-in_err-vars-clause-refused c =
    let p = err_from_is_err_and c.from_residual-in_err-vars.result c.from_residual-in_err-vars.ensures.1 in
    rw (p.1, p.2) (no_vars c.args.words.now c.take_word-2.new.words c.in_err-vars.field-0.0
    (taken_cnf _ c.take_word.new.words c.take_word-2.new.words c.in_ok-take_word.ensures.taken c.in_ok-take_word-2.ensures.taken) c.in_err-vars.ensures.missed)

pub returns-in_err-count-clause-refused : goal.returns-in_err-count-clause-refused
returns-in_err-count-clause-refused c =
    let p = err_from_is_err_and c.from_residual-in_err-count.result c.from_residual-in_err-count.ensures.1 in
    rw (p.1, p.2) (no_count c.in_ok-vars.vars c.args.words.now c.take_number.new.words c.in_err-count.field-0.0 c.in_ok-vars.ensures.taken.is.small
    (taken_vars _ c.take_word.new.words c.take_word-2.new.words c.in_ok-take_word.ensures.taken c.take_number.new.words c.in_ok-vars.vars c.in_ok-take_word-2.ensures.taken c.in_ok-vars.ensures.taken) c.in_err-count.ensures.missed)

pub returns-clause-taken : goal.returns-clause-taken
returns-clause-taken c =
    taken_head _ c.take_word.new.words c.take_word-2.new.words c.in_ok-take_word.ensures.taken c.take_number.new.words c.take_number-2.new.words c.in_ok-vars.vars c.in_ok-count.count c.in_ok-take_word-2.ensures.taken c.in_ok-vars.ensures.taken c.in_ok-count.ensures.taken
