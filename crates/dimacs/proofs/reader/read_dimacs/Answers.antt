use Rattle.std.proofs.lemmas.Result.{IfErr-weaker, IfOk-weaker, err_from_is_err_and}
use Rattle.dimacs.proofs.Ends.{fault_behind_head, whole_fault, whole_text}
use Rattle.dimacs.proofs.reader.read_dimacs.Goals as goal

pub returns-in_err-head-clause-refused : goal.returns-in_err-head-clause-refused
returns-in_err-head-clause-refused c =
    let p = err_from_is_err_and c.from_residual.result c.from_residual.ensures.1 in
    rw (p.1, p.2) (whole_fault c.args.bytes.now c.of-words.result c.in_err-head.field-0.0 c.of-words.ensures.words c.of-words.ensures.end c.in_err-head.ensures.refused)

pub returns-clause-read : goal.returns-clause-read
returns-clause-read c =
    IfOk-weaker c.take_clauses.result _ _ (λ cnf text. whole_text c.args.bytes.now _ _ c.of-words.result c.take_head.new.words cnf c.of-words.ensures.words c.in_ok-head.ensures.taken text) c.take_clauses.ensures.read

pub returns-clause-refused : goal.returns-clause-refused
returns-clause-refused c =
    IfErr-weaker c.take_clauses.result _ _ (λ why refused. whole_fault c.args.bytes.now c.of-words.result why c.of-words.ensures.words c.of-words.ensures.end
    (fault_behind_head _ _ c.of-words.result c.take_head.new.words c.in_ok-head.ensures.taken why refused)) c.take_clauses.ensures.refused
