use Rattle.std.proofs.lemmas.Result.{IfErr-weaker, err_from_is_err_and}
use Rattle.dimacs.specs.Words.{placed}
use Rattle.dimacs.proofs.Ends.{fault_here, ended_here}
use Rattle.dimacs.proofs.Readings.{so_far_more}
use Rattle.dimacs.proofs.clauses.take_clauses.Goals as goal

pub loop-word-preserved : goal.loop-word-preserved
loop-word-preserved c =
    so_far_more _ _ _ _ _ _ _ _ c.loop-word.invariant (placed c.in-Ok.word.line c.in-Ok.word.text.now) c.next.new.self _ _ _ _ c.in-Ok.ensures.next c.next.ensures.end
    c.take.ensures.same.0 c.take.ensures.same.1 (c.in_ok-take-in-Ok.ensures.taken _ c.loop-word.invariant.front)

pub returns-in_err-take-in-Ok-clause-refused : goal.returns-in_err-take-in-Ok-clause-refused
returns-in_err-take-in-Ok-clause-refused c =
    let p = err_from_is_err_and c.from_residual.result c.from_residual.ensures.1 in
    rw (p.1, p.2) (fault_here _ _ _ _ _ _ _ _ c.loop-word.invariant (placed c.in-Ok.word.line c.in-Ok.word.text.now) c.next.new.self c.in-Ok.ensures.next c.in_err-take-in-Ok.field-0.0
    (c.in_err-take-in-Ok.ensures.refused _ c.loop-word.invariant.front))

pub returns-in-Err-clause-refused : goal.returns-in-Err-clause-refused
returns-in-Err-clause-refused c =
    let ended = c.in-Err.ensures.next in
    IfErr-weaker c.end.result _ _ (λ why is. ended_here _ _ _ _ _ _ _ _ c.loop-word.invariant c.in-Err.line why ended.0 ended.1 is) c.end.ensures.refused

pub take-requires : goal.take-requires
take-requires c = c.loop-word.invariant.front.part_in_range
