use Rattle.std.proofs.Common.{refl}
use Rattle.dimacs.proofs.Fronts.{front_zero}
use Rattle.dimacs.proofs.Refusals.{too_many_zero}
use Rattle.dimacs.proofs.clauses.Reading.end_clause.Goals as goal

pub returns-then-clauses-self-clause-refused : goal.returns-then-clauses-self-clause-refused
returns-then-clauses-self-clause-refused c words front =
    let full = rw c.clauses.ensures.clauses at c.if-clauses-self.true in
    rw c.at.ensures (refl, too_many_zero words _ _ _ _ front.begins full)

pub returns-clause-taken : goal.returns-clause-taken
returns-clause-taken c words front =
    let room = rw c.clauses.ensures.clauses at c.if-clauses-self.false in
    rw (c.in_ok-push_in_range.ensures.added, c.in_ok-clause.ensures, c.as_slice.ensures.value, c.clear.ensures.items) (front_zero words _ _ _ _ front room)

pub push_in_range-requires : goal.push_in_range-requires
push_in_range-requires c = rw (c.in_ok-clause.ensures, c.as_slice.ensures.value) c.requires
