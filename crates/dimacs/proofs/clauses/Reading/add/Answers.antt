use Rattle.std.proofs.Common.{refl}
use Rattle.dimacs.proofs.Refusals.{too_many_lit, above}
use Rattle.dimacs.proofs.clauses.Reading.add.Goals as goal

pub returns-then-clauses-self-clause-refused : goal.returns-then-clauses-self-clause-refused
returns-then-clauses-self-clause-refused c words front =
    let full = rw c.clauses.ensures.clauses at c.if-clauses-self.true in
    rw c.at.ensures (refl, too_many_lit words _ _ _ _ front.begins c.args.lit c.requires full)

pub returns-then-lit-vars-clause-refused : goal.returns-then-lit-vars-clause-refused
returns-then-lit-vars-clause-refused c words front =
    let room = rw c.clauses.ensures.clauses at c.if-clauses-self.false in
    let over = rw c.vars.ensures at c.if-lit-vars.true in
    rw c.at-then-lit-vars.ensures (refl, above words _ _ _ _ front.begins c.args.lit c.requires over room)
