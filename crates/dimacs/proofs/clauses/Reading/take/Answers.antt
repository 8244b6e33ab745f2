use Rattle.std.proofs.Common.{refl, codes}
use Rattle.std.proofs.lemmas.Bool.{false≢true}
use Rattle.std.proofs.lemmas.Bool.Decides.{Decides-eqb}
use Rattle.std.proofs.lemmas.Slice.Eq.{slice_eq-Decides}
use Rattle.dimacs.proofs.Refusals.{no_word}
use Rattle.dimacs.proofs.clauses.Reading.take.Goals as goal

pub returns-in-None-clause-refused : goal.returns-in-None-clause-refused
returns-in-None-clause-refused c words front =
    let none = rw c.in-None.is at c.lit.ensures.none in
    let decides = slice_eq-Decides Decides-eqb c.args.word.now (codes "0") c.eq.result (rw c.as_slice.ensures at c.eq.ensures) in
    rw c.at.ensures (refl, no_word words _ _ _ _ front.begins c.args.word.now (λ same. false≢true (rw c.if-eq.false at (decides.1 same))) none)
