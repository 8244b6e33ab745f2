use Rattle.std.proofs.Common.{refl}
use Rattle.std.proofs.lemmas.Bool.{false≢true}
use Rattle.std.proofs.lemmas.Bool.Decides.{Decides-eqb}
use Rattle.std.proofs.lemmas.Slice.Eq.{slice_eq-Decides}
use Rattle.dimacs.specs.Inside.Cursors.{wrong}
use Rattle.dimacs.proofs.head.take_word.Goals as goal

pub returns-in-Ok-2-clause-missed : goal.returns-in-Ok-2-clause-missed
returns-in-Ok-2-clause-missed c =
    let decides = slice_eq-Decides Decides-eqb c.in-Ok.word.text.now c.args.expected.now c.eq.result c.eq.ensures in
    wrong _ _ c.in-Ok.ensures.next (λ same. false≢true (rw c.if-eq.false at (decides.1 same))) refl refl
