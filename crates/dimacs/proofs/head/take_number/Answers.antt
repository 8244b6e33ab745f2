use Rattle.std.proofs.Common.{refl}
use Rattle.dimacs.specs.Inside.Cursors.{wrong}
use Rattle.dimacs.proofs.head.take_number.Goals as goal

pub returns-in-None-clause-missed : goal.returns-in-None-clause-missed
returns-in-None-clause-missed c =
    let none = rw c.in-None.is at c.number.ensures.none in
    wrong _ _ c.in-Ok.ensures.next (λ (n, is). none n is) refl refl
