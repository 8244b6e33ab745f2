use Rattle.std.proofs.Common.{codes}
use Rattle.std.proofs.lemmas.Bool.Decides.{Decides-eqb}
use Rattle.std.proofs.lemmas.Slice.Eq.{slice_eq-Decides}
use Rattle.certificates.specs.Text.{qed_text}
use Rattle.certificates.proofs.items.is_qed.Goals as goal

pub returns : goal.returns
unfolding qed_text
returns c = slice_eq-Decides Decides-eqb c.args.line.now (codes "qed") c.eq.result (rw c.as_slice.ensures at c.eq.ensures)
