use Rattle.std.proofs.Common.{◌≡◌, ◌++◌, codes, take}
use Rattle.std.specs.List.{flat_map}
use Rattle.certificates.specs.Text.{lit_text}
use Rattle.dimacs.specs.Text.{true_lits}
use Rattle.dimacs.proofs.answers.model_text.Given as goal

abbrev pub invariant-loop-var : goal.invariant-loop-var
invariant-loop-var l = l.text.items ≡ codes "s SATISFIABLE\nv " ++ flat_map (λ x. lit_text x ++ codes " ") (true_lits 0 (take l.var l.values))
