use Rattle.std.proofs.Common.{◌≡◌, ◌++◌, codes, take}
use Rattle.std.specs.List.{flat_map}
use Rattle.certificates.specs.Text.{lit_text}
use Rattle.certificates.proofs.writer.push_lits.Given as goal

abbrev pub invariant-loop-lit : goal.invariant-loop-lit
invariant-loop-lit l = l.text.items ≡ l.fn.text.items ++ flat_map (λ x. lit_text x ++ codes " ") (take l.lit-index l.lits)
