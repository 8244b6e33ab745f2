use Rattle.std.proofs.Common.{◌≡◌, ◌++◌, codes, take}
use Rattle.std.specs.List.{flat_map}
use Rattle.certificates.specs.Text.{head_text, item_text}
use Rattle.certificates.proofs.writer.write_certificate.Given as goal

abbrev pub invariant-loop-item : goal.invariant-loop-item
invariant-loop-item l = l.text.items ≡ (head_text 2 l.c.line ++ codes "\n") ++ flat_map (λ i. item_text i ++ codes "\n") (take l.item-index l.item-items)
