use Rattle.std.proofs.Common.{◌≡◌, map, take}
use Rattle.proof_check.specs.Trimming as specs
use Rattle.proof_check.specs.Inside.Trim.{looked_up}
use Rattle.proof_check.proofs.trimming.all_renumbered.Given as goal

abbrev pub invariant-loop-item : goal.invariant-loop-item
invariant-loop-item l = l.news.items ≡ map (specs.renumbered (looked_up l.given l.numbers)) (take l.item-index l.items)
