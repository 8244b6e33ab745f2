use Rattle.std.proofs.Common.{◌≡◌, map, take}
use Rattle.proof_check.specs.Inside.Trim.{looked_up}
use Rattle.proof_check.proofs.trimming.all_new.Given as goal

abbrev pub invariant-loop-old : goal.invariant-loop-old
invariant-loop-old l = l.news.items ≡ map (looked_up l.given l.numbers) (take l.old-index l.olds)
