use Rattle.std.proofs.Common.{◌≡◌, take}
use Rattle.std.specs.List.{filter}
use Rattle.proof_check.specs.Inside.Trim.{is_taken}
use Rattle.proof_check.proofs.trimming.last_named.Given as goal

abbrev pub invariant-loop-hint : goal.invariant-loop-hint
invariant-loop-hint l = l.numbers.items ≡ filter (is_taken l.given l.named l.place) (take l.hint-index l.hints)
