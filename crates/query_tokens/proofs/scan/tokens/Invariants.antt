use Rattle.std.proofs.Common.{◌+◌, ◌≤◌, length}
use Rattle.query_tokens.proofs.Scanned.{SoFar}
use Rattle.query_tokens.proofs.scan.tokens.Given as goal

abbrev pub invariant-loop-rest : goal.invariant-loop-rest
invariant-loop-rest l = record {
  so_far : SoFar l.bytes l.tokens.items l.line l.rest;
  fits : l.line + length l.rest ≤ length l.bytes + 1;
}

abbrev pub decreases-loop-rest : goal.decreases-loop-rest
decreases-loop-rest l = length l.rest
