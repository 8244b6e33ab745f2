use Rattle.std.proofs.Common.{drop, arith}
use Rattle.frame.specs.Meaning.{permits}
use Rattle.frame.proofs.Nodes.{Adds-after, Adds-as}
use Rattle.frame.proofs.PermittedPackets.{permits_from}
use Rattle.frame.proofs.decision.permitted.Goals as goal

pub loop-left-preserved : goal.loop-left-preserved
loop-left-preserved c =
    let kept = c.loop-left.invariant in
    let entries = c.args.entries.now in
    let added = c.in_ok-node-2.ensures (permits (drop c.loop-left.left entries)) kept.adds.means in
    record {
      left = omega arith;
      adds =
          Adds-as _ _ _ _ _ (λ packet. permits_from entries c.loop-left.left _ packet (omega arith) kept.left)
          (Adds-after _ c.loop-left.circuit _ _ _ kept.adds.older added);
    }
