use Rattle.std.proofs.Common.{arith}
use Rattle.frame.proofs.SmallEnds.{more_are_small}
use Rattle.frame.proofs.list_diagram.small_end.Goals as goal

pub loop-end-preserved : goal.loop-end-preserved
loop-end-preserved c =
    let before = c.loop-end.invariant in
    let more = c.in_ok-extend.ensures.more c.if-not-branch.false in
    record {
      within = omega (arith, before.within, more.0);
      diagram = more.1;
      all = more_are_small c.args.most c.extend.new.end.table c.args.entries.now c.extend.new.end.from c.loop-end.end.from c.extend.new.end.root more.0 before.all more.1;
    }
