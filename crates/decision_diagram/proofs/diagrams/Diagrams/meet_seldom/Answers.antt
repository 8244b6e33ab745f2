use Rattle.std.proofs.Common.{◌≡◌, ◌<◌, ℕ, Some, get_or, length, sym, ap, subst, ◌∙◌, arith}
use Rattle.std.specs.List.{slice_get}
use Rattle.std.proofs.lemmas.Option.{slice_get-get_or}
use Rattle.decision_diagram.specs.Table.{IsOf}
use Rattle.decision_diagram.proofs.GoneDown.{none_gone_down, often, one_more_gone_down, seldom, taken}
use Rattle.decision_diagram.proofs.diagrams.Diagrams.meet_seldom.Goals as goal

pub loop-next-init : goal.loop-next-init
loop-next-init c = record {
  down = none_gone_down c.args.self.now c.args.a c.args.b c.new-pairs.result.keys c.insert.new.self.keys c.requires.a c.requires.b c.new-pairs.ensures.empty c.in_ok-insert.ensures.keys;
  few = omega arith;
}

pub returns-then-len-most-clause-often : goal.returns-then-len-most-clause-often
returns-then-len-most-clause-often c is =
    often c.args.self.now c.args.a c.args.b c.loop-next.next c.args.most c.loop-next.pairs.keys c.bits.ensures.table c.loop-next.invariant.down c.len.ensures.unique
    (omega (arith, c.if-len-most.true, c.len-in-loop-next.ensures.len))

pub meet_behind-requires-clause-a : goal.meet_behind-requires-clause-a
meet_behind-requires-clause-a c = (c.loop-next.invariant.down.met c.loop-next.next _ (taken c.loop-next.pairs.keys c.as_slice.result.now c.loop-next.next c.index-as_slice-next.result c.index-as_slice-next-in-loop-next.result c.as_slice.ensures.keys (omega (arith, c.loop-next-test.true, c.len.ensures.len)))).0

pub meet_behind-requires-clause-b : goal.meet_behind-requires-clause-b
meet_behind-requires-clause-b c = (c.loop-next.invariant.down.met c.loop-next.next _ (taken c.loop-next.pairs.keys c.as_slice.result.now c.loop-next.next c.index-as_slice-next.result c.index-as_slice-next-in-loop-next.result c.as_slice.ensures.keys (omega (arith, c.loop-next-test.true, c.len.ensures.len)))).1

pub loop-next-preserved : goal.loop-next-preserved
loop-next-preserved c = record {
  down = one_more_gone_down c.args.self.now c.args.a c.args.b
      (get_or c.as_slice.result.now c.loop-next.next c.index-as_slice-next.result).0 (get_or c.as_slice.result.now c.loop-next.next c.index-as_slice-next-in-loop-next.result).1
      c.loop-next.next c.loop-next.pairs.keys c.meet_behind.new.pairs.keys
      c.loop-next.invariant.down (taken c.loop-next.pairs.keys c.as_slice.result.now c.loop-next.next c.index-as_slice-next.result c.index-as_slice-next-in-loop-next.result c.as_slice.ensures.keys (omega (arith, c.loop-next-test.true, c.len.ensures.len)))
      c.in_ok-meet_behind.ensures.met c.in_ok-meet_behind.ensures.behind c.in_ok-meet_behind.ensures.older;
  few = omega (arith, c.loop-next-test.true, c.len.ensures.len, c.if-len-most.false, c.len-in-loop-next.ensures.len);
}

pub returns-clause-seldom : goal.returns-clause-seldom
returns-clause-seldom c is =
    seldom c.args.self.now c.args.a c.args.b c.loop-next.next c.args.most c.loop-next.pairs.keys c.loop-next.invariant.down (omega (arith, c.loop-next-test.false, c.len.ensures.len)) c.loop-next.invariant.few
