use Rattle.std.proofs.Common.{arith, refl}
use Rattle.decision_diagram.specs.Table.{diagram}
use Rattle.decision_diagram.proofs.Extending.{stays_within}
use Rattle.frame.proofs.SmallEnds.{diagram_of, means_permits, one_more, small_as, small_by}
use Rattle.frame.proofs.list_diagram.extend.Goals as goal

pub returns-then-node_count-most-clause-more : goal.returns-then-node_count-most-clause-more
returns-then-node_count-most-clause-more c = λ more.
    let before = means_permits c.args.most c.args.end.now.table _ c.args.end.now.root c.requires.diagram in
    let means = one_more c.decided_by.new.table c.args.entries.now c.args.end.now.from _ c.in_ok-whole.whole c.requires.some c.requires.within (c.in_ok-whole.ensures.means _ before) in
    (omega arith, small_by c.args.most c.decided_by.new.table _ c.in_ok-whole.whole c.node_count.result c.node_count.ensures.table c.node_count.ensures.bits means (c.node_count.ensures.sizes c.in_ok-whole.whole means.within) (omega arith))

pub alone-requires : goal.alone-requires
alone-requires c =
    let before = means_permits c.args.most c.args.end.now.table _ c.args.end.now.root c.requires.diagram in
    (one_more c.decided_by.new.table c.args.entries.now c.args.end.now.from _ c.in_ok-whole.whole c.requires.some c.requires.within (c.in_ok-whole.ensures.means _ before)).within

pub returns-then-node_count-most-2-clause-large : goal.returns-then-node_count-most-2-clause-large
returns-then-node_count-most-2-clause-large c = λ stops.
    let grown = c.decided_by.ensures.older in
    let kept = c.requires.diagram in
    let before = means_permits c.args.most c.args.end.now.table _ c.args.end.now.root kept in
    let means = one_more c.decided_by.new.table c.args.entries.now c.args.end.now.from _ c.in_ok-whole.whole c.requires.some c.requires.within (c.in_ok-whole.ensures.means _ before) in (
      refl,
      small_as c.args.most c.args.end.now.table c.decided_by.new.table _ c.args.end.now.root c.args.end.now.root (stays_within _ _ _ grown kept.within) (grown.older c.args.end.now.root kept.within) kept.is kept.small,
      (
        diagram c.decided_by.new.table c.in_ok-whole.whole,
        diagram_of c.decided_by.new.table _ c.in_ok-whole.whole c.node_count.ensures.table c.node_count.ensures.bits means,
        (let count = c.in_ok-table.ensures.count in omega (arith, count, c.node_count-2.ensures.count, c.if-node_count-most-2.true)),
      ),
    )

pub returns-clause-more : goal.returns-clause-more
returns-clause-more c = λ more.
    let before = means_permits c.args.most c.args.end.now.table _ c.args.end.now.root c.requires.diagram in
    let means = one_more c.decided_by.new.table c.args.entries.now c.args.end.now.from _ c.in_ok-whole.whole c.requires.some c.requires.within (c.in_ok-whole.ensures.means _ before) in
    let is = diagram_of c.decided_by.new.table _ c.in_ok-whole.whole c.node_count.ensures.table c.node_count.ensures.bits means in (
      omega arith,
      small_as c.args.most c.decided_by.new.table c.in_ok-table.table _ c.in_ok-whole.whole c.in_ok-table.root c.in_ok-table.ensures.within c.in_ok-table.ensures.same is
          (let count = c.in_ok-table.ensures.count in omega (arith, count, c.node_count-2.ensures.count, c.if-node_count-most-2.false)),
    )
