use Rattle.std.proofs.Common.{rules}
use Rattle.std.specs.HashMap.{get}
use Rattle.decision_diagram.specs.Table.{Table, Extends}
use Rattle.decision_diagram.specs.Inside.Choice.{same_parts}
use Rattle.decision_diagram.proofs.Choosing.{choice_of_halves, remembered_more, remembered_stay}
use Rattle.decision_diagram.proofs.Extending.{extends_twice}
use Rattle.decision_diagram.proofs.diagrams.Diagrams.+choose.Goals as goal

pub returns-clause-choice : goal.returns-clause-choice
returns-clause-choice t c =
    choice_of_halves c.args.self.now c.choose.new.self c.choose-2.new.self c.branch-self.new.self c.first_bit-bit.result
    c.args.condition c.args.yes c.args.other
    c.ends_at-condition_low.result.0 c.ends_at-condition_low.result.1 c.ends_at-yes_low.result.0 c.ends_at-yes_low.result.1
    c.ends_at-other_low.result.0 c.ends_at-other_low.result.1 c.in_ok-low.low c.in_ok-high.high c.in_ok-whole.whole
    c.first_bit-bit.ensures c.ends_at-condition_low.ensures c.ends_at-yes_low.ensures c.ends_at-other_low.ensures
    c.choose.ensures.older c.choose-2.ensures.older c.in_ok-low.ensures.choice c.in_ok-high.ensures.choice
    c.in_ok-whole.ensures.value c.in_ok-whole.ensures.from

pub returns-clause-memo : goal.returns-clause-memo
returns-clause-memo t c =
    let t0 : Table = c.args.self.now in
    let t2 : Table = c.choose-2.new.self in
    let t3 : Table = c.branch-self.new.self in
    let grown : Extends t0 t3 = extends_twice t0 t2 t3 (extends_twice t0 c.choose.new.self t2 c.choose.ensures.older c.choose-2.ensures.older) c.branch-self.ensures.older in
    remembered_more t0 t3 (get same_parts c.choose-2.new.memo.known) (get same_parts c.add.new.self.known)
    (record { condition = c.args.condition; yes = c.args.yes; other = c.args.other }) c.in_ok-whole.whole
    (remembered_stay t2 t3 (get same_parts c.choose-2.new.memo.known) c.branch-self.ensures.older c.in_ok-high.ensures.memo)
    grown c.requires.condition c.requires.yes c.requires.other (returns-clause-choice t c) (search rules)
