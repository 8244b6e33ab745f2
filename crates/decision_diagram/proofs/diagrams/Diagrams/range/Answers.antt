use Rattle.std.proofs.Common.{◌≡◌, ◌+◌, ◌-◌, ◌≤◌, ◌&&◌, add-one, arith}
use Rattle.bit_patterns.specs.Patterns.{within}
use Rattle.decision_diagram.specs.Table.{value_in}
use Rattle.decision_diagram.specs.Tests.{number_of}
use Rattle.decision_diagram.proofs.Agreeing.{never_met}
use Rattle.decision_diagram.proofs.Bounding.{all_bounded, bounded_more, none_reaches}
use Rattle.decision_diagram.proofs.Extending.{extends_twice, looks_earlier, looks_later, stays_within}
use Rattle.decision_diagram.proofs.diagrams.Diagrams.range.Goals as goal

pub returns-then-low-most-clause-value : goal.returns-then-low-most-clause-value
returns-then-low-most-clause-value c =
    let a = c.args in
    never_met a.self.now c.leaf.result (λ bits. within a.low a.high (number_of bits a.first a.width) && value_in a.self.now a.then bits)
    c.leaf.ensures.within c.leaf.ensures.leaf
    (λ bits. none_reaches a.low a.high c.greatest-most.result a.first a.width bits (value_in a.self.now a.then bits) c.greatest-most.ensures c.if-low-most.true)

pub widened-requires-clause-then : goal.widened-requires-clause-then
widened-requires-clause-then c =
    let a = c.args in
    let bit = a.first + (a.width - 1 - c.loop-place.place) in
    let later : a.first + (a.width - 1 - c.loop-place.place) + 1 ≤ a.first + a.width = omega (arith, c.loop-place-test.true) in (
      stays_within a.self.now c.loop-place.self a.then c.loop-place.invariant.older c.requires.within,
      looks_later a.self.now c.loop-place.self (bit + 1) a.then c.loop-place.invariant.older c.requires.within
          (looks_earlier a.self.now (bit + 1) (a.first + a.width) a.then later c.requires.later),
    )

pub loop-place-preserved : goal.loop-place-preserved
loop-place-preserved c =
    let a = c.args in
    let place = c.loop-place.place in
    record {
      bounded = bounded_more a.self.now c.loop-place.self c.widened.new.self (a.first + (a.width - (place + 1))) (a.first + (a.width - 1 - place)) (a.first + (a.width - place))
          place (place + 1) a.low c.min-high.result a.then c.digit.result c.digit-in-loop-place.result c.loop-place.bounded c.in_ok-bounded.bounded
          (add-one place) (omega (arith, c.loop-place-test.true)) (omega arith) c.digit.ensures c.digit-in-loop-place.ensures
          c.loop-place.invariant.older c.requires.within c.loop-place.invariant.bounded c.in_ok-bounded.ensures.widened;
      few = omega (arith, c.loop-place.invariant.few, c.in_ok-bounded.ensures.few);
      older = extends_twice a.self.now c.loop-place.self c.widened.new.self c.loop-place.invariant.older c.widened.ensures.older;
    }

pub returns-clause-value : goal.returns-clause-value
returns-clause-value c =
    let a = c.args in
    let place = c.loop-place.place in
    let last : c.loop-place.place ≡ c.args.width = omega (arith, c.loop-place-test.false, c.loop-place.auto.place-end) in
    all_bounded a.self.now c.loop-place.self a.first (a.first + (a.width - place)) a.width place a.low a.high c.greatest-most.result c.min-high.result a.then c.loop-place.bounded
    last (omega (arith, last)) c.greatest-most.ensures c.if-low-most.false c.min-high.ensures c.loop-place.invariant.bounded
