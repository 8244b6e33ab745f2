use Rattle.std.proofs.Common.{◌≡◌, ◌+◌, ◌-◌, ◌/◌, ◌^◌, ◌&&◌, true, false, ap, add-one, arith}
use Rattle.std.proofs.lemmas.Bool.Decides.{nat_tests}
use Rattle.bit_patterns.specs.Patterns.{agrees}
use Rattle.decision_diagram.specs.Table.{value_in}
use Rattle.decision_diagram.specs.Tests.{number_of}
use Rattle.decision_diagram.proofs.Agreeing.{agrees_by_bits, all_tested, never_met, tested_more}
use Rattle.decision_diagram.proofs.Extending.{extends_twice}
use Rattle.decision_diagram.proofs.diagrams.Diagrams.masked.Goals as goal

pub returns-then-not-agree_above-clause-value : goal.returns-then-not-agree_above-clause-value
returns-then-not-agree_above-clause-value c =
    let a = c.args in
    let above : false ≡ agrees 0 (a.value / 2 ^ a.width) (a.wildcard / 2 ^ a.width) = grind (arith, nat_tests, c.if-not-agree_above.true, c.agree_above.ensures) in
    never_met a.self.now c.leaf.result (λ bits. agrees (number_of bits a.first a.width) a.value a.wildcard && value_in a.self.now a.then bits)
    c.leaf.ensures.within c.leaf.ensures.leaf
    (λ bits. ap (λ t. t && value_in a.self.now a.then bits) (agrees_by_bits bits a.first a.width a.value a.wildcard false above))

pub returns-clause-value : goal.returns-clause-value
returns-clause-value c =
    let a = c.args in
    let place = c.loop-place.place in
    let above : true ≡ agrees 0 (a.value / 2 ^ a.width) (a.wildcard / 2 ^ a.width) = grind (arith, nat_tests, c.if-not-agree_above.false, c.agree_above.ensures) in
    let last : c.loop-place.place ≡ c.args.width = omega (arith, c.loop-place-test.false, c.loop-place.auto.place-end) in
    all_tested a.self.now c.loop-place.self a.first (a.first + (a.width - place)) a.width place a.value a.wildcard a.then c.loop-place.diagram
    last (omega (arith, last)) above c.loop-place.invariant.tested

pub loop-place-preserved : goal.loop-place-preserved
loop-place-preserved c =
    let a = c.args in
    let place = c.loop-place.place in
    let at : a.first + (a.width - 1 - place) ≡ a.first + (a.width - (place + 1)) = omega arith in
    record {
      tested = tested_more a.self.now c.loop-place.self c.bit_agrees.new.self (a.first + (a.width - (place + 1))) (a.first + (a.width - 1 - place)) (a.first + (a.width - place))
          place (place + 1) a.value a.wildcard a.then c.loop-place.diagram c.in_ok-diagram.diagram c.digit-is_free.result c.digit.result
          (add-one place) (omega (arith, c.loop-place-test.true)) at c.digit-is_free.ensures c.digit.ensures
          c.loop-place.invariant.tested c.in_ok-diagram.ensures.value c.in_ok-diagram.ensures.from;
      few = omega (arith, c.loop-place.invariant.few, c.in_ok-diagram.ensures.few);
      older = extends_twice a.self.now c.loop-place.self c.bit_agrees.new.self c.loop-place.invariant.older c.bit_agrees.ensures.older;
    }
