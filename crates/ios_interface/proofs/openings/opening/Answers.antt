use Rattle.ios_interface.specs.Grammar.{opening_words}
use Rattle.ios_lex.proofs.LineOpenings.{lacks_earlier}
use Rattle.ios_interface.proofs.openings.opening.Goals as goal

pub loop-kind-preserved : goal.loop-kind-preserved
loop-kind-preserved c later =
    c.loop-kind.invariant (lacks_earlier opening_words c.args.words.now _ c.loop-kind.kind-index _ c.loop-kind-test.true (rw c.opening.ensures at c.in_default.ensures.none) later)
