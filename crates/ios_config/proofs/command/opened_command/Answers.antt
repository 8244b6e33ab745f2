use Rattle.ios_lex.proofs.LineOpenings.{lacks_earlier}
use Rattle.ios_config.specs.Commands.{opening_words}
use Rattle.ios_config.proofs.command.opened_command.Goals as goal

pub loop-command-preserved : goal.loop-command-preserved
loop-command-preserved c later =
    c.loop-command.invariant (lacks_earlier opening_words c.args.words.now _ c.loop-command.command-index _ c.loop-command-test.true (rw c.opening.ensures at c.in_default.ensures.none) later)
