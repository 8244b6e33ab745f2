use Rattle.std.proofs.Common.{drop, map}
use Rattle.std.specs.List.{AllByRecursion}
use Rattle.ios_lex.specs.Openings.{LacksOpening}
use Rattle.ios_config.specs.Commands.{opening_words}
use Rattle.ios_config.proofs.command.opened_command.Given as goal

-- none of the commands so far opens the line
abbrev pub invariant-loop-command : goal.invariant-loop-command
invariant-loop-command l =
    AllByRecursion (LacksOpening l.words) (map opening_words (drop l.command-index l.command-items)) → AllByRecursion (LacksOpening l.words) (map opening_words l.command-items)
