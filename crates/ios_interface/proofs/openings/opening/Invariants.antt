use Rattle.std.proofs.Common.{drop, map}
use Rattle.std.specs.List.{AllByRecursion}
use Rattle.ios_interface.specs.Grammar.{opening_words}
use Rattle.ios_lex.specs.Openings.{LacksOpening}
use Rattle.ios_interface.proofs.openings.opening.Given as goal

-- none of the kinds so far opens the line
abbrev pub invariant-loop-kind : goal.invariant-loop-kind
invariant-loop-kind l =
    AllByRecursion (LacksOpening l.words) (map opening_words (drop l.kind-index l.kind-items)) → AllByRecursion (LacksOpening l.words) (map opening_words l.kind-items)
