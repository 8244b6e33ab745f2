use Rattle.std.proofs.Common.{◌≡◌, ◌++◌, length}
use Rattle.ios_lex.specs.Words.{words_of}
use Rattle.ios_lex.proofs.words.words_in.Given as goal

abbrev pub invariant-loop-rest : goal.invariant-loop-rest
invariant-loop-rest l = l.words.items ++ words_of l.rest ≡ words_of l.line

abbrev pub decreases-loop-rest : goal.decreases-loop-rest
decreases-loop-rest l = length l.rest
