use Rattle.std.proofs.Common.{refl}
use Rattle.dimacs.proofs.LineTexts.{no_word}
use Rattle.dimacs.proofs.words.Words.of.Goals as goal

pub returns-clause-words : goal.returns-clause-words
returns-clause-words c = rw no_word refl
