use Rattle.std.proofs.Common.{length}
use Rattle.dimacs.proofs.Readings.{ReadSoFar}
use Rattle.dimacs.proofs.clauses.take_clauses.Given as goal

abbrev pub invariant-loop-word : goal.invariant-loop-word
invariant-loop-word l = ReadSoFar l.fn.head.vars l.fn.head.count l.fn.words l.words l.reading.cnf.vars l.reading.count l.reading.cnf.clauses l.reading.part.items

abbrev pub decreases-loop-word : goal.decreases-loop-word
decreases-loop-word l = length l.words.words
