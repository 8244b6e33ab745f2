use Rattle.std.proofs.Common.{◌≡◌, ◌++◌, drop}
use Rattle.combiners.proofs.copy.copy_texts.Given as goal

-- the texts so far are copied
abbrev pub invariant-loop-text : goal.invariant-loop-text
invariant-loop-text l = l.copies ++ drop l.text-index l.texts ≡ l.texts
