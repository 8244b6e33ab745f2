use Rattle.std.proofs.Common.{◌≡◌, ◌++◌, drop}
use Rattle.std.specs.List.{flat_map}
use Rattle.list_questions.specs.Mentions.{mentions}
use Rattle.list_questions.proofs.mention.+mentions.Given as goal

-- with those of the other formulas they are all
abbrev pub invariant-push_all-loop-formula : goal.invariant-push_all-loop-formula
invariant-push_all-loop-formula l =
    l.all.items ++ flat_map mentions (drop l.formula-index l.formulas) ≡ l.fn.all.items ++ flat_map mentions l.formulas
