use Rattle.std.proofs.Common.{◌≡◌, ◌∷◌, ◌++◌, drop}
use Rattle.std.specs.List.{flat_map}
use Rattle.query_tokens.specs.declared.token.Token.TheVariants as token
use Rattle.query_lang.specs.Writing.{at_most, parted, written}
use Rattle.query_lang.proofs.write.formulas.+push_formula.Given as goal

-- with what follows the parts so far, they are all
abbrev pub invariant-push_parts-loop-part : goal.invariant-push_parts-loop-part
invariant-push_parts-loop-part l = l.out.items ++ flat_map (λ part. token.Keyword l.word ∷ at_most l.most (written part)) (drop l.part-index l.others) ≡ l.fn.out.items ++ parted (token.Keyword l.word) (λ part. at_most l.most (written part)) l.parts
