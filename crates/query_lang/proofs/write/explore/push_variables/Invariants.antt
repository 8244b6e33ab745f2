use Rattle.std.proofs.Common.{◌≡◌, [], ◌∷◌, ◌++◌, drop}
use Rattle.std.specs.List.{flat_map}
use Rattle.query_tokens.specs.declared.token.Sign.TheVariants as sign_of
use Rattle.query_tokens.specs.declared.token.Token.TheVariants as token
use Rattle.query_lang.specs.Writing.{declared, variables}
use Rattle.query_lang.proofs.write.explore.push_variables.Given as goal

-- with what follows the parts so far, they are all
abbrev pub invariant-loop-variable : goal.invariant-loop-variable
invariant-loop-variable l = l.out.items ++ (flat_map (λ part. token.Sign sign_of.Comma ∷ declared part) (drop l.variable-index l.others) ++ token.Sign sign_of.CloseBracket ∷ []) ≡ l.fn.out.items ++ variables l.all
