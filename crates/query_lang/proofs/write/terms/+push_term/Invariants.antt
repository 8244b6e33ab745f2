use Rattle.std.proofs.Common.{◌≡◌, ◌∷◌, ◌++◌, drop}
use Rattle.std.specs.List.{flat_map}
use Rattle.query_tokens.specs.declared.token.Sign.TheVariants as sign_of
use Rattle.query_tokens.specs.declared.token.Token.TheVariants as token
use Rattle.query_lang.specs.Writing.{argument, by_commas}
use Rattle.query_lang.proofs.write.terms.+push_term.Given as goal

-- with what follows the parts so far, they are all
abbrev pub invariant-push_arguments-loop-arg : goal.invariant-push_arguments-loop-arg
invariant-push_arguments-loop-arg l = l.out.items ++ flat_map (λ part. token.Sign sign_of.Comma ∷ argument part) (drop l.arg-index l.others) ≡ l.fn.out.items ++ by_commas argument l.args
