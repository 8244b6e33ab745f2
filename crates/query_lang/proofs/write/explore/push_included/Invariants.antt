use Rattle.std.proofs.Common.{◌≡◌, ◌∷◌, ◌++◌, drop}
use Rattle.std.specs.List.{flat_map}
use Rattle.query_tokens.specs.declared.token.Sign.TheVariants as sign_of
use Rattle.query_tokens.specs.declared.token.Token.TheVariants as token
use Rattle.query_lang.specs.Writing.{formula, included}
use Rattle.query_lang.proofs.write.explore.push_included.Given as goal

-- with what follows the parts so far, they are all
abbrev pub invariant-loop-atom : goal.invariant-loop-atom
invariant-loop-atom l = l.out.items ++ flat_map (λ part. token.Sign sign_of.Comma ∷ formula part) (drop l.atom-index l.others) ≡ l.fn.out.items ++ included l.atoms
