use Rattle.std.proofs.Common.{◌≡◌, [], ◌∷◌, ◌++◌, drop}
use Rattle.std.specs.List.{flat_map}
use Rattle.query_tokens.specs.declared.token.Sign.TheVariants as sign_of
use Rattle.query_tokens.specs.declared.token.Token.TheVariants as token
use Rattle.query_lang.specs.Writing.{under}
use Rattle.query_lang.proofs.write.explore.push_under.Given as goal

-- with what follows the parts so far, they are all
abbrev pub invariant-loop-name : goal.invariant-loop-name
invariant-loop-name l = l.out.items ++ flat_map (λ part. token.Sign sign_of.Comma ∷ token.Name part ∷ []) (drop l.name-index l.others) ≡ l.fn.out.items ++ under l.names
