use Rattle.std.proofs.Common.{◌≡◌, [], ◌∷◌, ◌++◌, drop}
use Rattle.std.specs.List.{flat_map}
use Rattle.query_tokens.specs.declared.token.Sign.TheVariants as sign_of
use Rattle.query_tokens.specs.declared.token.Token.TheVariants as token
use Rattle.query_lang.specs.Writing.{component, path}
use Rattle.query_lang.proofs.write.paths.push_path.Given as goal

-- with what follows the parts so far, they are all
abbrev pub invariant-loop-part : goal.invariant-loop-part
invariant-loop-part l = l.out.items ++ flat_map (λ part. token.Sign sign_of.Dot ∷ component part ∷ []) (drop l.part-index l.others) ≡ l.fn.out.items ++ path l.path
