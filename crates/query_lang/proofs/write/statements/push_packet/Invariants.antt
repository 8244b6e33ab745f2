use Rattle.std.proofs.Common.{◌≡◌, [], ◌∷◌, ◌++◌, drop}
use Rattle.std.specs.List.{flat_map}
use Rattle.query_tokens.specs.declared.token.Sign.TheVariants as sign_of
use Rattle.query_tokens.specs.declared.token.Token.TheVariants as token
use Rattle.query_lang.specs.Writing.{literal, by_commas}
use Rattle.query_lang.proofs.write.statements.push_packet.Given as goal

-- with what follows the parts so far, they are all
abbrev pub invariant-loop-value : goal.invariant-loop-value
invariant-loop-value l = l.out.items ++ flat_map (λ part. token.Sign sign_of.Comma ∷ literal part ∷ []) (drop l.value-index l.others) ≡ l.fn.out.items ++ by_commas (λ one. literal one ∷ []) l.packet
