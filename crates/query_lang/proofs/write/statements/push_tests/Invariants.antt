use Rattle.std.proofs.Common.{◌≡◌, ◌∷◌, ◌++◌, drop}
use Rattle.std.specs.List.{flat_map}
use Rattle.query_tokens.specs.declared.token.Sign.TheVariants as sign_of
use Rattle.query_tokens.specs.declared.token.Token.TheVariants as token
use Rattle.query_lang.specs.Writing.{field_test, by_commas}
use Rattle.query_lang.proofs.write.statements.push_tests.Given as goal

-- with what follows the parts so far, they are all
abbrev pub invariant-loop-test : goal.invariant-loop-test
invariant-loop-test l = l.out.items ++ flat_map (λ part. token.Sign sign_of.Comma ∷ field_test part) (drop l.test-index l.others) ≡ l.fn.out.items ++ by_commas field_test l.tests
