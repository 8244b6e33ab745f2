use Rattle.std.proofs.Common.{◌≡◌, ◌∷◌, inl, rules}
use Rattle.std.proofs.lemmas.Result.{IfOk-weaker}
use Rattle.ios_acl.proofs.port_tests.ports.Goals as goal

pub returns-in-Some-clause-read : goal.returns-in-Some-clause-read
returns-in-Some-clause-read c =
    let whole : c.args.words.now ≡ c.in-Some.first.now ∷ c.in-Some.rest.now = search rules in
    rw whole (IfOk-weaker c.port_test.result _ _ (λ found read. inl read) c.port_test.ensures.read)
