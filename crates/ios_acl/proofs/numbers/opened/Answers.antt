use Rattle.std.proofs.Common.{◌≡◌, ◌∷◌, refl, rules}
use Rattle.ios_acl.specs.Reading.{numbered}
use Rattle.ios_acl.proofs.numbers.opened.Goals as goal

pub returns-in-Some-number-clause-opened : goal.returns-in-Some-number-clause-opened
returns-in-Some-number-clause-opened c =
    let whole : c.args.words.now ≡ c.in-Some.first.now ∷ c.in-Some.rest.now = search rules in
    numbered c.in-Some.first.now c.in-Some-number.n whole
    (record { number = rw (c.from.ensures, c.bytes.ensures) at c.in-Some-number.ensures.found; some = c.if-n-gt0.true }) refl
