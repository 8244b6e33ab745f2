use Rattle.std.proofs.Common.{arith}
use Rattle.certificates.proofs.Decimals.{number_is_one}
use Rattle.certificates.proofs.words.signed.Goals as goal

pub returns-then-n-eq0-clause-none : goal.returns-then-n-eq0-clause-none
returns-then-n-eq0-clause-none c n some is = absurd (omega (arith, number_is_one c.args.digits.now _ n c.in_ok-n.ensures.found is))
