use Rattle.ios_acl.proofs.BitTests.{established_by_bits}
use Rattle.ios_acl.proofs.laws.established_bits.Goals as goal

pub returns : goal.returns
returns c = established_by_bits
