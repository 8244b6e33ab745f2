use Rattle.bit_patterns.proofs.BitTests.{wildcard_by_bits}
use Rattle.bit_patterns.proofs.patterns.wildcard_bits.Goals as goal

pub returns : goal.returns
returns c = wildcard_by_bits
