use Rattle.frame.proofs.FieldPlaces.{few_bits, field_bound}
use Rattle.frame.proofs.bits.field_number.Goals as goal

pub number_of-requires : goal.number_of-requires
number_of-requires c = rw c.field_bits.ensures (few_bits c.args.field c.args.bits.now)

pub returns-clause-bound : goal.returns-clause-bound
returns-clause-bound c = rw (c.number_of.ensures, c.field_bits.ensures) (field_bound c.args.field c.args.bits.now)
