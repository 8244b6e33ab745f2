use Rattle.std.proofs.Common.{◌≤◌, ◌∙◌, false, arith}
use Rattle.frame.proofs.NumberBits.{bool_byte_is, bool_byte_le, front_is_small, number_more}
use Rattle.frame.proofs.bits.number_of.Goals as goal

pub overflow_mul-n : goal.overflow_mul-n
overflow_mul-n c = omega (arith, front_is_small c.args.bits.now c.loop-bit.bit-index c.requires)

pub overflow_add-n : goal.overflow_add-n
overflow_add-n c =
    let bit : c.from.result ≤ 1 = rw c.from.ensures (bool_byte_le _) in
    omega (arith, bit, front_is_small c.args.bits.now c.loop-bit.bit-index c.requires)

pub loop-bit-preserved : goal.loop-bit-preserved
loop-bit-preserved c =
    let more = number_more c.args.bits.now c.loop-bit.bit-index false c.loop-bit-test.true in
    let bit = c.from.ensures ∙ bool_byte_is _ in
    omega (arith, more, bit, c.loop-bit.invariant)

pub overflow_cast-result : goal.overflow_cast-result
overflow_cast-result c = omega (arith, front_is_small c.args.bits.now c.loop-bit.bit-index c.requires, c.loop-bit.invariant)
