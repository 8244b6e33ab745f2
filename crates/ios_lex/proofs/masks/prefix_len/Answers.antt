use Rattle.std.proofs.Common.{arith}
use Rattle.ios_lex.proofs.PrefixMasks.{few_zeros, mask_of_zeros, zeros_of_mask}
use Rattle.ios_lex.proofs.masks.prefix_len.Goals as goal

pub overflow_sub-result : goal.overflow_sub-result
overflow_sub-result c = few_zeros c.ilog2-zeros.result (omega (arith, c.ilog2-zeros.ensures.power_le))

pub returns-then-size-zeros-clause-found : goal.returns-then-size-zeros-clause-found
returns-then-size-zeros-clause-found c =
    let few = few_zeros c.ilog2-zeros.result (omega (arith, c.ilog2-zeros.ensures.power_le)) in
    mask_of_zeros c.args.mask c.ilog2-zeros.result few (omega (arith, c.if-size-zeros.true))

pub returns-else-size-zeros-clause-none : goal.returns-else-size-zeros-clause-none
returns-else-size-zeros-clause-none c n prefix =
    let value = zeros_of_mask c.args.mask c.ilog2-zeros.result n prefix (omega arith) (omega arith) in
    c.if-size-zeros.false (omega (arith, value))
