use Rattle.std.proofs.Common.{◌^◌, ◌≤◌, arith, sym, ◌∙◌, lt-ltb, le-leb}
use Rattle.std.proofs.Math.Nat.{pow-le-pow_right}
use Rattle.sorted_logic.proofs.check.has_bits.Goals as goal

pub returns-then-bits-ge128 : goal.returns-then-bits-ge128
returns-then-bits-ge128 c =
    let h : 2 ^ 128 ≤ 2 ^ c.args.bits =
    pow-le-pow_right {n = 2} (omega arith) {i = 128} {j = c.args.bits} c.if-bits-ge128.true in
    le-leb 128 c.args.bits c.if-bits-ge128.true ∙ sym (lt-ltb _ _ (omega (arith, h, c.ranges.number)))
