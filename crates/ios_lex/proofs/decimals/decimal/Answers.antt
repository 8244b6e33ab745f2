use Rattle.std.proofs.Common.{◌≡◌, ◌+◌, ◌<◌, get_or, arith, rules}
use Rattle.std.specs.Char.{digit_value}
use Rattle.std.proofs.lemmas.Str.{digit_value_digit}
use Rattle.std.proofs.lemmas.Str.Parse.{digit_from_value}
use Rattle.std.proofs.lemmas.Int.Digits.{digits_more, digits_value_more}
use Rattle.ios_lex.proofs.DecimalTexts.{front_is_small, no_digit_in_decimal}
use Rattle.ios_lex.proofs.decimals.decimal.Goals as goal

pub returns-then-not-is_ascii_digit-clause-none : goal.returns-then-not-is_ascii_digit-clause-none
returns-then-not-is_ascii_digit-clause-none c =
    no_digit_in_decimal c.args.most c.args.text.now c.loop-digit.digit-index (omega arith) (search rules)

pub overflow_mul-n : goal.overflow_mul-n
overflow_mul-n c =
    omega (arith, front_is_small c.args.text.now c.loop-digit.digit-index c.loop-digit.invariant.digits (omega arith) (omega arith))

pub overflow_add-n : goal.overflow_add-n
overflow_add-n c =
    omega (arith, front_is_small c.args.text.now c.loop-digit.digit-index c.loop-digit.invariant.digits (omega arith) (omega arith))

pub loop-digit-preserved : goal.loop-digit-preserved
loop-digit-preserved c =
    let digit : digit_value (get_or c.args.text.now c.loop-digit.digit-index 0) < 10 = search rules in
    let value : digit_value (get_or c.args.text.now c.loop-digit.digit-index 0) + 48 ≡ get_or c.args.text.now c.loop-digit.digit-index 0 =
    digit_value_digit _ (digit_from_value _ digit) in
    record {
      digits = digits_more 10 c.args.text.now c.loop-digit.digit-index (omega arith) c.loop-digit.invariant.digits digit;
      value = omega (arith, digits_value_more 10 c.args.text.now c.loop-digit.digit-index (omega arith), c.loop-digit.invariant.value, value);
    }
