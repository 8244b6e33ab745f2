use Rattle.std.proofs.Common.{◌≡◌, ◌+◌, ◌<◌, get_or, arith, rules}
use Rattle.std.specs.Char.{digit_value}
use Rattle.std.proofs.lemmas.List.{take_all}
use Rattle.std.proofs.lemmas.Str.{digit_value_digit}
use Rattle.std.proofs.lemmas.Str.Parse.{digit_from_value}
use Rattle.std.proofs.lemmas.Int.Digits.{digits_more, digits_value_more}
use Rattle.certificates.proofs.Decimals.{front_is_small, no_digit_in_number, number_begins, number_from_digits, number_is_short, number_is_some, value_of_number}
use Rattle.std.proofs.lemmas.Bool.{false≢true}
use Rattle.std.proofs.lemmas.Bool.Decides.{nat_tests}
use Rattle.certificates.proofs.words.number.Goals as goal
use Rattle.certificates.proofs.words.number.Goals.{then-is_empty-via-then-is_empty, then-is_empty-via-else-is_empty+then-word-gt-MOST_DIGITS}

pub returns-then-is_empty-clause-none : goal.returns-then-is_empty-clause-none
returns-then-is_empty-clause-none c n is =
    let some = number_is_some c.args.word.now n is in
    let short = number_is_short c.args.word.now n is in
    elim c.then-is_empty.branch [
      | then-is_empty-via-then-is_empty w ↦ grind (arith, nat_tests)
      | then-is_empty-via-else-is_empty+then-word-gt-MOST_DIGITS w ↦ absurd (omega arith)
    ]

pub returns-then-is_padded-clause-none : goal.returns-then-is_padded-clause-none
returns-then-is_padded-clause-none c n is =
    let padded = c.is_padded.ensures.0 c.if-is_padded.true in
    number_begins c.args.word.now n is padded.0 padded.1

pub returns-then-n-lt-NUMBER_END-clause-found : goal.returns-then-n-lt-NUMBER_END-clause-found
returns-then-n-lt-NUMBER_END-clause-found c =
    let whole = take_all c.loop-digit.digit-index c.args.word.now (omega arith) in
    let digits = rw whole at c.loop-digit.invariant.digits in
    let value = rw whole at c.loop-digit.invariant.value in
    rw value (number_from_digits c.args.word.now (search rules) digits
    (λ long zero. absurd (false≢true (rw c.if-is_padded.false at (c.is_padded.ensures.1 (long, zero))))) (omega (arith, value)))

pub returns-else-n-lt-NUMBER_END-clause-none : goal.returns-else-n-lt-NUMBER_END-clause-none
returns-else-n-lt-NUMBER_END-clause-none c n is =
    let whole = take_all c.loop-digit.digit-index c.args.word.now (omega arith) in
    let value = rw whole at c.loop-digit.invariant.value in
    let small = is.small in
    absurd (omega (arith, value, value_of_number c.args.word.now n is))

pub returns-then-not-is_ascii_digit-clause-none : goal.returns-then-not-is_ascii_digit-clause-none
returns-then-not-is_ascii_digit-clause-none c =
    no_digit_in_number c.args.word.now c.loop-digit.digit-index (omega arith) (search rules)

pub overflow_mul-n : goal.overflow_mul-n
overflow_mul-n c =
    omega (arith, front_is_small c.args.word.now c.loop-digit.digit-index c.loop-digit.invariant.digits (omega arith) (omega arith))

pub overflow_add-n : goal.overflow_add-n
overflow_add-n c =
    omega (arith, front_is_small c.args.word.now c.loop-digit.digit-index c.loop-digit.invariant.digits (omega arith) (omega arith))

pub loop-digit-preserved : goal.loop-digit-preserved
loop-digit-preserved c =
    let digit : digit_value (get_or c.args.word.now c.loop-digit.digit-index 0) < 10 = search rules in
    let value : digit_value (get_or c.args.word.now c.loop-digit.digit-index 0) + 48 ≡ get_or c.args.word.now c.loop-digit.digit-index 0 =
    digit_value_digit _ (digit_from_value _ digit) in
    record {
      digits = digits_more 10 c.args.word.now c.loop-digit.digit-index (omega arith) c.loop-digit.invariant.digits digit;
      value = omega (arith, digits_value_more 10 c.args.word.now c.loop-digit.digit-index (omega arith), c.loop-digit.invariant.value, value);
    }
