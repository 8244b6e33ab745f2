use Rattle.std.proofs.Common.{◌≡◌, [], ◌++◌, length, sym, ap, ◌∙◌, append-nil, arith}
use Rattle.std.specs.Fmt.{decimal}
use Rattle.std.proofs.lemmas.Bool.Decides.{nat_tests}
use Rattle.certificates.specs.Writable.{IsWritableNumber}
use Rattle.certificates.specs.Text.{numbers_text}
use Rattle.certificates.proofs.Entries.{numbers_are_entries}
use Rattle.certificates.proofs.Listed.{empty_list, list_is_one}
use Rattle.certificates.proofs.lists.numbers.Goals as goal

pub returns-in_default-clause-none : goal.returns-in_default-clause-none
returns-in_default-clause-none c numbers fit whole =
    (rw c.in_default.is at c.in_ok-numbers.ensures.none) numbers [] (record { fit = fit; whole = whole ∙ sym (append-nil (numbers_text numbers)) })

pub returns-then-not-is_empty-clause-none : goal.returns-then-not-is_empty-clause-none
returns-then-not-is_empty-clause-none c numbers fit whole =
    let found = rw c.in-Some.is at c.in_ok-numbers.ensures.found in
    let ones = list_is_one IsWritableNumber decimal numbers_are_entries c.in-Some.numbers.items numbers c.in-Some.rest.now [] found.fit fit (sym found.whole ∙ whole ∙ sym (append-nil (numbers_text numbers))) in
    let none : length c.in-Some.rest.now ≡ 0 = ap length ones.1 in
    absurd (grind (arith, nat_tests))

pub returns-clause-found : goal.returns-clause-found
returns-clause-found c =
    let found = rw c.in-Some.is at c.in_ok-numbers.ensures.found in
    let none : length c.in-Some.rest.now ≡ 0 = grind (arith, nat_tests) in
    (found.fit, found.whole ∙ ap (λ r. numbers_text c.in-Some.numbers.items ++ r) (empty_list c.in-Some.rest.now none) ∙ append-nil (numbers_text c.in-Some.numbers.items))
