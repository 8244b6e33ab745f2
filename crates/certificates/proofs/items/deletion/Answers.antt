use Rattle.std.proofs.Common.{◌≡◌, ◌≤◌, length, sym, ap, ◌∙◌, arith}
use Rattle.std.proofs.lemmas.Bool.Decides.{nat_tests}
use Rattle.certificates.proofs.ItemTexts.{deleted_text, deletion_spelled, numbers_are_one}
use Rattle.certificates.proofs.items.deletion.Goals as goal

pub returns-in_default-clause-none : goal.returns-in_default-clause-none
returns-in_default-clause-none c deleted writable same =
    (rw c.in_default.is at c.in_ok-deleted.ensures.none) deleted writable.all (deleted_text c.args.text.now deleted same)

pub returns-then-is_empty-clause-none : goal.returns-then-is_empty-clause-none
returns-then-is_empty-clause-none c deleted writable same =
    let found = rw c.in-Some.is at c.in_ok-deleted.ensures.found in
    let is = ap length (numbers_are_one c.in-Some.deleted.items deleted found.0 writable.all (sym found.1 ∙ deleted_text c.args.text.now deleted same)) in
    let some = writable.some in
    let none : length c.in-Some.deleted.items ≡ 0 = grind (arith, nat_tests) in
    absurd (omega arith)

pub returns-clause-found : goal.returns-clause-found
returns-clause-found c =
    let found = rw c.in-Some.is at c.in_ok-deleted.ensures.found in
    let some : 1 ≤ length c.in-Some.deleted.items = grind (arith, nat_tests) in
    rw c.of.ensures (record { some = some; all = found.0 }, deletion_spelled c.args.text.now c.in-Some.deleted.items found.1)
