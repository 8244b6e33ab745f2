use Rattle.std.specs.Fmt.{decimal}
use Rattle.certificates.specs.Writable.{IsWritableNumber}
use Rattle.certificates.proofs.Entries.{numbers_are_entries}
use Rattle.certificates.proofs.Listed.{so_far_none, so_far_more, so_far_end, no_other_list}
use Rattle.certificates.proofs.lists.first_numbers.Goals as goal

pub loop-n-init : goal.loop-n-init
loop-n-init c = rw c.new-numbers.ensures.items (so_far_none IsWritableNumber decimal c.args.text.now)

pub loop-n-preserved : goal.loop-n-preserved
loop-n-preserved c =
    rw c.in_ok-push.ensures.items (so_far_more IsWritableNumber decimal c.args.text.now c.loop-n.rest.now c.in-Some.behind.now c.loop-n.numbers.items c.in-Some.n c.loop-n.invariant c.in-Some.ensures.found)

pub returns-in-Some-behind_byte-clause-found : goal.returns-in-Some-behind_byte-clause-found
returns-in-Some-behind_byte-clause-found c =
    so_far_end IsWritableNumber decimal c.args.text.now c.loop-n.rest.now c.in-Some-behind_byte.behind.now c.loop-n.numbers.items c.loop-n.invariant c.in-Some-behind_byte.ensures.found

pub returns-clause-none : goal.returns-clause-none
returns-clause-none c =
    no_other_list IsWritableNumber decimal numbers_are_entries c.args.text.now c.loop-n.rest.now c.loop-n.numbers.items c.loop-n.invariant c.in_default.ensures.none c.in-None.ensures.none
