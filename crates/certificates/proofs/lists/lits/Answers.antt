use Rattle.certificates.specs.Text.{lit_text}
use Rattle.certificates.specs.Parts.Entries.{IsWritableLit}
use Rattle.certificates.proofs.Entries.{lits_are_entries}
use Rattle.certificates.proofs.Listed.{so_far_none, so_far_more, so_far_end, no_other_list}
use Rattle.certificates.proofs.lists.lits.Goals as goal

pub loop-lit-init : goal.loop-lit-init
loop-lit-init c = rw c.new-lits.ensures.items (so_far_none IsWritableLit lit_text c.args.text.now)

pub loop-lit-preserved : goal.loop-lit-preserved
loop-lit-preserved c =
    rw c.in_ok-push.ensures.items (so_far_more IsWritableLit lit_text c.args.text.now c.loop-lit.rest.now c.in-Some.behind.now c.loop-lit.lits.items c.in-Some.lit c.loop-lit.invariant c.in-Some.ensures.found)

pub returns-in-Some-behind_byte-clause-found : goal.returns-in-Some-behind_byte-clause-found
returns-in-Some-behind_byte-clause-found c =
    so_far_end IsWritableLit lit_text c.args.text.now c.loop-lit.rest.now c.in-Some-behind_byte.behind.now c.loop-lit.lits.items c.loop-lit.invariant c.in-Some-behind_byte.ensures.found

pub returns-clause-none : goal.returns-clause-none
returns-clause-none c =
    no_other_list IsWritableLit lit_text lits_are_entries c.args.text.now c.loop-lit.rest.now c.loop-lit.lits.items c.loop-lit.invariant c.in_default.ensures.none c.in-None.ensures.none
