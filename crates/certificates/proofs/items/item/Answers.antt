use Rattle.certificates.proofs.Absence.{none_from_other}
use Rattle.certificates.proofs.ItemTexts.{only_step, only_deletion, no_deletion}
use Rattle.certificates.proofs.items.item.Goals as goal

pub returns-in_default-clause-none : goal.returns-in_default-clause-none
returns-in_default-clause-none c =
    none_from_other c.in_ok-step.step c.map.result c.map.ensures.variant
    (only_step c.args.version c.args.line.now c.in_default.ensures.none) c.in_ok-step.ensures.none

pub returns-then-version-ne2-clause-none : goal.returns-then-version-ne2-clause-none
returns-then-version-ne2-clause-none c =
    no_deletion c.args.version c.args.line.now c.in-Some.deleted.now c.in-Some.ensures.found (λ same. absurd (c.if-version-ne2.true same))

pub returns-clause-none : goal.returns-clause-none
returns-clause-none c =
    none_from_other c.in_ok-deleted.deleted c.map-2.result c.map-2.ensures.variant
    (only_deletion c.args.version c.args.line.now c.in-Some.deleted.now c.in-Some.ensures.found) c.in_ok-deleted.ensures.none
