use Rattle.std.proofs.Common.{sym, ap, ◌∙◌}
use Rattle.combiners.specs.declared.policy.Parts.TheVariants as parts_of
use Rattle.combiners.proofs.PlainTrees.{plain_at_children}
use Rattle.combiners.proofs.plain.+plain.Goals as goal

pub is_plain_within-returns-in-Children : goal.is_plain_within-returns-in-Children
is_plain_within-returns-in-Children t c = c.are_plain.ensures ∙ plain_at_children c.args.set.now c.args.levels c.args.place
    c.in-Some.policy.now c.as_slice-in-Children.result.now c.if-levels-eq0.false (sym c.in-Some.ensures.value)
    (c.in-Children.is ∙ ap parts_of.Children (sym c.as_slice-in-Children.ensures))
