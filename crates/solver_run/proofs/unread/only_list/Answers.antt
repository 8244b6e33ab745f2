use Rattle.std.proofs.Common.{◌≡◌, ◌<◌, ◌≤◌, ◌∙◌, ap, length, subst, sym}
use Rattle.std.specs.List.{filter}
use Rattle.solver_run.specs.Lists.{has_entries}
use Rattle.solver_run.proofs.OneList.{last_is_only, many_are_not_one, none_is_only}
use Rattle.solver_run.proofs.unread.only_list.Goals as goal

pub returns-then-len-gt1-clause-none : goal.returns-then-len-gt1-clause-none
returns-then-len-gt1-clause-none c =
    let count : c.len.result ≡ length (filter has_entries c.args.lists.items) = c.len.ensures ∙ c.with_entries-defined.result.ok.0 ∙ ap length c.with_entries-defined.ensures in
    many_are_not_one c.args.lists.items (subst (λ n. 1 < n) count c.if-len-gt1.true)

pub returns-clause-only : goal.returns-clause-only
returns-clause-only c =
    let count : c.len.result ≡ length (filter has_entries c.args.lists.items) = c.len.ensures ∙ c.with_entries-defined.result.ok.0 ∙ ap length c.with_entries-defined.ensures in
    last_is_only c.args.lists.items _ c.pop.result (sym c.with_entries-defined.ensures ∙ c.pop.ensures.items) (subst (λ n. n ≤ 1) count c.if-len-gt1.false)

pub returns-clause-none : goal.returns-clause-none
returns-clause-none c =
    let some = rw (c.with_entries-defined.result.ok.0 ∙ ap length c.with_entries-defined.ensures) at c.pop.ensures.variant in
    none_is_only c.args.lists.items c.pop.result some
