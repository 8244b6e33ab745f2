use Rattle.std.proofs.Common.{rules}
use Rattle.std.proofs.lemmas.Fn.{filter_same}
use Rattle.solver_run.specs.Lists.{has_entries}
use Rattle.solver_run.proofs.unread.with_entries.Goals as goal

pub returns : goal.returns
returns c = filter_same _ has_entries _ (λ x b f' k. search rules) _ _ c.retain.ensures.filtered
