use Rattle.std.proofs.Common.{refl, arith}
use Rattle.scenarios_search.proofs.questions.field_named.Goals as goal

pub returns-in-dport_in : goal.returns-in-dport_in
returns-in-dport_in c = (3, omega arith, refl)

pub returns-in-flags : goal.returns-in-flags
returns-in-flags c = (5, omega arith, refl)
