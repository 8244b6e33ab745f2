use Rattle.std.proofs.Common.{refl}
use Rattle.frame.proofs.ShownTests.{same_tests, visible_push}
use Rattle.frame.proofs.laws.shown_once.Goals as goal

pub returns-clause-same : goal.returns-clause-same
returns-clause-same c = same_tests

pub returns-clause-first : goal.returns-clause-first
returns-clause-first c = refl

pub returns-clause-next : goal.returns-clause-next
returns-clause-next c = visible_push
