use Rattle.ios_config.proofs.OneConfig.{routers_same, refusals_same, read_is_not_refused}
use Rattle.ios_config.proofs.SomeReading.{some_reading}
use Rattle.ios_config.proofs.laws.one_config.Goals as goal

pub returns-clause-same_router : goal.returns-clause-same_router
returns-clause-same_router c = routers_same

pub returns-clause-same_refusal : goal.returns-clause-same_refusal
returns-clause-same_refusal c = refusals_same

pub returns-clause-not_both : goal.returns-clause-not_both
returns-clause-not_both c = read_is_not_refused

pub returns-clause-not_neither : goal.returns-clause-not_neither
returns-clause-not_neither c = some_reading
