use Rattle.ios_route.proofs.OneRefusal.{not_both, not_neither, reason_is_one}
use Rattle.ios_route.proofs.OneRoute.{route_is_one}
use Rattle.ios_route.proofs.laws.one_route.Goals as goal

pub returns-clause-not_both : goal.returns-clause-not_both
returns-clause-not_both c = not_both

pub returns-clause-not_neither : goal.returns-clause-not_neither
returns-clause-not_neither c = not_neither

pub returns-clause-same_route : goal.returns-clause-same_route
returns-clause-same_route c = route_is_one

pub returns-clause-same_reason : goal.returns-clause-same_reason
returns-clause-same_reason c = reason_is_one
