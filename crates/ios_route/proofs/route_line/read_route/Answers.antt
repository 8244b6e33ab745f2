use Rattle.ios_route.proofs.RouteReasons.{stop_refused}
use Rattle.ios_route.proofs.route_line.read_route.Goals as goal

pub returns-in_ok-line_reason-in-Err-clause-refused : goal.returns-in_ok-line_reason-in-Err-clause-refused
returns-in_ok-line_reason-in-Err-clause-refused c =
    rw c.in_ok-line_reason-in-Err.ensures (stop_refused c.args.words.now c.in-Err.stop c.in-Err.ensures.stop)
