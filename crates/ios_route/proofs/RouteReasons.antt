-- The reason for which a line is refused where it stops.
use Rattle.ios_lex.specs.declared.stop.Stop.{Stop}
use Rattle.ios_lex.specs.NextWords.{NoName}
use Rattle.ios_lex.specs.Phrases.{Words}
use Rattle.ios_lex.specs.Stops.{expected_of, is_lax, IsStop}
use Rattle.ios_lex.proofs.StopReasons.{refused_at_stop}
use Rattle.ios_route.specs.RouteLines.{Line}
use Rattle.ios_route.specs.RouteParts.{line_reason}
use Rattle.ios_route.specs.RouteRefusals.{IsRefused, lax_reason, unmodelled_at}

pub stop_refused : (words : Words) (stop : Stop) → IsStop NoName Line words stop → IsRefused words (line_reason words stop)
stop_refused words stop is =
    refused_at_stop Line words stop (IsRefused words) unmodelled_at lax_reason
    (λ front more word whole stopped. IsRefused.stop front more word (expected_of stop.due) (is_lax stop.due) whole stopped)
    (λ begins none. IsRefused.short begins none) is
