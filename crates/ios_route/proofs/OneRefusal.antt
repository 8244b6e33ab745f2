-- The words of a line are one route or are refused for one reason.
use Rattle.std.proofs.Common.{◌≡◌, false, [], refl}
use Rattle.std.proofs.lemmas.List.{append-nil}
use Rattle.ios_lex.specs.declared.reason.IosReason.{IosReason}
use Rattle.ios_lex.specs.declared.reason.IosReason.TheVariants as reason
use Rattle.ios_lex.specs.NextWords.{NoName}
use Rattle.ios_lex.specs.Phrases.{Words}
use Rattle.ios_lex.proofs.OneStop.{no_begins_behind_stop, SameStop, stop_is_one}
use Rattle.ios_lex.proofs.SomeStop.{some_stop}
use Rattle.ios_route.specs.declared.static_route.StaticRoute.{StaticRoute}
use Rattle.ios_route.specs.RouteLines.{IsRoute, Line}
use Rattle.ios_route.specs.RouteRefusals.{IsRefused, reason_at}
use Rattle.ios_route.proofs.RouteMasks.{some_line}

pub not_both : (route : StaticRoute) (words : Words) (why : IosReason) → IsRoute false route words → IsRefused words why → ⊥
not_both route words why is (IsRefused.stop front more word due over whole stops) =
    no_begins_behind_stop Line front words more word due over stops whole ([], rw append-nil (route, is))
not_both route words why is (IsRefused.short begins none) = none (route, is)

pub not_neither : (words : Words) → ((route : StaticRoute) → IsRoute false route words → ⊥) → ((why : IosReason) → IsRefused words why → ⊥) → ⊥
not_neither words no_route no_reason =
    some_stop NoName Line words (_, some_line false)
    (λ front more word due over whole stops. no_reason (reason_at front due over word) (IsRefused.stop front more word due over whole stops))
    (λ begins. no_reason reason.BadEntry (IsRefused.short begins (λ line. no_route line.0 line.1)))

pub reason_is_one : (words : Words) (why other : IosReason) → IsRefused words why → IsRefused words other → why ≡ other
reason_is_one words why other (IsRefused.stop front more word due over whole stops) (IsRefused.stop front' more' word' due' over' whole' stops') =
    by (stop_is_one Line front front' more more' word word' due due' over over' (rw whole at whole') stops stops')
  where
    by : SameStop front front' word word' due due' over over' → reason_at front due over word ≡ reason_at front' due' over' word'
    by same = rw (same.front_same, same.word_same, same.due_same, same.over_same) refl
reason_is_one words why other (IsRefused.stop front more word due over whole stops) (IsRefused.short begins none) =
    absurd (no_begins_behind_stop Line front words more word due over stops whole begins)
reason_is_one words why other (IsRefused.short begins none) (IsRefused.stop front more word due over whole stops) =
    absurd (no_begins_behind_stop Line front words more word due over stops whole begins)
reason_is_one words why other (IsRefused.short begins none) (IsRefused.short begins' none') = refl
