-- The length and the distance of the best routes of an address. Private calls are stated by it, and no public one.
use Rattle.std.specs.Prelude.{ℕ, Bool, false, ◌&&◌, ◌||◌, ◌==◌, nat_lt, List, map, fold, Option, Some, None, cond}
use Rattle.std.specs.List.{filter}
use Rattle.ios_route.specs.declared.best.Choice.{Choice}
use Rattle.ios_route.specs.declared.routes.Active.{Active}
use Rattle.ios_route.specs.Best.{choice_by, covers}

abbrev pub rank : Active → ℕ × ℕ
rank route = (route.len, route.distance)

-- a greater length, or the same and a smaller distance
abbrev pub is_ahead : ℕ × ℕ → ℕ × ℕ → Bool
is_ahead this other = nat_lt other.0 this.0 || (this.0 == other.0 && nat_lt this.1 other.1)

abbrev pub foremost : Option (ℕ × ℕ) → ℕ × ℕ → ℕ × ℕ
foremost None this = this
foremost (Some best) this = cond (is_ahead this best) this best

abbrev pub rank_after : ℕ → Option (ℕ × ℕ) → Active → Option (ℕ × ℕ)
rank_after address best route = cond (covers address route) (Some (foremost best (rank route))) best

abbrev pub best_rank : ℕ → List Active → Option (ℕ × ℕ)
best_rank address routes = fold (rank_after address) None routes

abbrev pub has_rank : ℕ → Option (ℕ × ℕ) → Active → Bool
has_rank address None route = false
has_rank address (Some best) route =
    covers address route && (route.len == best.0 && route.distance == best.1)

-- what the routes of this rank say
abbrev pub choices_left : ℕ → Option (ℕ × ℕ) → List Active → List Choice
choices_left address best routes = map (choice_by address) (filter (has_rank address best) routes)
