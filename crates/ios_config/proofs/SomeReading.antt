-- A configuration is read or refused.
use Rattle.std.proofs.Common.{◌≡◌, ℕ, ◌+◌, List, [], ◌∷◌, ◌++◌, length, ⊎_elim, refl, sym, ap}
use Rattle.std.proofs.lemmas.List.{append-nil}
use Rattle.ios_lex.specs.Lines.{Reading, AreLines, IsUnclosed}
use Rattle.ios_lex.specs.RawLines.{raw_lines}
use Rattle.ios_lex.specs.declared.reason.IosReason.{IosReason}
use Rattle.ios_lex.specs.declared.reason.IosReason.TheVariants as ios
use Rattle.ios_lex.proofs.EachReading.{each_reading}
use Rattle.ios_route.specs.declared.routes.RouteFault.{RouteFault}
use Rattle.ios_config.specs.Line.{Takes, IsLineRefused}
use Rattle.ios_config.specs.Reading.{TakesAll, AreTaken, Reads, IsRefused, route_faults, dangling_entries}
use Rattle.ios_config.specs.Router.{Draft, Router, no_lines, router_of}
use Rattle.ios_config.proofs.OpenBanners.{opens_at}
use Rattle.ios_config.proofs.RouteFaults.{route_refusal}
use Rattle.ios_config.proofs.SomeLine.{IsOpenThere, open_none, some_line}

-- one of the lines is refused, and those before it are taken
record StopsWithin (draft : Draft) (lines : List Reading) : Type 0 where
  before : List Reading
  after : List Reading
  line : Reading
  next : Draft
  why : IosReason
  whole : lines ≡ before ++ line ∷ after
  taken : TakesAll draft before next
  refused : IsLineRefused next line why

later_stop : (draft next : Draft) (line : Reading) (lines : List Reading) → Takes draft line next → StopsWithin next lines → StopsWithin draft (line ∷ lines)
later_stop draft next line lines takes stop = record {
  before = line ∷ stop.before;
  after = stop.after;
  line = stop.line;
  next = stop.next;
  why = stop.why;
  whole = ap (λ more. line ∷ more) stop.whole;
  taken = TakesAll.next draft next stop.next line stop.before takes stop.taken;
  refused = stop.refused;
}

lines_reading : (draft : Draft) (lines : List Reading) → IsOpenThere draft → ((end : Draft) → TakesAll draft lines end → ⊥) → (StopsWithin draft lines → ⊥) → ⊥
lines_reading draft [] there untaken unstopped = untaken draft (TakesAll.end draft)
lines_reading draft (line ∷ lines) there untaken unstopped =
    some_line draft line there
    (λ next takes there_next. lines_reading next lines there_next (λ end rest. untaken end (TakesAll.next draft next end line lines takes rest)) (λ stop. unstopped (later_stop draft next line lines takes stop)))
    (λ why refused. unstopped (record { before = []; after = lines; line = line; next = draft; why = why; whole = refl; taken = TakesAll.end draft; refused = refused }))

-- the lines of a front are taken, or one of them is refused
front_reading : (known : List (List ℕ)) (bytes : List ℕ) (front back : List (List ℕ)) (lines : List Reading) → raw_lines bytes ≡ front ++ back → AreLines 1 front lines
    → ((draft : Draft) → TakesAll (no_lines known) lines draft → ⊥) → ((line : ℕ) (why : IosReason) → IsRefused known bytes line why → ⊥) → ⊥
front_reading known bytes front back lines whole are untaken unrefused =
    lines_reading (no_lines known) lines (open_none known) untaken
    (λ stop. unrefused stop.line.number stop.why (IsRefused.line front back stop.before stop.after stop.line stop.next stop.why whole (rw stop.whole at are) stop.taken stop.refused))

-- a draft of a whole text is a router, or fails a test of the whole
whole_reading : (known : List (List ℕ)) (bytes : List ℕ) (draft : Draft) → AreTaken known bytes draft → ((router : Router) → Reads known bytes router → ⊥)
    → ((line : ℕ) (why : IosReason) → IsRefused known bytes line why → ⊥) → ⊥
whole_reading known bytes draft taken unread unrefused = by_routes (route_faults draft) refl
  where
    by_entries : (entries : List (ℕ × IosReason)) → route_faults draft ≡ [] → dangling_entries draft ≡ entries → ⊥
    by_entries [] lead found = unread (router_of draft) (record { draft = draft; taken = taken; lead = lead; found = found; is = refl })
    by_entries (entry ∷ more) lead found = unrefused entry.0 entry.1 (IsRefused.dynamic draft entry.0 entry.1 more taken lead found)

    by_routes : (faults : List RouteFault) → route_faults draft ≡ faults → ⊥
    by_routes [] lead = by_entries (dangling_entries draft) lead refl
    by_routes (fault ∷ more) is =
        let refusal = route_refusal draft fault more is in
        unrefused refusal.at refusal.why (IsRefused.route draft fault more refusal.at refusal.why taken is refusal.is)

pub some_reading : (known : List (List ℕ)) (bytes : List ℕ) → ((router : Router) → Reads known bytes router → ⊥)
    → ((line : ℕ) (why : IosReason) → IsRefused known bytes line why → ⊥) → ⊥
some_reading known bytes unread unrefused = ⊎_elim read unclosed (each_reading 1 (raw_lines bytes))
  where
    read : (lines : List Reading) × AreLines 1 (raw_lines bytes) lines → ⊥
    read lines =
        front_reading known bytes (raw_lines bytes) [] lines.0 (sym (append-nil (raw_lines bytes))) lines.1
        (λ draft taken. whole_reading known bytes draft (record { readings = lines.0; are_lines = lines.1; taken = taken }) unread unrefused)
        unrefused

    unclosed : (line : ℕ) × IsUnclosed 1 (raw_lines bytes) line → ⊥
    unclosed opened =
        let at = opens_at opened.1 in
        front_reading known bytes at.front (at.line ∷ at.back) at.readings at.whole at.are
        (λ draft taken. unrefused (length at.front + 1) ios.Unclosed (IsRefused.open_banner at.front at.back at.readings at.line draft at.whole at.are taken at.open_ended))
        unrefused
