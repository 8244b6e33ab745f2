-- A configuration is read in one way, or refused in one.
use Rattle.std.proofs.Common.{◌≡◌, ℕ, ◌+◌, List, [], ◌∷◌, ◌++◌, length, Option, Some, None, ⊎_elim, refl, sym, ap, ◌∙◌, append_assoc, length-append, arith}
use Rattle.ios_lex.specs.RawLines.{raw_lines}
use Rattle.ios_lex.specs.Banner.{IsOpen}
use Rattle.ios_lex.specs.Lines.{Reading, AreLines, IsUnclosed}
use Rattle.ios_lex.specs.Lines as lex
use Rattle.ios_lex.proofs.OneReading.{lines_are_one, unclosed_is_one, not_both_kinds}
use Rattle.ios_lex.proofs.EachReading.{each_reading}
use Rattle.ios_lex.specs.declared.reason.IosReason.{IosReason}
use Rattle.ios_lex.specs.declared.reason.IosReason.TheVariants as reason
use Rattle.ios_route.specs.declared.routes.RouteFault.{RouteFault}
use Rattle.ios_config.specs.Router.{Draft, Router, no_lines, router_of}
use Rattle.ios_config.specs.Line.{Takes, IsLineRefused}
use Rattle.ios_config.specs.Reading.{TakesAll, AreTaken, Reads, IsRefused, route_faults, dangling_entries}
use Rattle.ios_config.specs.Whole.{IsRouteRefusal}
use Rattle.ios_config.proofs.OneMade.{takes_are_one, refusals_are_one, taken_is_not_refused}
use Rattle.ios_config.proofs.OpenBanners.{part_of, opens_at}
use Rattle.ios_config.proofs.RawFronts.{fronts_same}

-- the lines before this one are taken, and this one is not
data StopsAt : Draft → List Reading → ℕ → IosReason → Type 0 where
  here : (draft : Draft) (line : Reading) (lines : List Reading) (why : IosReason) → IsLineRefused draft line why → StopsAt draft (line ∷ lines) line.number why
  later : (draft next : Draft) (line : Reading) (lines : List Reading) (at : ℕ) (why : IosReason) → Takes draft line next → StopsAt next lines at why → StopsAt draft (line ∷ lines) at why

stops_behind : {draft next : Draft} {before : List Reading} (after : List Reading) (line : Reading) (why : IosReason) → TakesAll draft before next → IsLineRefused next line why
    → StopsAt draft (before ++ line ∷ after) line.number why
stops_behind after line why (TakesAll.end draft) refused = StopsAt.here draft line after why refused
stops_behind after line why (TakesAll.next draft next end first lines takes rest) refused =
    StopsAt.later draft next first (lines ++ line ∷ after) line.number why takes (stops_behind after line why rest refused)

stops_more : {draft : Draft} {lines : List Reading} {at : ℕ} {why : IosReason} (more : List Reading) → StopsAt draft lines at why → StopsAt draft (lines ++ more) at why
stops_more more (StopsAt.here draft line lines why refused) = StopsAt.here draft line (lines ++ more) why refused
stops_more more (StopsAt.later draft next line lines at why takes rest) = StopsAt.later draft next line (lines ++ more) at why takes (stops_more more rest)

stop_is_one : {draft : Draft} {lines : List Reading} {at at' : ℕ} {why why' : IosReason} → StopsAt draft lines at why → StopsAt draft lines at' why' → (at ≡ at') × (why ≡ why')
stop_is_one (StopsAt.here draft line lines why refused) (StopsAt.here draft' line' lines' why' refused') = (refl, refusals_are_one draft line why why' refused refused')
stop_is_one (StopsAt.here draft line lines why refused) (StopsAt.later draft' next line' lines' at why' takes rest) = absurd (taken_is_not_refused draft next line why takes refused)
stop_is_one (StopsAt.later draft next line lines at why takes rest) (StopsAt.here draft' line' lines' why' refused) = absurd (taken_is_not_refused draft next line why' takes refused)
stop_is_one (StopsAt.later draft next line lines at why takes rest) (StopsAt.later draft' next' line' lines' at' why' takes' rest') =
    stop_is_one rest (rw (takes_are_one draft next next' line takes takes') rest')

all_is_one : {draft end end' : Draft} {lines : List Reading} → TakesAll draft lines end → TakesAll draft lines end' → end ≡ end'
all_is_one (TakesAll.end draft) (TakesAll.end draft') = refl
all_is_one (TakesAll.next draft next end line lines takes rest) (TakesAll.next draft' next' end' line' lines' takes' rest') =
    all_is_one rest (rw (takes_are_one draft next next' line takes takes') rest')

all_does_not_stop : {draft end : Draft} {lines : List Reading} {at : ℕ} {why : IosReason} → TakesAll draft lines end → StopsAt draft lines at why → ⊥
all_does_not_stop (TakesAll.end draft) stop = elim stop [ ]
all_does_not_stop (TakesAll.next draft next end line lines takes rest) (StopsAt.here draft' line' lines' why refused) = taken_is_not_refused draft next line why takes refused
all_does_not_stop (TakesAll.next draft next end line lines takes rest) (StopsAt.later draft' next' line' lines' at why takes' stops) =
    all_does_not_stop {at = at} {why = why} rest (rw (takes_are_one draft next next' line takes takes') stops)

-- what stands behind some lines that are read is read after them
lines_behind : {number : ℕ} {front : List (List ℕ)} {readings : List Reading} (back : List (List ℕ)) (tail : List Reading) → AreLines number front readings
    → AreLines (length front + number) back tail → AreLines number (front ++ back) (readings ++ tail)
lines_behind back tail (AreLines.end number) are =
    let same : 0 + number ≡ number = omega arith in
    rw same at are
lines_behind back tail (AreLines.part number lines gives next left more is rest) are =
    let first = part_of number lines left gives next is in
    let at : length lines + number ≡ length left + next = omega (arith, ap length first.whole, length-append first.front left, first.long) in
    let all = lines_behind back tail rest (rw at at are) in
    rw (append_assoc gives more tail)
    (lex.part number (lines ++ back) gives next (left ++ back) (more ++ tail) (rw (first.whole, append_assoc first.front left back) (first.alone (left ++ back))) all)

unclosed_behind : {number at : ℕ} {front : List (List ℕ)} {readings : List Reading} (back : List (List ℕ)) → AreLines number front readings → IsUnclosed (length front + number) back at
    → IsUnclosed number (front ++ back) at
unclosed_behind back (AreLines.end number) unclosed =
    let same : 0 + number ≡ number = omega arith in
    rw same at unclosed
unclosed_behind {at = at} back (AreLines.part number lines gives next left more is rest) unclosed =
    let first = part_of number lines left gives next is in
    let place : length lines + number ≡ length left + next = omega (arith, ap length first.whole, length-append first.front left, first.long) in
    let all = unclosed_behind back rest (rw place at unclosed) in
    lex.later number (lines ++ back) gives next (left ++ back) at (rw (first.whole, append_assoc first.front left back) (first.alone (left ++ back))) all

-- all the lines, and the number of the line whose banner has no end, behind them
data AreAll (raw : List (List ℕ)) (readings : List Reading) : Option ℕ → Type 0 where
  all_read : AreLines 1 raw readings → AreAll raw readings None
  up_to : (front back : List (List ℕ)) (line : List ℕ) → raw ≡ front ++ line ∷ back → AreLines 1 front readings → IsOpen line back → AreAll raw readings (Some (length front + 1))

opens_unclosed : (raw front back : List (List ℕ)) (line : List ℕ) (readings : List Reading) → raw ≡ front ++ line ∷ back → AreLines 1 front readings → IsOpen line back
    → IsUnclosed 1 raw (length front + 1)
opens_unclosed raw front back line readings whole are unended = rw whole (unclosed_behind (line ∷ back) are (lex.here (length front + 1) line back unended))

record SameLines (readings readings' : List Reading) (end end' : Option ℕ) : Type 0 where
  same : readings ≡ readings'
  same_end : end ≡ end'

all_are_one : (raw : List (List ℕ)) (readings readings' : List Reading) (end end' : Option ℕ) → AreAll raw readings end → AreAll raw readings' end' → SameLines readings readings' end end'
all_are_one raw readings readings' end end' (AreAll.all_read are) (AreAll.all_read are') = record { same = lines_are_one are are'; same_end = refl }
all_are_one raw readings readings' end end' (AreAll.all_read are) (AreAll.up_to front back line whole are' unended) =
    absurd (not_both_kinds are (opens_unclosed raw front back line readings' whole are' unended))
all_are_one raw readings readings' end end' (AreAll.up_to front back line whole are unended) (AreAll.all_read are') =
    absurd (not_both_kinds are' (opens_unclosed raw front back line readings whole are unended))
all_are_one raw readings readings' end end' (AreAll.up_to front back line whole are unended) (AreAll.up_to front' back' line' whole' are' unended') =
    let at = unclosed_is_one (opens_unclosed raw front back line readings whole are unended) (opens_unclosed raw front' back' line' readings' whole' are' unended') in
    let fronts : front ≡ front' = fronts_same front front' (line ∷ back) (line' ∷ back') (omega (arith, at)) (sym whole ∙ whole') in
    record { same = lines_are_one are (rw fronts are'); same_end = ap Some at }

-- a test of the whole fails
data FailsWhole (draft : Draft) : ℕ → IosReason → Type 0 where
  route : (fault : RouteFault) (more : List RouteFault) (at : ℕ) (why : IosReason) → route_faults draft ≡ fault ∷ more → IsRouteRefusal fault at why → FailsWhole draft at why
  dynamic : (at : ℕ) (why : IosReason) (more : List (ℕ × IosReason)) → route_faults draft ≡ [] → dangling_entries draft ≡ (at, why) ∷ more → FailsWhole draft at why

same_refusal : (fault : RouteFault) (at at' : ℕ) (why why' : IosReason) → IsRouteRefusal fault at why → IsRouteRefusal fault at' why' → (at ≡ at') × (why ≡ why')
same_refusal fault at at' why why' (IsRouteRefusal.not_connected line) (IsRouteRefusal.not_connected line') = (refl, refl)
same_refusal fault at at' why why' (IsRouteRefusal.unknown line) (IsRouteRefusal.unknown line') = (refl, refl)

whole_is_one : (draft : Draft) (at at' : ℕ) (why why' : IosReason) → FailsWhole draft at why → FailsWhole draft at' why' → (at ≡ at') × (why ≡ why')
whole_is_one draft at at' why why' (FailsWhole.route fault more a w is refusal) (FailsWhole.route other more' b x is' refusal') =
    let same : other ≡ fault = cc (is, is') in
    same_refusal fault at at' why why' refusal (rw same at refusal')
whole_is_one draft at at' why why' (FailsWhole.route fault more a w is refusal) (FailsWhole.dynamic b x more' none is') = absurd (cc (is, none))
whole_is_one draft at at' why why' (FailsWhole.dynamic a w more none is) (FailsWhole.route fault more' b x is' refusal) = absurd (cc (is', none))
whole_is_one draft at at' why why' (FailsWhole.dynamic a w more none is) (FailsWhole.dynamic b x more' none' is') =
    let pair : (at, why) ≡ (at', why') = cc (is, is') in
    (ap (λ (p : ℕ × IosReason). p.0) pair, ap (λ (p : ℕ × IosReason). p.1) pair)

passes_whole : (draft : Draft) (at : ℕ) (why : IosReason) → route_faults draft ≡ [] → dangling_entries draft ≡ [] → FailsWhole draft at why → ⊥
passes_whole draft at why lead found (FailsWhole.route fault more a w is refusal) = cc (is, lead)
passes_whole draft at why lead found (FailsWhole.dynamic a w more none is) = cc (is, found)

-- a refusal, with all the lines
data Refuses (known : List (List ℕ)) (readings : List Reading) (end : Option ℕ) (at : ℕ) (why : IosReason) : Type 0 where
  stops : StopsAt (no_lines known) readings at why → Refuses known readings end at why
  banner : (draft : Draft) → TakesAll (no_lines known) readings draft → end ≡ Some at → why ≡ reason.Unclosed → Refuses known readings end at why
  fails : (draft : Draft) → TakesAll (no_lines known) readings draft → end ≡ None → FailsWhole draft at why → Refuses known readings end at why

record IsRefusal (known : List (List ℕ)) (raw : List (List ℕ)) (at : ℕ) (why : IosReason) : Type 0 where
  readings : List Reading
  end : Option ℕ
  all : AreAll raw readings end
  refuses : Refuses known readings end at why

refusal_behind : (known raw front back : List (List ℕ)) (readings : List Reading) (at : ℕ) (why : IosReason) → raw ≡ front ++ back → AreLines 1 front readings
    → StopsAt (no_lines known) readings at why → IsRefusal known raw at why
refusal_behind known raw front back readings at why whole are stop = ⊎_elim read unread (each_reading (length front + 1) back)
  where
    read : (tail : List Reading) × AreLines (length front + 1) back tail → IsRefusal known raw at why
    read tail = record {
      readings = readings ++ tail.0;
      end = None;
      all = AreAll.all_read (rw whole (lines_behind back tail.0 are tail.1));
      refuses = Refuses.stops (stops_more tail.0 stop);
    }

    unread : (line : ℕ) × IsUnclosed (length front + 1) back line → IsRefusal known raw at why
    unread unclosed =
        let open_at = opens_at unclosed.1 in
        record {
          readings = readings ++ open_at.readings;
          end = Some (length (front ++ open_at.front) + 1);
          all = AreAll.up_to (front ++ open_at.front) open_at.back open_at.line
              (whole ∙ ap (λ more. front ++ more) open_at.whole ∙ sym (append_assoc front open_at.front (open_at.line ∷ open_at.back)))
              (lines_behind open_at.front open_at.readings are open_at.are) open_at.open_ended;
          refuses = Refuses.stops (stops_more open_at.readings stop);
        }

whole_refusal : (known : List (List ℕ)) (bytes : List ℕ) (draft : Draft) (at : ℕ) (why : IosReason) → AreTaken known bytes draft → FailsWhole draft at why → IsRefusal known (raw_lines bytes) at why
whole_refusal known bytes draft at why taken failing =
    record { readings = taken.readings; end = None; all = AreAll.all_read taken.are_lines; refuses = Refuses.fails draft taken.taken refl failing }

is_refusal : (known : List (List ℕ)) (bytes : List ℕ) (at : ℕ) (why : IosReason) → IsRefused known bytes at why → IsRefusal known (raw_lines bytes) at why
is_refusal known bytes at why (IsRefused.line front back before after line draft why' whole are taken refused) =
    refusal_behind known (raw_lines bytes) front back (before ++ line ∷ after) line.number why whole are (stops_behind after line why taken refused)
is_refusal known bytes at why (IsRefused.open_banner front back before line draft whole are taken unended) =
    record { readings = before; end = Some (length front + 1); all = AreAll.up_to front back line whole are unended; refuses = Refuses.banner draft taken refl refl }
is_refusal known bytes at why (IsRefused.route draft fault more at' why' taken is refusal) = whole_refusal known bytes draft at why taken (FailsWhole.route fault more at why is refusal)
is_refusal known bytes at why (IsRefused.dynamic draft at' why' more taken none is) = whole_refusal known bytes draft at why taken (FailsWhole.dynamic at why more none is)

refuses_one : (known : List (List ℕ)) (readings : List Reading) (end : Option ℕ) (at at' : ℕ) (why why' : IosReason) → Refuses known readings end at why → Refuses known readings end at' why'
    → (at ≡ at') × (why ≡ why')
refuses_one known readings end at at' why why' (Refuses.stops stop) (Refuses.stops stop') = stop_is_one stop stop'
refuses_one known readings end at at' why why' (Refuses.stops stop) (Refuses.banner draft taken is is_why) = absurd (all_does_not_stop taken stop)
refuses_one known readings end at at' why why' (Refuses.stops stop) (Refuses.fails draft taken is failing) = absurd (all_does_not_stop taken stop)
refuses_one known readings end at at' why why' (Refuses.banner draft taken is is_why) (Refuses.stops stop) = absurd (all_does_not_stop taken stop)
refuses_one known readings end at at' why why' (Refuses.banner draft taken is is_why) (Refuses.banner draft' taken' is' is_why') = (cc (is, is'), is_why ∙ sym is_why')
refuses_one known readings end at at' why why' (Refuses.banner draft taken is is_why) (Refuses.fails draft' taken' is' failing) = absurd (cc (is, is'))
refuses_one known readings end at at' why why' (Refuses.fails draft taken is failing) (Refuses.stops stop) = absurd (all_does_not_stop taken stop)
refuses_one known readings end at at' why why' (Refuses.fails draft taken is failing) (Refuses.banner draft' taken' is' is_why) = absurd (cc (is, is'))
refuses_one known readings end at at' why why' (Refuses.fails draft taken is failing) (Refuses.fails draft' taken' is' failing') =
    whole_is_one draft at at' why why' failing (rw (sym (all_is_one taken taken')) at failing')

pub refusals_same : (known : List (List ℕ)) (bytes : List ℕ) (line other : ℕ) (why why' : IosReason) → IsRefused known bytes line why → IsRefused known bytes other why' → (line ≡ other) × (why ≡ why')
refusals_same known bytes line other why why' first second =
    let x = is_refusal known bytes line why first in
    let y = is_refusal known bytes other why' second in
    let one = all_are_one (raw_lines bytes) x.readings y.readings x.end y.end x.all y.all in
    refuses_one known x.readings x.end line other why why' x.refuses (rw (one.same, one.same_end) y.refuses)

drafts_same : (known : List (List ℕ)) (bytes : List ℕ) (draft other : Draft) → AreTaken known bytes draft → AreTaken known bytes other → draft ≡ other
drafts_same known bytes draft other first second = all_is_one first.taken (rw (lines_are_one first.are_lines second.are_lines) second.taken)

pub routers_same : (known : List (List ℕ)) (bytes : List ℕ) (router other : Router) → Reads known bytes router → Reads known bytes other → router ≡ other
routers_same known bytes router other first second = first.is ∙ ap router_of (drafts_same known bytes first.draft second.draft first.taken second.taken) ∙ sym second.is

-- not refused where the end is none, all lines are taken, and the tests of the whole are passed
no_refusal : (known : List (List ℕ)) (readings : List Reading) (end : Option ℕ) (at : ℕ) (why : IosReason) (draft : Draft) → end ≡ None → TakesAll (no_lines known) readings draft
    → route_faults draft ≡ [] → dangling_entries draft ≡ [] → Refuses known readings end at why → ⊥
no_refusal known readings end at why draft none taken lead found (Refuses.stops stop) = all_does_not_stop taken stop
no_refusal known readings end at why draft none taken lead found (Refuses.banner draft' taken' is is_why) = cc (none, is)
no_refusal known readings end at why draft none taken lead found (Refuses.fails draft' taken' is failing) =
    passes_whole draft at why lead found (rw (sym (all_is_one taken taken')) at failing)

pub read_is_not_refused : (known : List (List ℕ)) (bytes : List ℕ) (router : Router) (line : ℕ) (why : IosReason) → Reads known bytes router → IsRefused known bytes line why → ⊥
read_is_not_refused known bytes router line why reads refused =
    let x = is_refusal known bytes line why refused in
    let one = all_are_one (raw_lines bytes) reads.taken.readings x.readings None x.end (AreAll.all_read reads.taken.are_lines) x.all in
    no_refusal known x.readings x.end line why reads.draft (sym one.same_end) (rw (sym one.same) reads.taken.taken) reads.lead reads.found x.refuses
