-- From where a part of a line stops to where the line does.
use Rattle.std.proofs.Common.{◌≡◌, ◌⊎◌, inl, inr, ◌↔◌, ℕ, ◌<◌, Bool, true, false, List, [], ◌∷◌, ◌++◌, length, refl, append_assoc, arith}
use Rattle.std.proofs.lemmas.List.{append-nil}
use Rattle.ios_lex.specs.declared.stop.Due.{Due}
use Rattle.ios_lex.specs.declared.stop.Stop.{Stop}
use Rattle.ios_lex.specs.Phrases.{Words}
use Rattle.ios_lex.specs.Following.{Begins, MayFollow, IsAddressWord, IsNumberWord}
use Rattle.ios_lex.specs.Stops as specs
use Rattle.ios_lex.specs.Stops.{expected_of, LacksFirst, StopsBefore, IsStop}
use Rattle.ios_lex.proofs.Equivalences.{iff_sym, iff_trans, iff_both, iff_neither}
use Rattle.ios_lex.proofs.Fronts.{front_behind, append_none}

-- no words of the kind go on from words of the kind
abbrev pub IsPrefixFree : (Words → Type 0) → Type 0
IsPrefixFree Kind = (words more : Words) → Kind words → Kind (words ++ more) → more ≡ []

-- the words of a line begin with some of the part, and all of the part begin a line
pub record IsFirstPart (Part Line : Words → Type 0) : Type 0 where
  pub goes_on : (words : Words) → Part words → Begins Line words
  pub splits : (words : Words) → Line words → (front : Words) × (back : Words) × (words ≡ front ++ back) × Part front

-- a line is some of the part and what stands behind it, or it is of the other kind, which begins with other words
pub record IsOptionalPart (Part Other Line : Words → Type 0) : Type 0 where
  pub goes_on : (words : Words) → Part words → Begins Line words
  pub without : (words : Words) → Other words → Line words
  pub splits : (words : Words) → Line words → Other words ⊎ ((front : Words) × (back : Words) × (words ≡ front ++ back) × Part front)
  pub apart : (word : List ℕ) → Begins Part (word ∷ []) → Begins Other (word ∷ []) → ⊥
  pub some : Part [] → ⊥

-- a stop before the first of the words
pub stop_first : {Named : List ℕ → Type 0} (Line : Bool → Words → Type 0) (words : Words) (stop : Stop) → stop.left ≡ length words → StopsBefore Named Line [] stop.due words → IsStop Named Line words stop
stop_first Line words stop left stops = record { front = []; back = words; whole = refl; left = left; stops = stops }

-- words of a kind begin with words behind which the rest is of another kind
begins_behind : (Line Rest : Words → Type 0) (part : Words) → ((x : Words) → Line (part ++ x) ↔ Rest x) → (front : Words) → Begins Line (part ++ front) ↔ Begins Rest front
begins_behind Line Rest part same front =
    (λ h. (h.0, (same (front ++ h.0)).0 (rw append_assoc at h.1)), λ h. (h.0, rw append_assoc ((same (front ++ h.0)).1 h.1)))

may_follow_behind : (Line Rest : Words → Type 0) (part : Words) → ((x : Words) → Line (part ++ x) ↔ Rest x) → (front : Words) (Form : List ℕ → Type 0) → MayFollow Line (part ++ front) Form ↔ MayFollow Rest front Form
may_follow_behind Line Rest part same front Form = (
  λ h. (h.0, h.1, (begins_behind Line Rest part same (front ++ h.0 ∷ [])).0 (rw append_assoc at h.2)),
  λ h. (h.0, h.1, rw append_assoc ((begins_behind Line Rest part same (front ++ h.0 ∷ [])).1 h.2)),
)

begins_of : {Named : List ℕ → Type 0} (Line : Bool → Words → Type 0) (front back : Words) (due : Due) → StopsBefore Named Line front due back → Begins (Line false) front
begins_of Line front back due (specs.short begins none) = begins
begins_of Line front back due (specs.word w ws stops) = stops.begins

stops_behind : {Named : List ℕ → Type 0} (Line Rest : Bool → Words → Type 0) (part front back : Words) (due : Due)
    → ((b : Bool) (x : Words) → Line b (part ++ x) ↔ Rest b x) → StopsBefore Named Rest front due back → StopsBefore Named Line (part ++ front) due back
stops_behind {Named = Named} Line Rest part front back due same (specs.short begins none) = specs.short ((begins_behind (Line false) (Rest false) part (same false) front).1 begins) (λ whole. none ((same false front).0 whole))
stops_behind {Named = Named} Line Rest part front back due same (specs.word w ws stops) = specs.word w ws (record {
  begins = (begins_behind (Line false) (Rest false) part (same false) front).1 stops.begins;
  stops = λ h. stops.stops ((begins_behind (Line false) (Rest false) part (same false) (front ++ w ∷ [])).0 (rw append_assoc at h));
  expected = record {
    address = iff_trans stops.expected.address (iff_sym (may_follow_behind (Line false) (Rest false) part (same false) front IsAddressWord));
    number = iff_trans stops.expected.number (iff_sym (may_follow_behind (Line false) (Rest false) part (same false) front IsNumberWord));
    name = iff_trans stops.expected.name (iff_both (iff_sym (same false front)) (iff_sym (may_follow_behind (Line false) (Rest false) part (same false) front Named)));
    whole = iff_trans stops.expected.whole (iff_sym (same false front));
  };
  lax = iff_trans stops.lax (iff_sym (rw (append_assoc part front (w ∷ [])) (begins_behind (Line true) (Rest true) part (same true) (front ++ w ∷ []))));
})

-- a stop behind words after which a line is what the rest is
pub stop_behind : {Named : List ℕ → Type 0} (Line Rest : Bool → Words → Type 0) (words part rest : Words) (stop : Stop) → words ≡ part ++ rest
    → ((b : Bool) (x : Words) → Line b (part ++ x) ↔ Rest b x) → IsStop Named Rest rest stop → IsStop Named Line words stop
stop_behind Line Rest words part rest stop whole same stops = record {
  front = part ++ stops.front;
  back = stops.back;
  whole = rw (whole, stops.whole, append_assoc) refl;
  left = stops.left;
  stops = stops_behind Line Rest part stops.front stops.back stop.due same stops.stops;
}

-- whatever a line goes on with behind these words, it begins with some of the part
abbrev Splits : (Words → Type 0) → (Words → Type 0) → Words → Type 0
Splits Part Line front = (more : Words) → Line (front ++ more) → (first : Words) × (rest : Words) × (front ++ more ≡ first ++ rest) × Part first

begins_line : (Part Line : Words → Type 0) → ((words : Words) → Part words → Begins Line words) → (front : Words) → Begins Part front → Begins Line front
begins_line Part Line goes_on front begins =
    let line = goes_on (front ++ begins.0) begins.1 in (begins.0 ++ line.0, rw append_assoc at line.1)

-- where words go on to some of the part and are none yet, no words before are some of it
no_part_before : (Part : Words → Type 0) (front part between : Words) → IsPrefixFree Part → Begins Part front → (Part front → ⊥) → front ≡ part ++ between → Part part → ⊥
no_part_before Part front part between free begins none same is =
    let goes_on : Part (part ++ (between ++ begins.0)) = rw append_assoc at (rw same at begins.1) in
    let ends = append_none between begins.0 (free part (between ++ begins.0) is goes_on) in
    none (rw (same, ends.0, append-nil part) is)

begins_part : (Part Line : Words → Type 0) (front : Words) (word : List ℕ) → IsPrefixFree Part → Splits Part Line front → Begins Part front → (Part front → ⊥)
    → Begins Line (front ++ word ∷ []) → Begins Part (front ++ word ∷ [])
begins_part Part Line front word free splits begins none line = by (splits (word ∷ line.0) (rw append_assoc at line.1))
  where
    by : (first : Words) × (rest : Words) × (front ++ word ∷ line.0 ≡ first ++ rest) × Part first → Begins Part (front ++ word ∷ [])
    by (first, rest, same, is) = cut (front_behind front word line.0 first rest same)
      where
        cut : ((between : Words) × (first ≡ (front ++ word ∷ []) ++ between)) ⊎ ((between : Words) × (front ≡ first ++ between)) → Begins Part (front ++ word ∷ [])
        cut (inl h) = (h.0, rw h.1 at is)
        cut (inr h) = absurd (no_part_before Part front first h.0 free begins none h.1 is)

no_line : (Part Line : Words → Type 0) (front : Words) → IsPrefixFree Part → Splits Part Line front → Begins Part front → (Part front → ⊥) → Line front → ⊥
no_line Part Line front free splits begins none line =
    let split = splits [] (rw (append-nil front) line) in
    no_part_before Part front split.0 split.1 free begins none (rw (append-nil front) at split.2) split.3

-- the larger kind has no whole words here either
none_larger : (Part Larger : Words → Type 0) (front : Words) → IsPrefixFree Larger → ((x : Words) → Part x → Larger x) → Begins Part front → (Part front → ⊥) → Larger front → ⊥
none_larger Part Larger front free more begins none is =
    let ends = free front begins.0 is (more (front ++ begins.0) begins.1) in
    none (rw (append-nil front) at (rw ends at begins.1))

may_follow_part : (Part Line : Words → Type 0) (front : Words) (Form : List ℕ → Type 0) → IsPrefixFree Part → ((words : Words) → Part words → Begins Line words) → Splits Part Line front
    → Begins Part front → (Part front → ⊥) → MayFollow Part front Form ↔ MayFollow Line front Form
may_follow_part Part Line front Form free goes_on splits begins none =
    (λ h. (h.0, h.1, begins_line Part Line goes_on (front ++ h.0 ∷ []) h.2), λ h. (h.0, h.1, begins_part Part Line front h.0 free splits begins none h.2))

-- a stop within a part with which the line begins
stops_within : {Named : List ℕ → Type 0} (Part Line : Bool → Words → Type 0) (front back : Words) (due : Due) → ((b : Bool) (words : Words) → Part b words → Begins (Line b) words) → ((b : Bool) → Splits (Part b) (Line b) front)
    → ((b : Bool) → IsPrefixFree (Part b)) → ((x : Words) → Part false x → Part true x) → (expected_of due).whole ≡ false
    → StopsBefore Named Part front due back → StopsBefore Named Line front due back
stops_within {Named = Named} Part Line front back due goes_on splits free more part (specs.short begins none) =
    specs.short (begins_line (Part false) (Line false) (goes_on false) front begins) (no_line (Part false) (Line false) front (free false) (splits false) begins none)
stops_within {Named = Named} Part Line front back due goes_on splits free more part (specs.word w ws stops) =
    let none : Part false front → ⊥ = λ whole. let is = stops.expected.whole.1 whole in cc in
    let no_whole = no_line (Part false) (Line false) front (free false) (splits false) stops.begins none in
    let follows : (Form : List ℕ → Type 0) → MayFollow (Part false) front Form ↔ MayFollow (Line false) front Form =
    λ Form. may_follow_part (Part false) (Line false) front Form (free false) (goes_on false) (splits false) stops.begins none in
    let larger : Begins (Part true) front = (stops.begins.0, more (front ++ stops.begins.0) stops.begins.1) in
    let none_there = none_larger (Part false) (Part true) front (free true) more stops.begins none in
    specs.word w ws (record {
      begins = begins_line (Part false) (Line false) (goes_on false) front stops.begins;
      stops = λ h. stops.stops (begins_part (Part false) (Line false) front w (free false) (splits false) stops.begins none h);
      expected = record {
        address = iff_trans stops.expected.address (follows IsAddressWord);
        number = iff_trans stops.expected.number (follows IsNumberWord);
        name = iff_trans stops.expected.name (iff_both (iff_neither none no_whole) (follows Named));
        whole = iff_trans stops.expected.whole (iff_neither none no_whole);
      };
      lax = iff_trans stops.lax (
        λ h. begins_line (Part true) (Line true) (goes_on true) (front ++ w ∷ []) h,
        λ h. begins_part (Part true) (Line true) front w (free true) (splits true) larger none_there h,
      );
    })

-- a stop within the first part of a line
pub stop_within : {Named : List ℕ → Type 0} (Part Line : Bool → Words → Type 0) (words : Words) (stop : Stop)
    → ((b : Bool) → IsFirstPart (Part b) (Line b)) → ((b : Bool) → IsPrefixFree (Part b)) → ((x : Words) → Part false x → Part true x)
    → (expected_of stop.due).whole ≡ false → IsStop Named Part words stop → IsStop Named Line words stop
stop_within Part Line words stop first free more part stops = record {
  front = stops.front;
  back = stops.back;
  whole = stops.whole;
  left = stops.left;
  stops = stops_within Part Line stops.front stops.back stop.due (λ b. (first b).goes_on) (λ b x. (first b).splits (stops.front ++ x)) free more part stops.stops;
}

-- words that begin with the first of the part are none of the other kind
splits_optional : (Part Other Line : Words → Type 0) (first : List ℕ) (front : Words) → IsOptionalPart Part Other Line → Begins Part (first ∷ front) → Splits Part Line (first ∷ front)
splits_optional Part Other Line first front optional begins more line = by (optional.splits ((first ∷ front) ++ more) line)
  where
    by : Other ((first ∷ front) ++ more) ⊎ ((part : Words) × (rest : Words) × ((first ∷ front) ++ more ≡ part ++ rest) × Part part)
        → (part : Words) × (rest : Words) × ((first ∷ front) ++ more ≡ part ++ rest) × Part part
    by (inl other) = absurd (optional.apart first (front ++ begins.0, begins.1) (front ++ more, other))
    by (inr split) = split

stops_within_optional : {Named : List ℕ → Type 0} (Part Other Line : Bool → Words → Type 0) (front back : Words) (due : Due)
    → ((b : Bool) → IsOptionalPart (Part b) (Other b) (Line b)) → ((b : Bool) → IsPrefixFree (Part b)) → ((x : Words) → Part false x → Part true x)
    → (expected_of due).whole ≡ false → length back < length (front ++ back) → StopsBefore Named Part front due back → StopsBefore Named Line front due back
stops_within_optional Part Other Line [] back due optional free more part later stops = absurd (omega arith)
stops_within_optional Part Other Line (first ∷ front) back due optional free more part later stops =
    stops_within Part Line (first ∷ front) back due (λ b. (optional b).goes_on) splits free more part stops
  where
    begins : (b : Bool) → Begins (Part b) (first ∷ front)
    begins false = begins_of Part (first ∷ front) back due stops
    begins true = let h = begins_of Part (first ∷ front) back due stops in (h.0, more ((first ∷ front) ++ h.0) h.1)

    splits : (b : Bool) → Splits (Part b) (Line b) (first ∷ front)
    splits b = splits_optional (Part b) (Other b) (Line b) first front (optional b) (begins b)

-- a stop within a part that may be left out, behind its first word
pub stop_within_optional : {Named : List ℕ → Type 0} (Part Other Line : Bool → Words → Type 0) (words : Words) (stop : Stop)
    → ((b : Bool) → IsOptionalPart (Part b) (Other b) (Line b)) → ((b : Bool) → IsPrefixFree (Part b)) → ((x : Words) → Part false x → Part true x)
    → (expected_of stop.due).whole ≡ false → stop.left < length words → IsStop Named Part words stop → IsStop Named Line words stop
stop_within_optional Part Other Line words stop first free more part later stops = record {
  front = stops.front;
  back = stops.back;
  whole = stops.whole;
  left = stops.left;
  stops = stops_within_optional Part Other Line stops.front stops.back stop.due first free more part (rw (stops.left, stops.whole) at later) stops.stops;
}

-- a line that begins with no first word of the part is of the other kind
other_of : (Part Other Line : Words → Type 0) (words : Words) → IsOptionalPart Part Other Line → LacksFirst Part words → Line words → Other words
other_of Part Other Line words optional lacks line = by (optional.splits words line)
  where
    by : Other words ⊎ ((front : Words) × (back : Words) × (words ≡ front ++ back) × Part front) → Other words
    by (inl other) = other
    by (inr ([], back, same, is)) = absurd (optional.some is)
    by (inr (first ∷ front, back, same, is)) = absurd (lacks first (front ++ back) same (front, is))

-- words that begin none of a larger kind begin none of the part
pub lacks_less : (Part Larger : Words → Type 0) (words : Words) → ((x : Words) → Part x → Larger x) → LacksFirst Larger words → LacksFirst Part words
lacks_less Part Larger words more lacks first rest same begins = lacks first rest same (begins.0, more (first ∷ begins.0) begins.1)

-- only the first word counts
lacks_same : (Part : Words → Type 0) (first : List ℕ) (back more : Words) → LacksFirst Part (first ∷ back) → LacksFirst Part (first ∷ more)
lacks_same Part first back more lacks word rest same begins = let is : first ≡ word = cc in lacks first back refl (rw is begins)

lacks_front : (Part : Words → Type 0) (front back more : Words) → LacksFirst Part (front ++ back) → LacksFirst Part more → LacksFirst Part (front ++ more)
lacks_front Part [] back more lacks lacks_more = lacks_more
lacks_front Part (x ∷ xs) back more lacks lacks_more = lacks_same Part x (xs ++ back) (xs ++ more) lacks

lacks_first : (Part : Words → Type 0) (word : List ℕ) (more : Words) → (Begins Part (word ∷ []) → ⊥) → LacksFirst Part (word ∷ more)
lacks_first Part word more none first rest same begins = let is : word ≡ first = cc in none (rw is begins)

lacks_whole : (Part : Words → Type 0) (front back : Words) → LacksFirst Part (front ++ back) → LacksFirst Part front
lacks_whole Part front back lacks = rw (append-nil front) at (lacks_front Part front back [] lacks (λ first rest same begins. cc))

lacks_word : (Part : Words → Type 0) (front back : Words) (word : List ℕ) (more : Words) → LacksFirst Part (front ++ word ∷ back) → LacksFirst Part (front ++ word ∷ more)
lacks_word Part [] back word more lacks = lacks_same Part word back more lacks
lacks_word Part (x ∷ xs) back word more lacks = lacks_same Part x (xs ++ word ∷ back) (xs ++ word ∷ more) lacks

-- a line begins with these words where words of the other kind do
begins_other : (Part Other Line : Words → Type 0) (front : Words) (word : List ℕ) → IsOptionalPart Part Other Line → ((more : Words) → LacksFirst Part (front ++ word ∷ more))
    → Begins Other (front ++ word ∷ []) ↔ Begins Line (front ++ word ∷ [])
begins_other Part Other Line front word optional lacks = (
  λ h. (h.0, optional.without ((front ++ word ∷ []) ++ h.0) h.1),
  λ h. (h.0, other_of Part Other Line ((front ++ word ∷ []) ++ h.0) optional (rw append_assoc (lacks h.0)) h.1),
)

may_follow_other : (Part Other Line : Words → Type 0) (front : Words) (Form : List ℕ → Type 0) → IsOptionalPart Part Other Line
    → ((word : List ℕ) (more : Words) → Form word → LacksFirst Part (front ++ word ∷ more)) → MayFollow Other front Form ↔ MayFollow Line front Form
may_follow_other Part Other Line front Form optional lacks = (
  λ h. (h.0, h.1, (begins_other Part Other Line front h.0 optional (λ more. lacks h.0 more h.1)).0 h.2),
  λ h. (h.0, h.1, (begins_other Part Other Line front h.0 optional (λ more. lacks h.0 more h.1)).1 h.2),
)

stops_without : {Named : List ℕ → Type 0} (Part Other Line : Bool → Words → Type 0) (front back : Words) (due : Due)
    → ((b : Bool) → IsOptionalPart (Part b) (Other b) (Line b)) → ((x : Words) → Part false x → Part true x) → LacksFirst (Part true) (front ++ back)
    → ((word : List ℕ) → IsAddressWord word ⊎ IsNumberWord word ⊎ Named word → Begins (Part false) (word ∷ []) → ⊥)
    → StopsBefore Named Other front due back → StopsBefore Named Line front due back
stops_without {Named = Named} Part Other Line front back due optional more lacks forms (specs.short begins none) =
    let lacks_here = lacks_less (Part false) (Part true) front more (lacks_whole (Part true) front back lacks) in
    specs.short (begins.0, (optional false).without (front ++ begins.0) begins.1) (λ line. none (other_of (Part false) (Other false) (Line false) front (optional false) lacks_here line))
stops_without {Named = Named} Part Other Line front back due optional more lacks forms (specs.word w ws stops) =
    let lacks_here = lacks_less (Part false) (Part true) front more (lacks_whole (Part true) front (w ∷ ws) lacks) in
    let lacks_larger : (x : Words) → LacksFirst (Part true) (front ++ w ∷ x) = λ x. lacks_word (Part true) front ws w x lacks in
    let lacks_part : (x : Words) → LacksFirst (Part false) (front ++ w ∷ x) = λ x. lacks_less (Part false) (Part true) (front ++ w ∷ x) more (lacks_larger x) in
    let whole : Other false front ↔ Line false front = ((optional false).without front, other_of (Part false) (Other false) (Line false) front (optional false) lacks_here) in
    let follows : (Form : List ℕ → Type 0) → ((word : List ℕ) → Form word → Begins (Part false) (word ∷ []) → ⊥) → MayFollow (Other false) front Form ↔ MayFollow (Line false) front Form =
    λ Form form. may_follow_other (Part false) (Other false) (Line false) front Form (optional false) (λ v x is. lacks_front (Part false) front [] (v ∷ x) (rw (append-nil front) lacks_here) (lacks_first (Part false) v x (form v is))) in
    specs.word w ws (record {
      begins = (stops.begins.0, (optional false).without (front ++ stops.begins.0) stops.begins.1);
      stops = λ h. stops.stops ((begins_other (Part false) (Other false) (Line false) front w (optional false) lacks_part).1 h);
      expected = record {
        address = iff_trans stops.expected.address (follows IsAddressWord (λ v is. forms v (inl is)));
        number = iff_trans stops.expected.number (follows IsNumberWord (λ v is. forms v (inr (inl is))));
        name = iff_trans stops.expected.name (iff_both whole (follows Named (λ v is. forms v (inr (inr is)))));
        whole = iff_trans stops.expected.whole whole;
      };
      lax = iff_trans stops.lax (begins_other (Part true) (Other true) (Line true) front w (optional true) lacks_larger);
    })

-- a stop where a part is left out
pub stop_without : {Named : List ℕ → Type 0} (Part Other Line : Bool → Words → Type 0) (words : Words) (stop : Stop)
    → ((b : Bool) → IsOptionalPart (Part b) (Other b) (Line b)) → ((x : Words) → Part false x → Part true x)
    → ((word : List ℕ) (more : Words) → words ≡ word ∷ more → Begins (Part true) (word ∷ []) → ⊥)
    → ((word : List ℕ) → IsAddressWord word ⊎ IsNumberWord word ⊎ Named word → Begins (Part false) (word ∷ []) → ⊥)
    → IsStop Named Other words stop → IsStop Named Line words stop
stop_without Part Other Line words stop first more lacks forms stops = record {
  front = stops.front;
  back = stops.back;
  whole = stops.whole;
  left = stops.left;
  stops = stops_without Part Other Line stops.front stops.back stop.due first more (rw stops.whole at lacks) forms stops.stops;
}

-- before the end of a line no name is due, so the table of names makes no difference
pub stop_in_any_names : {Named Other : List ℕ → Type 0} (Line : Bool → Words → Type 0) (words : Words) (stop : Stop) → (expected_of stop.due).whole ≡ false
    → IsStop Named Line words stop → IsStop Other Line words stop
stop_in_any_names {Named = Named} {Other = Other} Line words stop partly is =
    record { front = is.front; back = is.back; whole = is.whole; left = is.left; stops = by is.front is.back is.stops }
  where
    by : (front back : Words) → StopsBefore Named Line front stop.due back → StopsBefore Other Line front stop.due back
    by front [] (specs.short begins none) = specs.short begins none
    by front (w ∷ ws) (specs.word _ _ stops) =
        let none : Line false front → ⊥ = λ whole. let ends = stops.expected.whole.1 whole in cc (ends, partly) in
        specs.word w ws (record {
          begins = stops.begins;
          stops = stops.stops;
          expected = record {
            address = stops.expected.address;
            number = stops.expected.number;
            name = (λ name. absurd (none (stops.expected.name.0 name).0), λ name. absurd (none name.0));
            whole = stops.expected.whole;
          };
          lax = stops.lax;
        })
