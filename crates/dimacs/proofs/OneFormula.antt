-- A text is one formula's, or is refused once.
use Rattle.std.proofs.Common.{◌≡◌, ℕ, List, [], ◌∷◌, ◌++◌, length, refl, sym, ap, ◌∙◌, append_assoc, append-nil}
use Rattle.std.specs.List.{flat_map}
use Rattle.std.proofs.lemmas.List.{map-append}
use Rattle.std.proofs.lemmas.List.Elements.{All-nil}
use Rattle.cnf.specs.declared.lit.Lit.{Lit}
use Rattle.cnf.specs.Clauses.{Formula}
use Rattle.certificates.specs.Parts.Entries.{IsWritableLit}
use Rattle.dimacs.specs.declared.fault.DimacsFault.{DimacsFault}
use Rattle.dimacs.specs.declared.fault.DimacsFault.TheVariants as fault
use Rattle.dimacs.specs.declared.fault.DimacsReason.{DimacsReason}
use Rattle.dimacs.specs.declared.fault.DimacsReason.TheVariants as reason
use Rattle.dimacs.specs.Words.{Placed, text_words, end_line, texts}
use Rattle.dimacs.specs.Text.{clause_words}
use Rattle.dimacs.specs.Reading.{AsksNothing, Fits, GoesOn, IsCounted, IsRefused, IsTextOf, Reads, Refuses, Stops, at, ends}
use Rattle.dimacs.proofs.ClauseWords.{clauses_are_one}
use Rattle.dimacs.proofs.Fronts.{same_head}
use Rattle.dimacs.proofs.Heads.{begins_texts}

-- what goes on goes on before its end, and where less is asked
goes_on_front : (Asks : ℕ → ℕ → List (List Lit) → Type 0) (front back : List (List ℕ)) → GoesOn Asks (front ++ back) → GoesOn Asks front
goes_on_front Asks front back goes = record {
  more = back ++ goes.more;
  vars = goes.vars;
  count = goes.count;
  clauses = goes.clauses;
  spells = rw (sym (append_assoc front back goes.more)) goes.spells;
  asked = goes.asked;
}

fits_counted : (words : List (List ℕ)) → GoesOn Fits words → GoesOn IsCounted words
fits_counted words goes = record { more = goes.more; vars = goes.vars; count = goes.count; clauses = goes.clauses; spells = goes.spells; asked = goes.asked.counted }

counted_any : (words : List (List ℕ)) → GoesOn IsCounted words → GoesOn AsksNothing words
counted_any words goes = record { more = goes.more; vars = goes.vars; count = goes.count; clauses = goes.clauses; spells = goes.spells; asked = tt }

text_goes_on : (words : List (List ℕ)) (formula : Formula) → IsTextOf words formula → GoesOn Fits words
text_goes_on words formula text = record {
  more = [];
  vars = formula.vars;
  count = length formula.clauses;
  clauses = formula.clauses;
  spells = rw (append-nil words) text.spells;
  asked = record { counted = refl; in_range = text.in_range };
}

no_text_stops : (why : DimacsReason) (words : List (List ℕ)) → Stops why words → GoesOn Fits words → ⊥
no_text_stops reason.Syntax words stops goes = stops (counted_any words (fits_counted words goes))
no_text_stops reason.TooMany words stops goes = stops.0 (fits_counted words goes)
no_text_stops reason.Variable words stops goes = stops.0 goes
no_text_stops reason.Incomplete words stops goes = stops

one_reason : (why why' : DimacsReason) (words : List (List ℕ)) → Stops why words → Stops why' words → why ≡ why'
one_reason reason.Syntax reason.Syntax words stops stops' = refl
one_reason reason.Syntax reason.TooMany words stops stops' = absurd (stops stops'.1)
one_reason reason.Syntax reason.Variable words stops stops' = absurd (stops (counted_any words stops'.1))
one_reason reason.TooMany reason.Syntax words stops stops' = absurd (stops' stops.1)
one_reason reason.TooMany reason.TooMany words stops stops' = refl
one_reason reason.TooMany reason.Variable words stops stops' = absurd (stops.0 stops'.1)
one_reason reason.Variable reason.Syntax words stops stops' = absurd (stops' (counted_any words stops.1))
one_reason reason.Variable reason.TooMany words stops stops' = absurd (stops'.0 stops.1)
one_reason reason.Variable reason.Variable words stops stops' = refl
one_reason reason.Incomplete why' words stops stops' = absurd stops
one_reason reason.Syntax reason.Incomplete words stops stops' = absurd stops'
one_reason reason.TooMany reason.Incomplete words stops stops' = absurd stops'
one_reason reason.Variable reason.Incomplete words stops stops' = absurd stops'

-- some reason there is
some_reason : (words : List (List ℕ)) → (GoesOn Fits words → ⊥) → ((why : DimacsReason) → Stops why words → ⊥) → ⊥
some_reason words no_fit none =
    none reason.Syntax (λ any. none reason.TooMany ((λ counted. none reason.Variable (no_fit, counted)), any))

-- the texts of words with one more
one_more : (before : List Placed) (word : Placed) → texts (before ++ word ∷ []) ≡ texts before ++ word.text ∷ []
one_more before word = map-append (λ (w : Placed). w.text) before (word ∷ [])

-- the first word with which no text goes on
record IsFirstBad (words front : List Placed) (bad : Placed) : Type 0 where
  behind : List Placed
  whole : words ≡ front ++ bad ∷ behind
  goes_on : GoesOn Fits (texts front)
  stops : GoesOn Fits (texts front ++ bad.text ∷ []) → ⊥

goes_on_past : (words front : List Placed) (bad : Placed) → IsFirstBad words front bad → GoesOn Fits (texts words) → ⊥
goes_on_past words front bad first goes =
    let whole : texts words ≡ (texts front ++ bad.text ∷ []) ++ texts first.behind =
    ap texts (first.whole ∙ sym (append_assoc front (bad ∷ []) first.behind)) ∙ map-append (λ (w : Placed). w.text) (front ++ bad ∷ []) first.behind
    ∙ ap (λ t. t ++ texts first.behind) (one_more front bad) in
    first.stops (goes_on_front Fits (texts front ++ bad.text ∷ []) (texts first.behind) (rw whole at goes))

-- two fronts of the same words: the same, or one of them goes on with the word behind the other
data Fronts (front : List Placed) (bad : Placed) (front' : List Placed) (bad' : Placed) : Type 0 where
  same : front ≡ front' → bad ≡ bad' → Fronts front bad front' bad'
  longer : (between : List Placed) → front' ≡ front ++ bad ∷ between → Fronts front bad front' bad'
  shorter : (between : List Placed) → front ≡ front' ++ bad' ∷ between → Fronts front bad front' bad'

fronts : (front front' behind behind' : List Placed) (bad bad' : Placed) → front ++ bad ∷ behind ≡ front' ++ bad' ∷ behind' → Fronts front bad front' bad'
fronts [] [] behind behind' bad bad' whole = same refl (cc)
fronts [] (l ∷ front') behind behind' bad bad' whole = let first : bad ≡ l = cc in longer front' (ap (λ w. w ∷ front') (sym first))
fronts (l ∷ front) [] behind behind' bad bad' whole = let first : bad' ≡ l = cc in shorter front (ap (λ w. w ∷ front) (sym first))
fronts (l ∷ front) (k ∷ front') behind behind' bad bad' whole =
    let first : l ≡ k = cc in
    let tails : front ++ bad ∷ behind ≡ front' ++ bad' ∷ behind' = cc in
    more_of l k first (fronts front front' behind behind' bad bad' tails)
  where
    more_of : (l k : Placed) → l ≡ k → Fronts front bad front' bad' → Fronts (l ∷ front) bad (k ∷ front') bad'
    more_of l k first (same f b) = same (cc) b
    more_of l k first (longer between f) = longer between (cc)
    more_of l k first (shorter between f) = shorter between (cc)

first_bad_is_one : (words front front' : List Placed) (bad bad' : Placed) → IsFirstBad words front bad → IsFirstBad words front' bad' → (front ≡ front') × (bad ≡ bad')
first_bad_is_one words front front' bad bad' first second =
    by_fronts (fronts front front' first.behind second.behind bad bad' (sym first.whole ∙ second.whole))
  where
    by_fronts : Fronts front bad front' bad' → (front ≡ front') × (bad ≡ bad')
    by_fronts (same f b) = (f, b)
    by_fronts (longer between f) = absurd (goes_on_past front' front bad (record { behind = between; whole = f; goes_on = first.goes_on; stops = first.stops }) second.goes_on)
    by_fronts (shorter between f) = absurd (goes_on_past front front' bad' (record { behind = between; whole = f; goes_on = second.goes_on; stops = second.stops }) first.goes_on)

bad_at : (words before after : List Placed) (word : Placed) (why : DimacsReason) → words ≡ before ++ word ∷ after → GoesOn Fits (texts before) → Stops why (texts before ++ word.text ∷ []) → IsFirstBad words before word
bad_at words before after word why whole goes stops = record { behind = after; whole = whole; goes_on = goes; stops = no_text_stops why (texts before ++ word.text ∷ []) stops }

-- a text is not refused
refused_is_no_text : (words : List Placed) (end line : ℕ) (why : DimacsReason) (formula : Formula) → IsRefused words end line why → IsTextOf (texts words) formula → ⊥
refused_is_no_text words end line why formula (at before after word whole goes stops here) text =
    goes_on_past words before word (bad_at words before after word why whole goes stops) (text_goes_on (texts words) formula text)
refused_is_no_text words end line why formula (ends goes none is here) text = none formula text

pub not_both : (bytes : List ℕ) (formula : Formula) (why : DimacsFault) → Reads bytes formula → Refuses bytes why → ⊥
not_both bytes formula (fault.At line why) reads refuses = refused_is_no_text (text_words bytes) (end_line bytes) line why formula refuses reads
not_both bytes formula fault.NoMemory reads refuses = refuses

-- and refused at one place for one reason
refused_once : (words : List Placed) (end line line' : ℕ) (why why' : DimacsReason) → IsRefused words end line why → IsRefused words end line' why' → (line ≡ line') × (why ≡ why')
refused_once words end line line' why why' (at before after word whole goes stops here) (at before' after' word' whole' goes' stops' here') =
    let ones = first_bad_is_one words before before' word word' (bad_at words before after word why whole goes stops) (bad_at words before' after' word' why' whole' goes' stops') in
    let same_texts : texts before ++ word.text ∷ [] ≡ texts before' ++ word'.text ∷ [] = ap (λ f. texts f ++ word.text ∷ []) ones.0 ∙ ap (λ (w : Placed). texts before' ++ w.text ∷ []) ones.1 in
    (here ∙ ap (λ (w : Placed). w.line) ones.1 ∙ sym here', one_reason why why' (texts before' ++ word'.text ∷ []) (rw same_texts at stops) stops')
refused_once words end line line' why why' (at before after word whole goes stops here) (ends goes' none' is' here') =
    absurd (goes_on_past words before word (bad_at words before after word why whole goes stops) goes')
refused_once words end line line' why why' (ends goes none is here) (at before' after' word' whole' goes' stops' here') =
    absurd (goes_on_past words before' word' (bad_at words before' after' word' why' whole' goes' stops') goes)
refused_once words end line line' why why' (ends goes none is here) (ends goes' none' is' here') = (here ∙ sym here', is ∙ sym is')

pub same_fault : (bytes : List ℕ) (first second : DimacsFault) → Refuses bytes first → Refuses bytes second → first ≡ second
same_fault bytes (fault.At line why) (fault.At line' why') refuses refuses' =
    let ones = refused_once (text_words bytes) (end_line bytes) line line' why why' refuses refuses' in
    ap (λ l. fault.At l why) ones.0 ∙ ap (λ w. fault.At line' w) ones.1
same_fault bytes (fault.At line why) fault.NoMemory refuses refuses' = absurd refuses'
same_fault bytes fault.NoMemory second refuses refuses' = absurd refuses

same_formula_of : (words : List (List ℕ)) (first second : Formula) → IsTextOf words first → IsTextOf words second → first ≡ second
same_formula_of words first second text text' =
    let s = text.spells in
    let s' = text'.spells in
    let parts = same_head first.vars second.vars (length first.clauses) (length second.clauses) (flat_map clause_words first.clauses) (flat_map clause_words second.clauses) s.vars_small s'.vars_small s.count_small s'.count_small (sym s.whole ∙ s'.whole) in
    let clauses = clauses_are_one first.clauses second.clauses [] s.writable (All-nil IsWritableLit) s'.writable (append-nil (flat_map clause_words first.clauses) ∙ parts.2) in
    let formula : ℕ → List (List Lit) → Formula = λ v c. record { vars = v; clauses = c } in
    ap (λ v. formula v first.clauses) parts.0 ∙ ap (λ c. formula second.vars c) clauses

pub same_formula : (bytes : List ℕ) (first second : Formula) → Reads bytes first → Reads bytes second → first ≡ second
same_formula bytes first second reads reads' = same_formula_of (texts (text_words bytes)) first second reads reads'

-- some text goes on with the words of each front, or one is refused
module _ (words : List Placed) (end : ℕ) (no_text : (formula : Formula) → IsTextOf (texts words) formula → ⊥) (no_refusal : (line : ℕ) (why : DimacsReason) → IsRefused words end line why → ⊥) where
  from_front : (before after : List Placed) → words ≡ before ++ after → GoesOn Fits (texts before) → ⊥
  from_front before [] whole goes =
      let all : words ≡ before = whole ∙ append-nil before in
      no_refusal end reason.Incomplete (ends (rw all goes) no_text refl refl)
  from_front before (word ∷ after) whole goes =
      some_reason (texts before ++ word.text ∷ [])
      (λ more. from_front (before ++ word ∷ []) after (whole ∙ sym (append_assoc before (word ∷ []) after)) (rw (one_more before word) more))
      (λ why stops. no_refusal word.line why (at before after word whole goes stops refl))

pub not_neither : (bytes : List ℕ) → ((formula : Formula) → Reads bytes formula → ⊥) → ((why : DimacsFault) → Refuses bytes why → ⊥) → ⊥
not_neither bytes no_text no_fault =
    from_front (text_words bytes) (end_line bytes) no_text (λ line why refused. no_fault (fault.At line why) refused) [] (text_words bytes) refl begins_texts
