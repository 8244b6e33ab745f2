-- A line stops at one word.
use Rattle.std.proofs.Common.{◌≡◌, ℕ, Bool, false, List, [], ◌∷◌, ◌++◌, refl, sym, subst, ◌∙◌, append_assoc}
use Rattle.std.proofs.lemmas.Bool.Decides.{same_from_decides}
use Rattle.std.proofs.lemmas.List.{append-nil}
use Rattle.ios_lex.specs.Phrases.{Words}
use Rattle.ios_lex.specs.Following.{Begins, Expected, IsExpected, StopsAt}

-- a whole line begins one
pub begins_whole : (Kind : Words → Type 0) (words : Words) → Kind words → Begins Kind words
begins_whole Kind words whole = ([], rw (append-nil words) whole)

-- what begins a line begins it with each of its own beginnings
pub begins_from_longer : (Kind : Words → Type 0) (front more : Words) → Begins Kind (front ++ more) → Begins Kind front
begins_from_longer Kind front more begins = (more ++ begins.0, subst Kind (append_assoc front more begins.0) begins.1)

-- of two places in the words, the first lies before the second, or behind it, or is the same
data Compared (f f' : Words) (w w' : List ℕ) : Type 0 where
  here : f ≡ f' → w ≡ w' → Compared f f' w w'
  before : (k : Words) → f' ≡ f ++ w ∷ k → Compared f f' w w'
  behind : (k : Words) → f ≡ f' ++ w' ∷ k → Compared f f' w w'

compared : (f f' m m' : Words) (w w' : List ℕ) → f ++ w ∷ m ≡ f' ++ w' ∷ m' → Compared f f' w w'
compared [] [] m m' w w' e = Compared.here refl (cc)
compared [] (x ∷ f') m m' w w' e = Compared.before f' (cc)
compared (x ∷ f) [] m m' w w' e = Compared.behind f (cc)
compared (x ∷ f) (y ∷ f') m m' w w' e = more (compared f f' m m' w w' (cc))
  where
    first : x ≡ y
    first = cc

    more : Compared f f' w w' → Compared (x ∷ f) (y ∷ f') w w'
    more (Compared.here s t) = Compared.here (cc) t
    more (Compared.before k s) = Compared.before k (cc)
    more (Compared.behind k s) = Compared.behind k (cc)

-- nothing that begins a line goes on from where it stops
pub no_begins_behind_stop : {Named : List ℕ → Type 0} (Line : Bool → Words → Type 0) (front words more : Words) (word : List ℕ) (due : Expected) (over : Bool)
    → StopsAt Named Line front word due over → words ≡ front ++ word ∷ more → Begins (Line false) words → ⊥
no_begins_behind_stop Line front words more word due over stop whole begins =
    let e : words ≡ (front ++ word ∷ []) ++ more = whole ∙ sym (append_assoc front (word ∷ []) more) in
    stop.stops (begins_from_longer (Line false) (front ++ word ∷ []) more (rw e at begins))

-- what is due is one thing
pub expected_is_one : {Named : List ℕ → Type 0} (Kind : Words → Type 0) (front : Words) (d d' : Expected) → IsExpected Named Kind front d → IsExpected Named Kind front d' → d ≡ d'
expected_is_one Kind front d d' x y = λ i. record {
  address = same_from_decides d.address d'.address x.address y.address i;
  number = same_from_decides d.number d'.number x.number y.number i;
  name = same_from_decides d.name d'.name x.name y.name i;
  whole = same_from_decides d.whole d'.whole x.whole y.whole i;
}

pub record SameStop (front front' : Words) (word word' : List ℕ) (due due' : Expected) (over over' : Bool) : Type 0 where
  pub front_same : front ≡ front'
  pub word_same : word ≡ word'
  pub due_same : due ≡ due'
  pub over_same : over ≡ over'

-- a line stops at one word, where one thing is due
pub stop_is_one : {Named : List ℕ → Type 0} (Line : Bool → Words → Type 0) (front front' more more' : Words) (word word' : List ℕ) (due due' : Expected) (over over' : Bool)
    → front ++ word ∷ more ≡ front' ++ word' ∷ more' → StopsAt Named Line front word due over → StopsAt Named Line front' word' due' over'
    → SameStop front front' word word' due due' over over'
stop_is_one {Named = Named} Line f f' m m' w w' due due' over over' whole x y = go (compared f f' m m' w w' whole)
  where
    go : Compared f f' w w' → SameStop f f' w w' due due' over over'
    go (Compared.here s t) =
        let z : StopsAt Named Line f w due' over' = rw (s, t) y in
        record {
          front_same = s;
          word_same = t;
          due_same = expected_is_one (Line false) f due due' x.expected z.expected;
          over_same = same_from_decides over over' x.lax z.lax;
        }
    go (Compared.before k s) = absurd (no_begins_behind_stop Line f f' k w due over x s y.begins)
    go (Compared.behind k s) = absurd (no_begins_behind_stop Line f' f k w' due' over' y s x.begins)
