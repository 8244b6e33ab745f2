-- The places of which nothing is settled, one after another evaluated again.
use Rattle.std.proofs.Common.{◌≡◌, ℕ, ◌+◌, ◌<◌, ◌≤◌, not, Bool, false, Option, Some, None, List, [], ◌∷◌, ◌++◌, length, get_or, is_some, true, set, suc, drop, take, refl, sym, ap, ap₂, subst, ◌∙◌, ◌⊎◌, inl, inr, arith, append_assoc, append-nil}
use Rattle.std.specs.Option.{option_map}
use Rattle.std.specs.List.{AllByRecursion, AllZip}
use Rattle.std.proofs.Math.Seq.{drop-cons}
use Rattle.std.proofs.lemmas.Bool.{cases_lt, cases_order}
use Rattle.std.proofs.lemmas.List.{ext_get_or, get_or-set_same, get_or-set_other, get_or_append_left, length-set, length-take-le, take-append-drop}
use Rattle.std.proofs.lemmas.List.Elements.{AllZip-get_or, length_all_zip}
use Rattle.circuit.specs.declared.gate.Gate.{Gate}
use Rattle.circuit.specs.declared.gate.Gate.TheVariants as gate
use Rattle.circuit.specs.Value.{IsCircuit, parts_of}
use Rattle.circuit.specs.Settled.{HasUnsettled, IsAmong, IsRising, StaysSettled, settled, settled_all, settled_and, settled_any, settled_at, settled_ite, settled_or, settled_value}
use Rattle.circuit.proofs.Below.{below-weaker}
use Rattle.circuit.proofs.Settling.{length-settled, settled-append, settled_entry}

-- ---- rising places
pub rising_push : (places : List ℕ) (n : ℕ) → AllByRecursion (λ k. k < n) places → IsRising places → IsRising (places ++ n ∷ [])
rising_push [] n below rising = (tt, tt)
rising_push (first ∷ rest) n below rising = (each rest n rising.0 below.0, rising_push rest n below.1 rising.1)
  where
    each : (rest : List ℕ) (n : ℕ) → AllByRecursion (λ later. first < later) rest → first < n → AllByRecursion (λ later. first < later) (rest ++ n ∷ [])
    each [] n all less = (less, tt)
    each (next ∷ rest) n all less = (all.0, each rest n all.1 less)

pub among_push : (place : ℕ) (places more : List ℕ) → IsAmong place places → IsAmong place (places ++ more)
among_push place [] more is = absurd is
among_push place (first ∷ rest) more (inl same) = inl same
among_push place (first ∷ rest) more (inr is) = inr (among_push place rest more is)

pub among_last : (place : ℕ) (places : List ℕ) → IsAmong place (places ++ place ∷ [])
among_last place [] = inl refl
among_last place (first ∷ rest) = inr (among_last place rest)

is_above : (first place : ℕ) (rest : List ℕ) → AllByRecursion (λ later. first < later) rest → IsAmong place rest → first < place
is_above first place [] all is = absurd is
is_above first place (next ∷ rest) all (inl same) = omega (arith, all.0, same)
is_above first place (next ∷ rest) all (inr is) = is_above first place rest all.1 is

rising_from : (front : List ℕ) (place : ℕ) (rest : List ℕ) → IsRising (front ++ place ∷ rest) → AllByRecursion (λ later. place < later) rest
rising_from [] place rest rising = rising.0
rising_from (first ∷ front) place rest rising = rising_from front place rest rising.1

all_at : (P : ℕ → Type 0) (front : List ℕ) (place : ℕ) (rest : List ℕ) → AllByRecursion P (front ++ place ∷ rest) → P place
all_at P [] place rest all = all.0
all_at P (first ∷ front) place rest all = all_at P front place rest all.1

all_without : (P : ℕ → Type 0) (front : List ℕ) (place : ℕ) (rest : List ℕ) → AllByRecursion P (front ++ place ∷ rest) → AllByRecursion P (front ++ rest)
all_without P [] place rest all = all.1
all_without P (first ∷ front) place rest all = (all.0, all_without P front place rest all.1)

rising_without : (front : List ℕ) (place : ℕ) (rest : List ℕ) → IsRising (front ++ place ∷ rest) → IsRising (front ++ rest)
rising_without [] place rest rising = rising.1
rising_without (first ∷ front) place rest rising = (all_without (λ later. first < later) front place rest rising.0, rising_without front place rest rising.1)

among_without : (other : ℕ) (front : List ℕ) (place : ℕ) (rest : List ℕ) → (other ≡ place → ⊥) → IsAmong other (front ++ place ∷ rest) → IsAmong other (front ++ rest)
among_without other [] place rest apart (inl same) = absurd (apart same)
among_without other [] place rest apart (inr is) = is
among_without other (first ∷ front) place rest apart (inl same) = inl same
among_without other (first ∷ front) place rest apart (inr is) = inr (among_without other front place rest apart is)

-- ---- a gate needs only its parts
alike-all : (one other : ℕ → Option Bool) (parts : List ℕ) → AllByRecursion (λ k. one k ≡ other k) parts → settled_all one parts ≡ settled_all other parts
alike-all one other [] all = refl
alike-all one other (part ∷ parts) all = ap₂ settled_and all.0 (alike-all one other parts all.1)

alike-any : (one other : ℕ → Option Bool) (parts : List ℕ) → AllByRecursion (λ k. one k ≡ other k) parts → settled_any one parts ≡ settled_any other parts
alike-any one other [] all = refl
alike-any one other (part ∷ parts) all = ap₂ settled_or all.0 (alike-any one other parts all.1)

alike-gate : (chosen : List Bool) (one other : List (Option Bool)) (g : Gate) → AllByRecursion (λ k. settled_at one k ≡ settled_at other k) (parts_of g) → settled_value chosen one g ≡ settled_value chosen other g
alike-gate chosen one other (gate.Input number) all = refl
alike-gate chosen one other (gate.And parts) all = alike-all (settled_at one) (settled_at other) parts all
alike-gate chosen one other (gate.Or parts) all = alike-any (settled_at one) (settled_at other) parts all
alike-gate chosen one other (gate.Not part) all = ap (option_map not) all.0
alike-gate chosen one other (gate.Ite condition a b) all = ap₂ (λ c p. c p) (ap₂ settled_ite all.0 all.1.0) all.1.1.0

alike_below : (n : ℕ) (one other : ℕ → Option Bool) → ((k : ℕ) → k < n → one k ≡ other k) → (parts : List ℕ) → AllByRecursion (λ k. k < n) parts → AllByRecursion (λ k. one k ≡ other k) parts
alike_below n one other same [] below = tt
alike_below n one other same (part ∷ parts) below = (same part below.0, alike_below n one other same parts below.1)

settled_before : (gates : List Gate) (chosen : List Bool) (place k : ℕ) → place < length gates → k < place → settled_at (settled gates chosen) k ≡ settled_at (settled (take place gates) chosen) k
settled_before gates chosen place k inside before =
    let front : List Gate = take place gates in
    let parts = settled-append front (drop place gates) chosen in
    let long : length (settled front chosen) ≡ place = length-settled front chosen ∙ length-take-le place gates (omega arith) in
    ap (λ gs. settled_at (settled gs chosen) k) (sym (take-append-drop place gates)) ∙ ap (λ os. settled_at os k) parts.1
    ∙ get_or_append_left (settled front chosen) parts.0 (Some false) k (omega (arith, long, before))

-- ---- the table while the places are evaluated: those that are left have their old value, and all others are right
pub record IsUnderWay (gates : List Gate) (chosen : List Bool) (values : List (Option Bool)) (new left : List ℕ) : Type 0 where
  pub long : length values ≡ length gates
  pub within : AllByRecursion (λ place. place < length gates) (new ++ left)
  pub rising : IsRising (new ++ left)
  pub right : (place : ℕ) → place < length gates → IsAmong place left ⊎ (settled_at values place ≡ settled_at (settled gates chosen) place)
  pub complete : (place : ℕ) → place < length gates → settled_at (settled gates chosen) place ≡ None → IsAmong place (new ++ left)

some_apart : (v : Bool) (o : Option Bool) → o ≡ Some v → o ≡ None → ⊥
some_apart v o some none = cc

pub under_way : (gates : List Gate) (chosen : List Bool) (table : List (Option Bool)) (places : List ℕ) → HasUnsettled table places → AllZip StaysSettled table (settled gates chosen) → IsUnderWay gates chosen table [] places
under_way gates chosen table places has kept = record {
  long = same;
  within = subst (λ n. AllByRecursion (λ place. place < n) places) same has.within;
  rising = has.rising;
  right = λ place inside. whether place (omega (arith, same, inside)) (settled_at table place) refl;
  complete = λ place inside none. among place (omega (arith, same, inside)) none (settled_at table place) refl;
}
  where
    same : length table ≡ length gates
    same = length_all_zip StaysSettled table (settled gates chosen) kept ∙ length-settled gates chosen

    stays : (place : ℕ) (v : Bool) → place < length table → settled_at table place ≡ Some v → settled_at (settled gates chosen) place ≡ Some v
    stays place v inside is = let P : Option Bool → Type 0 = λ o. StaysSettled o (settled_at (settled gates chosen) place) in subst P is (AllZip-get_or StaysSettled table (settled gates chosen) place (Some false) (Some false) kept inside)

    whether : (place : ℕ) → place < length table → (o : Option Bool) → settled_at table place ≡ o → IsAmong place places ⊎ (settled_at table place ≡ settled_at (settled gates chosen) place)
    whether place inside None is = inl (has.complete place inside is)
    whether place inside (Some v) is = inr (is ∙ sym (stays place v inside is))

    among : (place : ℕ) → place < length table → settled_at (settled gates chosen) place ≡ None → (o : Option Bool) → settled_at table place ≡ o → IsAmong place places
    among place inside none None is = has.complete place inside is
    among place inside none (Some v) is = absurd (some_apart v (settled_at (settled gates chosen) place) (stays place v inside is) none)

-- the next place is evaluated right
pub next_value : (gates : List Gate) (chosen : List Bool) (values : List (Option Bool)) (new rest : List ℕ) (place : ℕ) (g : Gate) → IsCircuit gates → IsUnderWay gates chosen values new (place ∷ rest) → g ≡ get_or gates place g
    → settled_value chosen values g ≡ settled_at (settled gates chosen) place
next_value gates chosen values new rest place g circuit so_far is =
    let inside : place < length gates = all_at (λ k. k < length gates) new place rest so_far.within in
    let front : List Gate = take place gates in
    let long : length front ≡ place = length-take-le place gates (omega (arith, inside)) in
    let parts : AllByRecursion (λ k. k < length front) (parts_of (get_or gates place g)) = (circuit place g inside).parts in
    let P : ℕ → Type 0 = λ n. AllByRecursion (λ k. k < n) (parts_of g) in
    let Q : Gate → Type 0 = λ x. AllByRecursion (λ k. k < length front) (parts_of x) in
    let below : AllByRecursion (λ k. k < place) (parts_of g) = subst P long (subst Q (sym is) parts) in
    alike-gate chosen values (settled front chosen) g
    (alike_below place (settled_at values) (settled_at (settled front chosen)) (λ k before. before_it k before inside ∙ settled_before gates chosen place k inside before) (parts_of g) below)
    ∙ ap (settled_value chosen (settled front chosen)) is
    ∙ sym (settled_entry gates place g chosen (Some false) inside)
  where
    not_left : (k : ℕ) → k < place → IsAmong k (place ∷ rest) ⊎ (settled_at values k ≡ settled_at (settled gates chosen) k) → settled_at values k ≡ settled_at (settled gates chosen) k
    not_left k before (inl (inl same)) = absurd (omega (arith, before, same))
    not_left k before (inl (inr is)) = absurd (omega (arith, before, is_above place k rest (rising_from new place rest so_far.rising) is))
    not_left k before (inr same) = same

    before_it : (k : ℕ) → k < place → place < length gates → settled_at values k ≡ settled_at (settled gates chosen) k
    before_it k before inside = not_left k before (so_far.right k (omega (arith, before, inside)))

length_with : (values : List (Option Bool)) (place : ℕ) (value : Option Bool) → length (set values place value) ≡ length values
length_with values place value = length-set values place value

right_with : (gates : List Gate) (chosen : List Bool) (values : List (Option Bool)) (new rest : List ℕ) (place : ℕ) (value : Option Bool) → IsUnderWay gates chosen values new (place ∷ rest) → value ≡ settled_at (settled gates chosen) place
    → (k : ℕ) → k < length gates → IsAmong k rest ⊎ (settled_at (set values place value) k ≡ settled_at (settled gates chosen) k)
right_with gates chosen values new rest place value so_far is k inside = next (cases_order k place)
  where
    other : (k ≡ place → ⊥) → IsAmong k (place ∷ rest) ⊎ (settled_at values k ≡ settled_at (settled gates chosen) k) → IsAmong k rest ⊎ (settled_at (set values place value) k ≡ settled_at (settled gates chosen) k)
    other apart (inl (inl same)) = absurd (apart same)
    other apart (inl (inr is)) = inl is
    other apart (inr same) = inr (get_or-set_other values place k value (Some false) apart ∙ same)

    next : (k ≡ place) ⊎ ((k < place) ⊎ (place < k)) → IsAmong k rest ⊎ (settled_at (set values place value) k ≡ settled_at (settled gates chosen) k)
    next (inl same) =
        inr (ap (settled_at (set values place value)) same ∙ get_or-set_same values place value (Some false) (omega (arith, so_far.long, inside, same)) ∙ is ∙ ap (settled_at (settled gates chosen)) (sym same))
    next (inr (inl less)) = other (λ same. absurd (omega (arith, less, same))) (so_far.right k inside)
    next (inr (inr more)) = other (λ same. absurd (omega (arith, more, same))) (so_far.right k inside)

-- nothing is settled of it
pub stays_unsettled : (gates : List Gate) (chosen : List Bool) (values : List (Option Bool)) (new rest : List ℕ) (place : ℕ) (value : Option Bool) → IsUnderWay gates chosen values new (place ∷ rest) → value ≡ settled_at (settled gates chosen) place
    → IsUnderWay gates chosen (set values place value) (new ++ place ∷ []) rest
stays_unsettled gates chosen values new rest place value so_far is =
    let same : new ++ place ∷ rest ≡ (new ++ place ∷ []) ++ rest = sym (append_assoc new (place ∷ []) rest) in
    record {
      long = length_with values place value ∙ so_far.long;
      within = subst (λ ps. AllByRecursion (λ k. k < length gates) ps) same so_far.within;
      rising = subst IsRising same so_far.rising;
      right = right_with gates chosen values new rest place value so_far is;
      complete = λ k inside none. subst (λ ps. IsAmong k ps) same (so_far.complete k inside none);
    }

-- it is settled
pub is_settled : (gates : List Gate) (chosen : List Bool) (values : List (Option Bool)) (new rest : List ℕ) (place : ℕ) (value : Option Bool) → IsUnderWay gates chosen values new (place ∷ rest) → value ≡ settled_at (settled gates chosen) place → (value ≡ None → ⊥)
    → IsUnderWay gates chosen (set values place value) new rest
is_settled gates chosen values new rest place value so_far is some = record {
  long = length_with values place value ∙ so_far.long;
  within = all_without (λ k. k < length gates) new place rest so_far.within;
  rising = rising_without new place rest so_far.rising;
  right = right_with gates chosen values new rest place value so_far is;
  complete = λ k inside none. among_without k new place rest (λ same. some (is ∙ ap (settled_at (settled gates chosen)) (sym same) ∙ none)) (so_far.complete k inside none);
}

-- no place is left
pub all_right : (gates : List Gate) (chosen : List Bool) (values : List (Option Bool)) (new : List ℕ) → IsUnderWay gates chosen values new [] → values ≡ settled gates chosen
all_right gates chosen values new so_far =
    ext_get_or (Some false) values (settled gates chosen) (so_far.long ∙ sym (length-settled gates chosen)) (λ k inside. right k (so_far.right k (omega (arith, so_far.long, inside))))
  where
    right : (k : ℕ) → ⊥ ⊎ (settled_at values k ≡ settled_at (settled gates chosen) k) → settled_at values k ≡ settled_at (settled gates chosen) k
    right k (inl none) = absurd none
    right k (inr same) = same

pub all_unsettled : (gates : List Gate) (chosen : List Bool) (values : List (Option Bool)) (new : List ℕ) → IsUnderWay gates chosen values new [] → HasUnsettled values new
all_unsettled gates chosen values new so_far =
    let none : new ++ [] ≡ new = append-nil new in
    let within : AllByRecursion (λ k. k < length gates) new = subst (λ ps. AllByRecursion (λ k. k < length gates) ps) none so_far.within in
    record {
      within = subst (λ n. AllByRecursion (λ k. k < n) new) (sym so_far.long) within;
      rising = subst IsRising none so_far.rising;
      complete = λ k inside is.
          subst (λ ps. IsAmong k ps) none (so_far.complete k (omega (arith, so_far.long, inside)) (ap (λ os. settled_at os k) (sym (all_right gates chosen values new so_far)) ∙ is));
    }

-- ---- a table of which nothing is settled
pub all_places : (places : List ℕ) (count : ℕ) → ((k : ℕ) → k < count → IsAmong k places) → (k : ℕ) → k < count + 1 → IsAmong k (places ++ count ∷ [])
all_places places count all k inside = elim (cases_lt k count) [ inl less ↦ among_push k places (count ∷ []) (all k less) | inr last ↦ at_end k last inside ]
  where
    at_end : (k : ℕ) → count ≤ k → k < count + 1 → IsAmong k (places ++ count ∷ [])
    at_end k last inside = let same : count ≡ k = omega (arith, last, inside) in subst (λ n. IsAmong n (places ++ count ∷ [])) same (among_last count places)

-- ---- for the loop over the places
pub next_left : (places : List ℕ) (index : ℕ) → index < length places → drop index places ≡ get_or places index 0 ∷ drop (index + 1) places
next_left places index inside = let next : suc index ≡ index + 1 = omega arith in drop-cons places index 0 inside ∙ ap (λ n. get_or places index 0 ∷ drop n places) next

pub parts_within : (gates : List Gate) (chosen : List Bool) (values : List (Option Bool)) (new rest : List ℕ) (place : ℕ) (g : Gate) → IsCircuit gates → IsUnderWay gates chosen values new (place ∷ rest) → g ≡ get_or gates place g
    → AllByRecursion (λ part. part < length values) (parts_of g)
parts_within gates chosen values new rest place g circuit so_far is =
    let inside : place < length gates = all_at (λ k. k < length gates) new place rest so_far.within in
    let long : length (take place gates) ≡ place = length-take-le place gates (omega (arith, inside)) in
    let P : Gate → Type 0 = λ x. AllByRecursion (λ k. k < length (take place gates)) (parts_of x) in
    below-weaker (length (take place gates)) (length values) (parts_of g) (omega (arith, long, inside, so_far.long)) (subst P (sym is) (circuit place g inside).parts)

pub some_or_none : (o : Option Bool) → is_some o ≡ true → o ≡ None → ⊥
some_or_none (Some v) some none = cc
some_or_none None some none = cc
