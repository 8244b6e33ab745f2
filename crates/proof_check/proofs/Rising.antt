-- A list of numbers that rise is what a test leaves of a range, where it has the same numbers.
use Rattle.std.proofs.Common.{◌≡◌, ◌≢◌, ◌<◌, ◌≤◌, ◌+◌, ◌-◌, ◌&&◌, ◌||◌, not, eqb, ltb, leb, eq-eqb, ℕ, zero, suc, Bool, true, false, List, [], ◌∷◌, slice_index, cond, arith, refl, ap, sym, ◌∙◌, subst, inl, inr}
use Rattle.std.specs.List.{filter, list_any, range_with_len, dedup, dedup_from}
use Rattle.std.specs.List.Sorted.{IsStrictlyIncreasing, IsSorted, IsPermutation}
use Rattle.std.specs.Ordering.{nat_cmp}
use Rattle.std.proofs.lemmas.Bool.{or_left, or_right, or_cases, and_parts, and_from, and_left, and_right, eqb-true, ltb-true, leb-true, lt-ltb, le-leb, both_ways}
use Rattle.std.proofs.lemmas.List.Sorted.{list_any-IsPermutation}
use Rattle.std.proofs.lemmas.Map.Keys.{IsStrictlyIncreasing-dedup}
use Rattle.proof_check.specs.Inside.Trim.{flag, is_last, is_taken}

abbrev pub has : ℕ → List ℕ → Bool
has m xs = list_any (λ x. eqb x m) xs

twice : (a b c : Bool) → a ≡ b → (a || c) ≡ (a || (b || c))
twice true b c e = refl
twice false b c e = ap (λ x. x || c) e

has-dedup_from : (m x : ℕ) (xs : List ℕ) → has m (dedup_from eqb x xs) ≡ has m (x ∷ xs)
has-dedup_from m x [] = refl
has-dedup_from m x (y ∷ xs) =
    elim (eqb y x) as (λ b. eqb y x ≡ b → has m (cond b (dedup_from eqb x xs) (x ∷ dedup_from eqb y xs)) ≡ (eqb x m || (eqb y m || has m xs))) [
      | true ↦ λ e.
          let same : x ≡ y = sym (eqb-true y x e) in
          has-dedup_from m x xs ∙ twice (eqb x m) (eqb y m) (has m xs) (ap (λ k. eqb k m) same)
      | false ↦ λ e. ap (λ b. eqb x m || b) (has-dedup_from m y xs)
    ] refl

has-dedup : (m : ℕ) (xs : List ℕ) → has m (dedup eqb xs) ≡ has m xs
has-dedup m [] = refl
has-dedup m (x ∷ xs) = has-dedup_from m x xs

pub has-filter : (p : ℕ → Bool) (m : ℕ) (xs : List ℕ) → has m (filter p xs) ≡ (p m && has m xs)
has-filter p m [] = sym (and_right (p m) false refl)
has-filter p m (x ∷ xs) =
    let rest = has-filter p m xs in
    elim (p x) as (λ b. p x ≡ b → has m (cond b (x ∷ filter p xs) (filter p xs)) ≡ (p m && (eqb x m || has m xs))) [
      | true ↦ λ e. elim (eqb x m) as (λ b. eqb x m ≡ b → (b || has m (filter p xs)) ≡ (p m && (b || has m xs))) [
        | true ↦ λ here. let same : x ≡ m = eqb-true x m here in sym (and_from (p m) true (ap p (sym same) ∙ e) refl)
        | false ↦ λ here. rest
      ] refl
      | false ↦ λ e. elim (eqb x m) as (λ b. eqb x m ≡ b → has m (filter p xs) ≡ (p m && (b || has m xs))) [
        | true ↦ λ here.
            let same : x ≡ m = eqb-true x m here in
            let no : p m ≡ false = ap p (sym same) ∙ e in
            rest ∙ (and_left (p m) (has m xs) no ∙ sym (and_left (p m) true no))
        | false ↦ λ here. rest
      ] refl
    ] refl

abbrev Rises : ℕ → List ℕ → Type 0
Rises low [] = Unit {0}
Rises low (x ∷ xs) = (low ≤ x) × Rises (x + 1) xs

up-tail : (x : ℕ) (xs : List ℕ) → IsStrictlyIncreasing (x ∷ xs) → IsStrictlyIncreasing xs
up-tail x xs up = λ k below.
    let one : suc k + 1 ≡ suc (k + 1) = omega arith in
    subst (λ j. slice_index (x ∷ xs) (suc k) < slice_index (x ∷ xs) j) one (up (suc k) (omega arith))

Rises-later : (x y : ℕ) (xs : List ℕ) → x < y → IsStrictlyIncreasing (y ∷ xs) → Rises (x + 1) (y ∷ xs)
Rises-later x y [] less up = (omega arith, tt)
Rises-later x y (z ∷ zs) less up = (omega arith, Rises-later y z zs (up 0 (omega arith)) (up-tail y (z ∷ zs) up))

Rises-from : (low : ℕ) (xs : List ℕ) → IsStrictlyIncreasing xs → ((m : ℕ) → has m xs ≡ true → low ≤ m) → Rises low xs
Rises-from low [] up first = tt
Rises-from low (x ∷ []) up first = (first x (or_left (eqb x x) false (eq-eqb x x refl)), tt)
Rises-from low (x ∷ y ∷ xs) up first =
    (first x (or_left (eqb x x) (has x (y ∷ xs)) (eq-eqb x x refl)), Rises-later x y xs (up 0 (omega arith)) (up-tail x (y ∷ xs) up))

rises_above : (low m : ℕ) (xs : List ℕ) → Rises low xs → has m xs ≡ true → low ≤ m
rises_above low m [] h e = absurd (cc)
rises_above low m (x ∷ xs) h e = elim (or_cases (eqb x m) (has m xs) e) [
  | inl here ↦ let same : x ≡ m = eqb-true x m here in omega (arith, same, h.0)
  | inr later ↦ let above = rises_above (x + 1) m xs h.1 later in omega (arith, above, h.0)
]

Rises-next : (p : ℕ → Bool) (len a : ℕ) (xs : List ℕ) → Rises a xs → ((m : ℕ) → has m xs ≡ true → (m < a + suc len) × (p m ≡ true)) → p a ≡ false → Rises (a + 1) xs
Rises-next p len a [] up within e = tt
Rises-next p len a (x ∷ xs) up within e =
    let here = within x (or_left (eqb x x) (has x xs) (eq-eqb x x refl)) in
    let ne : x ≢ a = λ same. both_ways (p a) e (ap p (sym same) ∙ here.1) in
    let low : a ≤ x = up.0 in
    (omega (arith, low, ne), up.1)

first_is : (p : ℕ → Bool) (len a : ℕ) (xs : List ℕ) → Rises a xs → ((m : ℕ) → has m xs ≡ true → (m < a + suc len) × (p m ≡ true)) → ((m : ℕ) → a ≤ m → m < a + suc len → p m ≡ true → has m xs ≡ true) → p a ≡ true
    → ((ys : List ℕ) → Rises (a + 1) ys → ((m : ℕ) → has m ys ≡ true → (m < a + 1 + len) × (p m ≡ true)) → ((m : ℕ) → a + 1 ≤ m → m < a + 1 + len → p m ≡ true → has m ys ≡ true) → ys ≡ filter p (range_with_len (a + 1) len))
    → xs ≡ a ∷ filter p (range_with_len (a + 1) len)
first_is p len a [] up within all e others = let h : false ≡ true = all a (omega arith) (omega arith) e in absurd (cc)
first_is p len a (x ∷ xs) up within all e others =
    let found : has a (x ∷ xs) ≡ true = all a (omega arith) (omega arith) e in
    let low : a ≤ x = up.0 in
    let same : x ≡ a = elim (or_cases (eqb x a) (has a xs) found) as (λ _. x ≡ a) [
      | inl here ↦ eqb-true x a here
      | inr later ↦ let above : x + 1 ≤ a = rises_above (x + 1) a xs up.1 later in absurd (omega (arith, above, low))
    ] in
    let rest : xs ≡ filter p (range_with_len (a + 1) len) = others xs (subst (λ k. Rises (k + 1) xs) same up.1)
    (λ m h. let w = within m (or_right (eqb x m) (has m xs) h) in (omega (arith, w.0), w.1))
    (λ m lower high pm. elim (or_cases (eqb x m) (has m xs) (all m (omega (arith, lower)) (omega (arith, high)) pm)) as (λ _. has m xs ≡ true) [
      | inl here ↦ let one : x ≡ m = eqb-true x m here in absurd (omega (arith, one, same, lower))
      | inr later ↦ later
    ]) in
    ap (λ k. k ∷ xs) same ∙ ap (λ ys. a ∷ ys) rest

pub rising_is_filter : (p : ℕ → Bool) (len a : ℕ) (xs : List ℕ) → Rises a xs → ((m : ℕ) → has m xs ≡ true → (m < a + len) × (p m ≡ true)) → ((m : ℕ) → a ≤ m → m < a + len → p m ≡ true → has m xs ≡ true)
    → xs ≡ filter p (range_with_len a len)
rising_is_filter p zero a [] up within all = refl
rising_is_filter p zero a (x ∷ xs) up within all =
    let here = within x (or_left (eqb x x) (has x xs) (eq-eqb x x refl)) in
    let low : a ≤ x = up.0 in
    let high : x < a + 0 = here.0 in
    absurd (omega (arith, low, high))
rising_is_filter p (suc len) a xs up within all =
    elim (p a) as (λ b. p a ≡ b → xs ≡ (cond b (a ∷ filter p (range_with_len (a + 1) len)) (filter p (range_with_len (a + 1) len)))) [
      | true ↦ λ e. first_is p len a xs up within all e (rising_is_filter p len (a + 1))
      | false ↦ λ e. rising_is_filter p len (a + 1) xs (Rises-next p len a xs up within e)
          (λ m h. let w = within m h in (omega (arith, w.0), w.1))
          (λ m low high pm. all m (omega (arith, low)) (omega (arith, high)) pm)
    ] refl

-- the numbers that are taken from hints, sorted, each once
pub last_named_is : (given place : ℕ) (named : List Bool) (hints ys zs : List ℕ) → IsPermutation (filter (is_taken given named place) hints) ys → IsSorted nat_cmp ys → zs ≡ dedup eqb ys
    → zs ≡ filter (is_last given named hints) (range_with_len (given + 1) place)
last_named_is given place named hints ys zs moved sorted once =
    let xs = filter (is_taken given named place) hints in
    let members : (m : ℕ) → has m zs ≡ (is_taken given named place m && has m hints) = λ m.
    ap (has m) once ∙ has-dedup m ys ∙ sym (list_any-IsPermutation (λ x. eqb x m) xs ys moved) ∙ has-filter (is_taken given named place) m hints in
    let taken : (m : ℕ) → has m zs ≡ true → (given < m) × (m < given + 1 + place) × (is_last given named hints m ≡ true) = λ m h.
    let both = and_parts (is_taken given named place m) (has m hints) (sym (members m) ∙ h) in
    let parts = and_parts (ltb given m && leb (m - given) place) (not (flag given named m)) both.0 in
    let bounds = and_parts (ltb given m) (leb (m - given) place) parts.0 in
    let low = ltb-true given m bounds.0 in
    let high = leb-true (m - given) place bounds.1 in
    (low, omega (arith, low, high), and_from (has m hints) (not (flag given named m)) both.1 parts.1) in
    let up : IsStrictlyIncreasing zs = subst IsStrictlyIncreasing (sym once) (IsStrictlyIncreasing-dedup ys sorted) in
    rising_is_filter (is_last given named hints) place (given + 1) zs (Rises-from (given + 1) zs up (λ m h. let t = (taken m h).0 in omega (arith, t)))
    (λ m h. ((taken m h).1, (taken m h).2))
    (λ m low high e.
    let parts = and_parts (has m hints) (not (flag given named m)) e in
    members m ∙ and_from (is_taken given named place m) (has m hints)
    (and_from (ltb given m && leb (m - given) place) (not (flag given named m)) (and_from (ltb given m) (leb (m - given) place) (lt-ltb given m (omega (arith, low))) (le-leb (m - given) place (omega (arith, low, high)))) parts.1)
    parts.0)
