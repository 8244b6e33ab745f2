-- Where the elements that pass stand among those that pass, and lists one behind the other.
use Rattle.std.specs.Prelude.{◌≡◌, ℕ, zero, suc, ◌+◌, ◌<◌, Bool, true, false, cond, List, [], ◌∷◌, ◌++◌, Some, length, filter, take, slice_get, count_by, refl}
use Rattle.std.proofs.Common.{ap, sym, ◌∙◌, arith}
use Rattle.std.proofs.lemmas.List.Sums.{length-filter}

pub get_front : {A : Type 0} (xs ys : List A) (k : ℕ) → k < length xs → slice_get (xs ++ ys) k ≡ slice_get xs k
get_front [] ys k h = absurd (omega arith)
get_front (x ∷ xs) ys zero h = refl
get_front (x ∷ xs) ys (suc k) h = get_front xs ys k (omega arith)

pub get_behind : {A : Type 0} (xs ys : List A) (k : ℕ) → slice_get (xs ++ ys) (length xs + k) ≡ slice_get ys k
get_behind [] ys k = ap (slice_get ys) (omega arith)
get_behind (x ∷ xs) ys k = ap (slice_get (x ∷ (xs ++ ys))) (shifted (length xs) k) ∙ get_behind xs ys k
  where
    shifted : (m n : ℕ) → suc m + n ≡ suc (m + n)
    shifted m n = omega arith

module _ {A : Type 0} (p : A → Bool) where
  pub count_step : (x : A) (xs : List A) → count_by p (x ∷ xs) ≡ cond (p x) (suc (count_by p xs)) (count_by p xs)
  count_step x xs = sym (length-filter p (x ∷ xs)) ∙ go (p x) (length-filter p xs)
    where
      go : (b : Bool) → length (filter p xs) ≡ count_by p xs
          → length (cond b (x ∷ filter p xs) (filter p xs)) ≡ cond b (suc (count_by p xs)) (count_by p xs)
      go true h = ap suc h
      go false h = h

  -- an element that passes stands behind as many as pass before it
  pub filtered_at : (xs : List A) (s : ℕ) (x : A) → slice_get xs s ≡ Some x → p x ≡ true
      → slice_get (filter p xs) (count_by p (take s xs)) ≡ Some x
  filtered_at [] s x e h = cc
  filtered_at (y ∷ ys) zero x e h = let z : y ≡ x = cc in rw (z, h) refl
  filtered_at (y ∷ ys) (suc s) x e h = rw (count_step y (take s ys)) (go (p y) (filtered_at ys s x e h))
    where
      go : (b : Bool) → slice_get (filter p ys) (count_by p (take s ys)) ≡ Some x
          → slice_get (cond b (y ∷ filter p ys) (filter p ys)) (cond b (suc (count_by p (take s ys))) (count_by p (take s ys))) ≡ Some x
      go true r = r
      go false r = r

  -- and each place among those that pass is that of such an element
  pub filtered_from : (xs : List A) (k : ℕ) → k < length (filter p xs)
      → (s : ℕ) × (x : A) × (slice_get xs s ≡ Some x) × (p x ≡ true) × (count_by p (take s xs) ≡ k)
  filtered_from [] k h = absurd (omega arith)
  filtered_from (y ∷ ys) k h = go (p y) refl h k refl (filtered_from ys)
    where
      counted : (s : ℕ) (b : Bool) → p y ≡ b → count_by p (y ∷ take s ys) ≡ cond b (suc (count_by p (take s ys))) (count_by p (take s ys))
      counted s b e = count_step y (take s ys) ∙ ap (λ v. cond v (suc (count_by p (take s ys))) (count_by p (take s ys))) e

      go : (b : Bool) → p y ≡ b → k < length (cond b (y ∷ filter p ys) (filter p ys)) → (j : ℕ) → j ≡ k
          → ((i : ℕ) → i < length (filter p ys) → (s : ℕ) × (x : A) × (slice_get ys s ≡ Some x) × (p x ≡ true) × (count_by p (take s ys) ≡ i))
          → (s : ℕ) × (x : A) × (slice_get (y ∷ ys) s ≡ Some x) × (p x ≡ true) × (count_by p (take s (y ∷ ys)) ≡ k)
      go true e l zero same rec = (0, y, refl, e, same)
      go true e l (suc j) same rec =
          let f : (s : ℕ) × (x : A) × (slice_get ys s ≡ Some x) × (p x ≡ true) × (count_by p (take s ys) ≡ j) = rec j (omega (arith, l, same)) in
          (suc f.0, f.1, f.2, f.3, counted f.0 true e ∙ (ap suc f.4 ∙ same))
      go false e l j same rec =
          let f : (s : ℕ) × (x : A) × (slice_get ys s ≡ Some x) × (p x ≡ true) × (count_by p (take s ys) ≡ k) = rec k l in
          (suc f.0, f.1, f.2, f.3, counted f.0 false e ∙ f.4)
