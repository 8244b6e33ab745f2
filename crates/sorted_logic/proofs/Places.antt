-- Where a name stands in a list of declarations.
use Rattle.std.specs.Prelude.{◌≡◌, ℕ, zero, suc, ◌+◌, Bool, true, false, ◌||◌, cond, nat_lt, List, [], ◌∷◌, Option, Some, None, length, map, filter, slice_get, option_map, position, refl}
use Rattle.std.specs.List.{position_or_len, IsDistinct, AllByRecursion, list_any}
use Rattle.std.specs.Str.{bytes_eq}
use Rattle.std.proofs.Common.{ap, sym, subst, ◌∙◌, arith}
use Rattle.std.proofs.lemmas.Map.Keys.{IsDistinct-head, IsDistinct-tail, IsDistinct-cons}
use Rattle.std.specs.Cmp.{IsEquivalence}
use Rattle.std.proofs.lemmas.Slice.Eq.{bytes_eq-Decides}

shift : (m n : ℕ) → cond (nat_lt (1 + m) (suc n)) (Some (1 + m)) None ≡ option_map suc (cond (nat_lt m n) (Some m) None)
shift m n = go (nat_lt m n) refl
  where
    go : (b : Bool) → nat_lt m n ≡ b → cond (nat_lt (1 + m) (suc n)) (Some (1 + m)) None ≡ option_map suc (cond b (Some m) None)
    go true h = grind arith
    go false h = grind arith

first : (n : ℕ) → cond {A = Option ℕ} (nat_lt 0 (suc n)) (Some 0) None ≡ Some 0
first n = grind arith

module _ {X : Type 0} (p : X → Bool) where
  pub position_step : (x : X) (xs : List X) → position p (x ∷ xs) ≡ cond (p x) (Some 0) (option_map suc (position p xs))
  position_step x xs = go (p x) refl
    where
      go : (b : Bool) → p x ≡ b → position p (x ∷ xs) ≡ cond b (Some 0) (option_map suc (position p xs))
      go true h = rw h (first (length xs))
      go false h = rw h (shift (position_or_len p xs) (length xs))

  -- a place that was found is one whose element passes
  pub found : (xs : List X) (k : ℕ) → position p xs ≡ Some k → (x : X) × (slice_get xs k ≡ Some x) × (p x ≡ true)
  found [] k h = cc
  found (x ∷ xs) k h = go (p x) refl (position p xs) refl (sym (position_step x xs) ∙ h) (found xs)
    where
      go : (b : Bool) → p x ≡ b → (o : Option ℕ) → position p xs ≡ o → cond b (Some 0) (option_map suc o) ≡ Some k
          → ((i : ℕ) → position p xs ≡ Some i → (y : X) × (slice_get xs i ≡ Some y) × (p y ≡ true))
          → (y : X) × (slice_get (x ∷ xs) k ≡ Some y) × (p y ≡ true)
      go true e o q r rec = let z : k ≡ 0 = cc in rw z (x, refl, e)
      go false e None q r rec = cc
      go false e (Some i) q r rec = let z : k ≡ suc i = cc in let f : (y : X) × (slice_get xs i ≡ Some y) × (p y ≡ true) = rec i q in rw z (f.0, f.1, f.2)

  -- none is found exactly where none passes
  pub missing : (xs : List X) → position p xs ≡ None → AllByRecursion (λ x. p x ≡ false) xs
  missing [] h = tt
  missing (x ∷ xs) h = go (p x) refl (position p xs) refl (sym (position_step x xs) ∙ h) (missing xs)
    where
      go : (b : Bool) → p x ≡ b → (o : Option ℕ) → position p xs ≡ o → cond b (Some 0) (option_map suc o) ≡ None
          → (position p xs ≡ None → AllByRecursion (λ x. p x ≡ false) xs) → (p x ≡ false) × AllByRecursion (λ x. p x ≡ false) xs
      go true e o q r rec = cc
      go false e None q r rec = (e, rec q)
      go false e (Some i) q r rec = cc

  pub absent : (xs : List X) → AllByRecursion (λ x. p x ≡ false) xs → position p xs ≡ None
  absent [] h = refl
  absent (x ∷ xs) h = rw (position_step x xs, h.0, absent xs h.1) refl

pub same_bytes : (xs ys : List ℕ) → bytes_eq xs ys ≡ true → xs ≡ ys
same_bytes xs ys h = (bytes_eq-Decides xs ys).0 h

pub bytes_refl : (xs : List ℕ) → bytes_eq xs xs ≡ true
bytes_refl xs = (bytes_eq-Decides xs xs).1 refl

pub differ_flipped : (xs ys : List ℕ) → bytes_eq xs ys ≡ false → bytes_eq ys xs ≡ false
differ_flipped xs ys h = go (bytes_eq ys xs) refl
  where
    go : (b : Bool) → bytes_eq ys xs ≡ b → b ≡ false
    go false e = refl
    go true e = let z : ys ≡ xs = same_bytes ys xs e in absurd (no (sym (bytes_refl ys) ∙ subst (λ w. bytes_eq w ys ≡ false) (sym z) h))
      where
        no : true ≡ false → ⊥
        no h = cc

pub all_at : {A B : Type 0} (P : B → Type 0) (f : A → B) (xs : List A) (k : ℕ) (x : A) → AllByRecursion P (map f xs) → slice_get xs k ≡ Some x → P (f x)
all_at P f [] k x h e = cc
all_at P f (y ∷ ys) zero x h e = let z : y ≡ x = cc in rw (← z) h.0
all_at P f (y ∷ ys) (suc k) x h e = all_at P f ys k x h.1 e

module _ {X : Type 0} (name : X → List ℕ) where
  -- where names differ, each name stands where it is declared
  pub own_place : (xs : List X) (k : ℕ) (x : X) → IsDistinct bytes_eq (map name xs) → slice_get xs k ≡ Some x
      → position (λ y. bytes_eq (name x) (name y)) xs ≡ Some k
  own_place [] k x d h = cc
  own_place (y ∷ ys) zero x d h = let z : y ≡ x = cc in rw (position_step (λ w. bytes_eq (name x) (name w)) y ys, z, bytes_refl (name x)) refl
  own_place (y ∷ ys) (suc k) x d h = rw (
    position_step (λ w. bytes_eq (name x) (name w)) y ys,
    differ_flipped (name y) (name x) (all_at (λ z. bytes_eq (name y) z ≡ false) name ys k x (IsDistinct-head bytes_eq (name y) (map name ys) d) h),
    own_place ys k x (IsDistinct-tail bytes_eq (name y) (map name ys) d) h,
  ) refl

pub same_flipped : (xs ys : List ℕ) → bytes_eq xs ys ≡ bytes_eq ys xs
same_flipped xs ys = go (bytes_eq xs ys) refl
  where
    go : (v : Bool) → bytes_eq xs ys ≡ v → bytes_eq xs ys ≡ bytes_eq ys xs
    go true e = let z : xs ≡ ys = same_bytes xs ys e in ap (λ w. bytes_eq w ys) z ∙ ap (λ w. bytes_eq ys w) (sym z)
    go false e = e ∙ sym (differ_flipped xs ys e)

pub bytes_equivalence : IsEquivalence bytes_eq
bytes_equivalence = record {
  refl = bytes_refl;
  symm = same_flipped;
  congr = λ x y z h. ap (λ w. bytes_eq w z) (same_bytes x y h);
}

pub neither : (x y : Bool) → (x || y) ≡ false → (x ≡ false) × (y ≡ false)
neither true y h = cc
neither false y h = (refl, h)

pub all_false : {A : Type 0} (p : A → Bool) (xs : List A) → list_any p xs ≡ false → AllByRecursion (λ x. p x ≡ false) xs
all_false p [] h = tt
all_false p (x ∷ xs) h = let n : (p x ≡ false) × (list_any p xs ≡ false) = neither (p x) (list_any p xs) h in (n.0, all_false p xs n.1)

pub all_filtered : {A B : Type 0} (P : B → Type 0) (f : A → B) (p : A → Bool) (xs : List A) → AllByRecursion P (map f xs) → AllByRecursion P (map f (filter p xs))
all_filtered P f p [] h = tt
all_filtered P f p (x ∷ xs) h = go (p x) (all_filtered P f p xs h.1)
  where
    go : (v : Bool) → AllByRecursion P (map f (filter p xs)) → AllByRecursion P (map f (cond v (x ∷ filter p xs) (filter p xs)))
    go true r = (h.0, r)
    go false r = r

pub distinct_filtered : {A : Type 0} (f : A → List ℕ) (p : A → Bool) (xs : List A) → IsDistinct bytes_eq (map f xs) → IsDistinct bytes_eq (map f (filter p xs))
distinct_filtered f p [] h = h
distinct_filtered f p (x ∷ xs) h = go (p x) (distinct_filtered f p xs (IsDistinct-tail bytes_eq (f x) (map f xs) h))
  where
    go : (v : Bool) → IsDistinct bytes_eq (map f (filter p xs)) → IsDistinct bytes_eq (map f (cond v (x ∷ filter p xs) (filter p xs)))
    go true r = IsDistinct-cons bytes_eq (f x) (map f (filter p xs))
        (all_filtered (λ y. bytes_eq (f x) y ≡ false) f p xs (IsDistinct-head bytes_eq (f x) (map f xs) h)) r
    go false r = r

pub any_at : {A B : Type 0} (p : B → Bool) (f : A → B) (xs : List A) (k : ℕ) (x : A) → slice_get xs k ≡ Some x → p (f x) ≡ true → list_any p (map f xs) ≡ true
any_at p f [] k x e h = cc
any_at p f (y ∷ ys) zero x e h = let z : y ≡ x = cc in rw (z, h) refl
any_at p f (y ∷ ys) (suc k) x e h = rw (any_at p f ys k x e h) (either (p (f y)))
  where
    either : (v : Bool) → (v || true) ≡ true
    either true = refl
    either false = refl
