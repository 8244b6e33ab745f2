-- When an OR of a list, an AND of two and an OR of two are true, and what lies in lists made of others.
use Rattle.std.proofs.Common.{◌≡◌, ◌<◌, ℕ, zero, suc, Bool, true, false, cond, List, [], ◌∷◌, ◌++◌, ◌⊎◌, inl, inr, Some, map, take, filter, slice_get, refl, sym, ap, ◌∙◌, arith}
use Rattle.sorted_logic.specs.Syntax.{FormulaTree}
use Rattle.sorted_logic.specs.Trees.{disjunction}
use Rattle.sorted_logic.specs.Truth.{no_policies, HasTruthValue}
use Rattle.sorted_logic.specs.Universe.{Universe}
use Rattle.combiners.specs.Making.{any_of, both, decisions_below, either}

pub no_truth : {A : Type 0} → false ≡ true → A
no_truth h = cc

pub no_falsity : {A : Type 0} → true ≡ false → A
no_falsity h = cc

-- Elements.

abbrev pub LiesIn : {A : Type 0} → List A → A → Type 0
LiesIn xs x = (k : ℕ) × (slice_get xs k ≡ Some x)

pub lies_behind : {A : Type 0} (y : A) (xs : List A) (x : A) → LiesIn xs x → LiesIn (y ∷ xs) x
lies_behind y xs x w = (suc w.0, w.1)

module _ {A : Type 0} (p : A → Bool) where
  pub from_filter : (xs : List A) (x : A) → LiesIn (filter p xs) x → LiesIn xs x × (p x ≡ true)
  from_filter [] x w = cc (w.1)
  from_filter (y ∷ ys) x w = go (p y) refl w (from_filter ys x)
    where
      later : LiesIn ys x × (p x ≡ true) → LiesIn (y ∷ ys) x × (p x ≡ true)
      later v = (lies_behind y ys x v.0, v.1)

      go : (b : Bool) → p y ≡ b → LiesIn (cond b (y ∷ filter p ys) (filter p ys)) x
          → (LiesIn (filter p ys) x → LiesIn ys x × (p x ≡ true)) → LiesIn (y ∷ ys) x × (p x ≡ true)
      go true e (zero, h) rec = let v : y ≡ x = cc in ((0, ap Some v), ap p (sym v) ∙ e)
      go true e (suc k, h) rec = later (rec (k, h))
      go false e v rec = later (rec v)

  pub into_filter : (xs : List A) (x : A) (k : ℕ) → slice_get xs k ≡ Some x → p x ≡ true → LiesIn (filter p xs) x
  into_filter [] x k h t = cc
  into_filter (y ∷ ys) x zero h t = let v : x ≡ y = cc in rw (ap p (sym v) ∙ t) (0, ap Some (sym v))
  into_filter (y ∷ ys) x (suc k) h t = go (p y) (into_filter ys x k h t)
    where
      go : (b : Bool) → LiesIn (filter p ys) x → LiesIn (cond b (y ∷ filter p ys) (filter p ys)) x
      go true v = lies_behind y (filter p ys) x v
      go false v = v

pub from_take : {A : Type 0} (n : ℕ) (xs : List A) (x : A) → LiesIn (take n xs) x → (k : ℕ) × (k < n) × (slice_get xs k ≡ Some x)
from_take zero xs x w = cc (w.1)
from_take (suc n) [] x w = cc (w.1)
from_take (suc n) (y ∷ ys) x (zero, h) = (0, omega arith, h)
from_take (suc n) (y ∷ ys) x (suc k, h) = let v = from_take n ys x (k, h) in (suc v.0, omega (arith, v.1), v.2)

pub into_take : {A : Type 0} (n : ℕ) (xs : List A) (x : A) (k : ℕ) → k < n → slice_get xs k ≡ Some x → LiesIn (take n xs) x
into_take zero xs x k l h = absurd (omega arith)
into_take (suc n) [] x k l h = cc
into_take (suc n) (y ∷ ys) x zero l h = (0, h)
into_take (suc n) (y ∷ ys) x (suc k) l h = lies_behind y (take n ys) x (into_take n ys x k (omega arith) h)

module _ {A : Type 0} where
  from_end : (xs : List A) (y x : A) → LiesIn (xs ++ y ∷ []) x → LiesIn xs x ⊎ (y ≡ x)
  from_end [] y x (zero, h) = inr cc
  from_end [] y x (suc k, h) = cc
  from_end (z ∷ zs) y x (zero, h) = inl (0, h)
  from_end (z ∷ zs) y x (suc k, h) = elim (from_end zs y x (k, h)) [ inl v ↦ inl (lies_behind z zs x v) | inr e ↦ inr e ]

  into_front : (xs : List A) (y x : A) (k : ℕ) → slice_get xs k ≡ Some x → LiesIn (xs ++ y ∷ []) x
  into_front [] y x k h = cc
  into_front (z ∷ zs) y x zero h = (0, h)
  into_front (z ∷ zs) y x (suc k) h = lies_behind z (zs ++ y ∷ []) x (into_front zs y x k h)

  at_end : (xs : List A) (y : A) → LiesIn (xs ++ y ∷ []) y
  at_end [] y = (0, refl)
  at_end (z ∷ zs) y = lies_behind z (zs ++ y ∷ []) y (at_end zs y)

pub from_below : (n e : ℕ) → LiesIn (decisions_below n) e → e < n
from_below zero e w = cc (w.1)
from_below (suc n) e w = elim
    (from_end (decisions_below n) n e w) [ inl v ↦ omega (arith, from_below n e v) | inr q ↦ omega (arith, q) ]

pub into_below : (n e : ℕ) → e < n → LiesIn (decisions_below n) e
into_below zero e l = absurd (omega arith)
into_below (suc n) e l = elim (below_or_last n e l) [
  | inl h ↦ (let v = into_below n e h in into_front (decisions_below n) n e v.0 v.1)
  | inr q ↦ rw q (at_end (decisions_below n) n)
]
  where
    below_or_last : (n e : ℕ) → e < suc n → (e < n) ⊎ (e ≡ n)
    below_or_last zero zero l = inr refl
    below_or_last zero (suc e) l = absurd (omega arith)
    below_or_last (suc n) zero l = inl (omega arith)
    below_or_last (suc n) (suc e) l = elim
        (below_or_last n e (omega arith)) [ inl h ↦ inl (omega arith) | inr q ↦ inr (ap suc q) ]

module _ (u : Universe) where
  abbrev pub Truth : FormulaTree → Bool → List ℕ → Type 0
  Truth f value env = HasTruthValue u no_policies f value env

  -- Two parts.

  pub from_either : (f g : FormulaTree) (env : List ℕ) → Truth (either f g) true env → Truth f true env ⊎ Truth g true env
  from_either f g env (inl h) = inl h
  from_either f g env (inr (inl h)) = inr h
  from_either f g env (inr (inr h)) = no_truth h

  pub into_either : (f g : FormulaTree) (env : List ℕ) → Truth f true env ⊎ Truth g true env → Truth (either f g) true env
  into_either f g env (inl h) = inl h
  into_either f g env (inr h) = inr (inl h)

  pub from_neither : (f g : FormulaTree) (env : List ℕ) → Truth (either f g) false env → Truth f false env × Truth g false env
  from_neither f g env h = (h.0, h.1.0)

  pub into_neither : (f g : FormulaTree) (env : List ℕ) → Truth f false env → Truth g false env → Truth (either f g) false env
  into_neither f g env h k = (h, (k, refl))

  pub from_both : (f g : FormulaTree) (env : List ℕ) → Truth (both f g) true env → Truth f true env × Truth g true env
  from_both f g env h = (h.0, h.1.0)

  pub into_both : (f g : FormulaTree) (env : List ℕ) → Truth f true env → Truth g true env → Truth (both f g) true env
  into_both f g env h k = (h, (k, refl))

  pub from_not_both : (f g : FormulaTree) (env : List ℕ) → Truth (both f g) false env → Truth f false env ⊎ Truth g false env
  from_not_both f g env (inl h) = inl h
  from_not_both f g env (inr (inl h)) = inr h
  from_not_both f g env (inr (inr h)) = no_falsity h

  pub into_not_both : (f g : FormulaTree) (env : List ℕ) → Truth f false env ⊎ Truth g false env → Truth (both f g) false env
  into_not_both f g env (inl h) = inl h
  into_not_both f g env (inr h) = inr (inl h)

  -- Many parts.

  pub from_any : (parts : List FormulaTree) (value : Bool) (env : List ℕ) → Truth (any_of parts) value env
      → Truth (disjunction parts) value env
  from_any [] value env h = h
  from_any (f ∷ parts) value env h = h

  pub into_any : (parts : List FormulaTree) (value : Bool) (env : List ℕ) → Truth (disjunction parts) value env
      → Truth (any_of parts) value env
  into_any [] value env h = h
  into_any (f ∷ parts) value env h = h

  module _ {A : Type 0} (m : A → FormulaTree) where
    from_parts : (xs : List A) (env : List ℕ) → Truth (disjunction (map m xs)) true env → (x : A) × LiesIn xs x
        × Truth (m x) true env
    from_parts [] env h = no_truth h
    from_parts (x ∷ xs) env (inl h) = (x, (0, refl), h)
    from_parts (x ∷ xs) env (inr h) = let w = from_parts xs env h in (w.0, lies_behind x xs w.0 w.1, w.2)

    into_parts : (xs : List A) (x : A) (env : List ℕ) (k : ℕ) → slice_get xs k ≡ Some x → Truth (m x) true env
        → Truth (disjunction (map m xs)) true env
    into_parts [] x env k e h = cc
    into_parts (y ∷ xs) x env zero e h = let v : y ≡ x = cc in inl (rw v h)
    into_parts (y ∷ xs) x env (suc k) e h = inr (into_parts xs x env k e h)

    from_no_parts : (xs : List A) (x : A) (env : List ℕ) (k : ℕ) → slice_get xs k ≡ Some x
        → Truth (disjunction (map m xs)) false env → Truth (m x) false env
    from_no_parts [] x env k e h = cc
    from_no_parts (y ∷ xs) x env zero e h = let v : x ≡ y = cc in rw v (h.0)
    from_no_parts (y ∷ xs) x env (suc k) e h = from_no_parts xs x env k e h.1

    into_no_parts : (xs : List A) (env : List ℕ) → ((x : A) → LiesIn xs x → Truth (m x) false env)
        → Truth (disjunction (map m xs)) false env
    into_no_parts [] env h = refl
    into_no_parts (x ∷ xs) env h = (h x (0, refl), into_no_parts xs env (λ y w. h y (lies_behind x xs y w)))

    pub from_some : (xs : List A) (env : List ℕ) → Truth (any_of (map m xs)) true env → (x : A) × LiesIn xs x
        × Truth (m x) true env
    from_some xs env h = from_parts xs env (from_any (map m xs) true env h)

    pub into_some : (xs : List A) (x : A) (env : List ℕ) → LiesIn xs x → Truth (m x) true env → Truth (any_of (map m xs)) true env
    into_some xs x env w h = into_any (map m xs) true env (into_parts xs x env w.0 w.1 h)

    pub from_none : (xs : List A) (x : A) (env : List ℕ) → LiesIn xs x → Truth (any_of (map m xs)) false env
        → Truth (m x) false env
    from_none xs x env w h = from_no_parts xs x env w.0 w.1 (from_any (map m xs) false env h)

    pub into_none : (xs : List A) (env : List ℕ) → ((x : A) → LiesIn xs x → Truth (m x) false env)
        → Truth (any_of (map m xs)) false env
    into_none xs env h = into_any (map m xs) false env (into_no_parts xs env h)

  -- Two lists of parts.

  pub from_joined : (fs gs : List FormulaTree) (env : List ℕ) → Truth (disjunction (fs ++ gs)) true env
      → Truth (disjunction fs) true env ⊎ Truth (disjunction gs) true env
  from_joined [] gs env h = inr h
  from_joined (f ∷ fs) gs env (inl h) = inl (inl h)
  from_joined (f ∷ fs) gs env (inr h) = elim (from_joined fs gs env h) [ inl k ↦ inl (inr k) | inr k ↦ inr k ]

  pub into_first : (fs gs : List FormulaTree) (env : List ℕ) → Truth (disjunction fs) true env
      → Truth (disjunction (fs ++ gs)) true env
  into_first [] gs env h = no_truth h
  into_first (f ∷ fs) gs env (inl h) = inl h
  into_first (f ∷ fs) gs env (inr h) = inr (into_first fs gs env h)

  pub into_second : (fs gs : List FormulaTree) (env : List ℕ) → Truth (disjunction gs) true env
      → Truth (disjunction (fs ++ gs)) true env
  into_second [] gs env h = h
  into_second (f ∷ fs) gs env h = inr (into_second fs gs env h)

  pub from_none_joined : (fs gs : List FormulaTree) (env : List ℕ) → Truth (disjunction (fs ++ gs)) false env
      → Truth (disjunction fs) false env × Truth (disjunction gs) false env
  from_none_joined [] gs env h = (refl, h)
  from_none_joined (f ∷ fs) gs env h = let w = from_none_joined fs gs env h.1 in ((h.0, w.0), w.1)

  pub into_none_joined : (fs gs : List FormulaTree) (env : List ℕ) → Truth (disjunction fs) false env
      → Truth (disjunction gs) false env
      → Truth (disjunction (fs ++ gs)) false env
  into_none_joined [] gs env h k = k
  into_none_joined (f ∷ fs) gs env h k = (h.0, into_none_joined fs gs env h.1 k)
