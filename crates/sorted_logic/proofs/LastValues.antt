-- What was put last is answered.
use Rattle.std.specs.Prelude.{◌≡◌, ℕ, zero, suc, ◌<◌, Bool, true, false, ◌&&◌, ◌==◌, if◌then◌else◌, List, [], ◌∷◌, ◌++◌, Some, None, length, slice_set, refl}
use Rattle.std.specs.Option.{option_or}
use Rattle.std.specs.Str.{bytes_eq}
use Rattle.std.proofs.Common.{ap, sym, ◌∙◌, subst, arith, eqb-true, eq-eqb}
use Rattle.sorted_logic.specs.declared.universe.Entry.{Entry}
use Rattle.sorted_logic.specs.Finite.{row, last_value}
use Rattle.sorted_logic.specs.Laws.{LastIsAnswered}

-- the last entry of a list comes first
value_behind : (entries : List Entry) (entry : Entry) (elements : List ℕ)
    → last_value (entries ++ entry ∷ []) elements
    ≡ (if bytes_eq entry.args elements then Some entry.value else last_value entries elements)
value_behind [] entry elements = go (bytes_eq entry.args elements)
  where
    go : (b : Bool) → option_or None (if b then Some entry.value else None) ≡ (if b then Some entry.value else None)
    go true = refl
    go false = refl
value_behind (first ∷ entries) entry elements = rw (value_behind entries entry elements)
    (go (bytes_eq entry.args elements))
  where
    go : (b : Bool) → option_or (if b then Some entry.value else last_value entries elements)
        (if bytes_eq first.args elements then Some first.value else None)
        ≡ (if b then Some entry.value else option_or (last_value entries elements)
        (if bytes_eq first.args elements then Some first.value else None))
    go true = refl
    go false = refl

row_same : {A : Type 0} (rows : List (List A)) (f : ℕ) (new : List A) → f < length rows → row (slice_set rows f new) f ≡ new
row_same [] f new l = absurd (omega (arith, l))
row_same (first ∷ rows) zero new l = refl
row_same (first ∷ rows) (suc f) new l = row_same rows f new (omega (arith, l))

row_other : {A : Type 0} (rows : List (List A)) (f g : ℕ) (new : List A) → (g ≡ f → ⊥) → row (slice_set rows f new) g
    ≡ row rows g
row_other [] f g new n = refl
row_other (first ∷ rows) zero zero new n = absurd (n refl)
row_other (first ∷ rows) zero (suc g) new n = refl
row_other (first ∷ rows) (suc f) zero new n = refl
row_other (first ∷ rows) (suc f) (suc g) new n = row_other rows f g new (λ e. n (ap suc e))

pub row_set : {A : Type 0} (rows : List (List A)) (f g : ℕ) (new : List A) → f < length rows
    → row (slice_set rows f new) g ≡ (if g == f then new else row rows g)
row_set rows f g new l = go (g == f) refl
  where
    no : true ≡ false → ⊥
    no h = cc

    go : (b : Bool) → (g == f) ≡ b → row (slice_set rows f new) g ≡ (if b then new else row rows g)
    go true q = let e : g ≡ f = eqb-true g f q in subst (λ k. row (slice_set rows f new) k ≡ new) (sym e)
        (row_same rows f new l)
    go false q = row_other rows f g new (λ e. no (sym (eq-eqb g f e) ∙ q))

pub last_answered : LastIsAnswered
last_answered table f elements e l g others =
    rw (row_set table.values f g (row table.values f ++ (record { args = elements; value = e }) ∷ []) l) (go (g == f) refl)
  where
    go : (b : Bool) → (g == f) ≡ b
        → last_value (if b then row table.values f ++ (record { args = elements; value = e }) ∷
        [] else row table.values g) others
        ≡ (if b && bytes_eq elements others then Some e else last_value (row table.values g) others)
    go true q = value_behind (row table.values f) (record { args = elements; value = e }) others
        ∙ ap (λ h. if bytes_eq elements others then Some e else last_value (row table.values h) others) (sym (eqb-true g f q))
    go false q = refl
