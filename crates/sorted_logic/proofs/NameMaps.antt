-- Maps of names, as they are kept and with some more.
use Rattle.std.specs.Prelude.{◌≡◌, ℕ, zero, suc, ◌+◌, Bool, true, false, ◌||◌, cond, List, [], ◌∷◌, ◌++◌, Option, Some, None, map, take, find, is_some, option_map, slice_get, refl}
use Rattle.std.specs.List.{IsDistinct}
use Rattle.std.specs.Map.{keys_of, lookup}
use Rattle.std.specs.Str.{bytes_eq}
use Rattle.std.proofs.Common.{ap, ◌∙◌, arith}
use Rattle.std.proofs.lemmas.Map.Keys.{IsDistinct-head, IsDistinct-tail}
use Rattle.std.proofs.lemmas.Option.{slice_get-map}
use Rattle.sorted_logic.specs.declared.declarations.Symbol.{Symbol}
use Rattle.sorted_logic.specs.declared.fault.SigFault.{SigFault}
use Rattle.sorted_logic.specs.declared.fault.SigFault.TheVariants as sig_fault
use Rattle.sorted_logic.specs.Adding.{IsReason}
use Rattle.sorted_logic.specs.Inside.Kept.{Meant, meaning}
use Rattle.sorted_logic.proofs.Places.{all_at, differ_flipped}

module _ {K : Type 0} (form : K → List ℕ) where
  -- an entry of the map as contracts see it
  abbrev pub seen : K × Symbol → Meant
  seen entry = record { name = form entry.0; symbol = entry.1 }

  pub looked_up : (name : List ℕ) (es : List (K × Symbol)) → meaning (map seen es) name ≡ lookup (λ k. bytes_eq name (form k)) es
  looked_up name [] = refl
  looked_up name (e ∷ es) = go (bytes_eq name (form e.0)) (looked_up name es)
    where
      go : (b : Bool) → meaning (map seen es) name ≡ lookup (λ k. bytes_eq name (form k)) es
          → option_map (λ m. m.symbol) (cond b (Some (seen e)) (find (λ m. bytes_eq name m.name) (map seen es)))
          ≡ cond b (Some e.1) (lookup (λ k. bytes_eq name (form k)) es)
      go true h = refl
      go false h = h

  pub seen_push : (es : List (K × Symbol)) (k : K) (s : Symbol) (name : List ℕ) → form k ≡ name
      → map seen (es ++ (k, s) ∷ []) ≡ map seen es ++ (record { name = name; symbol = s }) ∷ []
  seen_push [] k s name h = rw h refl
  seen_push (e ∷ es) k s name h = ap (λ rest. seen e ∷ rest) (seen_push es k s name h)

  -- the names before one are others
  pub new_at : (es : List (K × Symbol)) (k : ℕ) (e : K × Symbol) → IsDistinct (λ x y. bytes_eq (form x) (form y)) (keys_of es)
      → slice_get es k ≡ Some e → meaning (take k (map seen es)) (form e.0) ≡ None
  new_at [] k e h q = cc
  new_at (x ∷ es) zero e h q = refl
  new_at (x ∷ es) (suc k) e h q = rw (differ_flipped (form x.0) (form e.0)
      (all_at (λ y. bytes_eq (form x.0) (form y) ≡ false) (λ e. e.0) es k e (IsDistinct-head (λ x y. bytes_eq (form x) (form y)) x.0 (keys_of es) h) q))
      (new_at es k e (IsDistinct-tail (λ x y. bytes_eq (form x) (form y)) x.0 (keys_of es) h) q)

pub take_one : {A : Type 0} (xs : List A) (k : ℕ) (x : A) → slice_get xs k ≡ Some x → take (k + 1) xs ≡ take k xs ++ x ∷ []
take_one {A} xs k x h = ap (λ n. take n xs) (one k) ∙ go xs k h
  where
    one : (n : ℕ) → n + 1 ≡ suc n
    one n = omega arith

    go : (xs : List A) (k : ℕ) → slice_get xs k ≡ Some x → take (suc k) xs ≡ take k xs ++ x ∷ []
    go [] k h = cc
    go (y ∷ ys) zero h = let z : y ≡ x = cc in ap (λ w. w ∷ []) z
    go (y ∷ ys) (suc k) h = ap (λ rest. y ∷ rest) (go ys k h)

-- what stands at a place of the map as contracts see it
pub seen_at : {K : Type 0} (form : K → List ℕ) (es : List (K × Symbol)) (k : ℕ) (e : K × Symbol) → slice_get es k ≡ Some e
    → slice_get (map (seen form) es) k ≡ Some (seen form e)
seen_at form es k e h = slice_get-map (seen form) es k ∙ ap (option_map (seen form)) h

pub absent : {X : Type 0} (x : Option X) → is_some x ≡ false → x ≡ None
absent None none = refl
absent (Some x) none = cc none

pub reason_of_first : (a b : Bool) (fault : SigFault) → IsReason a false fault → IsReason (a || b) false fault
reason_of_first true b fault h = h
reason_of_first false b sig_fault.Duplicate h = absurd (no h)
  where
    no : false ≡ true → ⊥
    no h = cc
reason_of_first false b sig_fault.IllSorted h = h
reason_of_first false b sig_fault.NoMemory h = h
