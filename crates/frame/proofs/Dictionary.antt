-- Lists of numbers in the order of the dictionary: which is least, and that only the same list is not behind and not before.
use Rattle.std.proofs.Common.{◌≡◌, ℕ, zero, suc, ◌<◌, ◌≤◌, Bool, true, false, List, [], ◌∷◌, map, refl, sym, ap, ap₂, ◌∙◌, ◌⊎◌, inl, inr, arith}
use Rattle.std.proofs.Math.Nat.{eq-or-lt_of_le}
use Rattle.std.proofs.lemmas.Bool.{cases_lt}
use Rattle.cnf.specs.Order.{LexLe}
use Rattle.frame.specs.Scenario.{IsNotBehind}

-- of the things with a property, one has the least number; under a double negation this takes no search
least_number : {A : Type 0} (P : A → Type 0) (number : A → ℕ) (most : ℕ) (a : A) → P a → number a ≤ most → ((b : A) → P b → ((c : A) → P c → number b ≤ number c) → ⊥) → ⊥
least_number P number zero a has small none = none a has (λ c other. omega (arith, small))
least_number P number (suc most) a has small none = none a has (λ c other. elim (cases_lt (number c) (number a)) [ inl less ↦ absurd (least_number P number most c other (omega (arith, small, less)) none) | inr least ↦ least ])

less_or_same : (x y z : ℕ) (xs ys : List ℕ) → x ≡ z → z ≤ y → (z ≡ y → IsNotBehind xs ys) → IsNotBehind (x ∷ xs) (y ∷ ys)
less_or_same x y z xs ys is at_most rest =
    elim (eq-or-lt_of_le at_most) [
      | inl same ↦ inr (is ∙ same, rest same)
      | inr less ↦ inl (omega (arith, is, less))
    ]

-- and one has the least list of numbers
pub least_list : {A I : Type 0} (number : A → I → ℕ) (items : List I) (P : A → Type 0) (a : A) → P a → ((b : A) → P b → ((c : A) → P c → IsNotBehind (map (number b) items) (map (number c) items)) → ⊥) → ⊥
least_list number [] P a has none = none a has (λ c other. tt)
least_list number (item ∷ items) P a has none =
    least_number P (λ b. number b item) (number a item) a has (omega arith) (λ b first least.
    least_list number items (λ c. P c × (number c item ≡ number b item)) b (first, refl) (λ d second rest.
    none d second.0 (λ c other.
    less_or_same (number d item) (number c item) (number b item) (map (number d) items) (map (number c) items) second.1 (least c other)
    (λ same. rest c (other, sym same)))))

pub IsNotBehind-antisym : (xs ys : List ℕ) → IsNotBehind xs ys → IsNotBehind ys xs → xs ≡ ys
IsNotBehind-antisym [] [] front back = refl
IsNotBehind-antisym [] (y ∷ ys) front back = absurd back
IsNotBehind-antisym (x ∷ xs) [] front back = absurd front
IsNotBehind-antisym (x ∷ xs) (y ∷ ys) (inl less) (inl more) = absurd (omega (arith, less, more))
IsNotBehind-antisym (x ∷ xs) (y ∷ ys) (inl less) (inr same) = absurd (omega (arith, less, same.0))
IsNotBehind-antisym (x ∷ xs) (y ∷ ys) (inr same) (inl more) = absurd (omega (arith, more, same.0))
IsNotBehind-antisym (x ∷ xs) (y ∷ ys) (inr same) (inr also) = ap₂ ◌∷◌ same.0 (IsNotBehind-antisym xs ys same.1 also.1)

-- false is 0 and true is 1
abbrev pub digit : Bool → ℕ
digit false = 0
digit true = 1

-- the dictionary of Bools is that of their digits
pub LexLe-digits : {I : Type 0} (one other : I → Bool) (items : List I) → IsNotBehind (map (λ i. digit (one i)) items) (map (λ i. digit (other i)) items) → LexLe (map one items) (map other items)
LexLe-digits one other [] h = tt
LexLe-digits one other (item ∷ items) h = next (one item) (other item) (LexLe-digits one other items) h
  where
    next : (a b : Bool) → (IsNotBehind (map (λ i. digit (one i)) items) (map (λ i. digit (other i)) items) → LexLe (map one items) (map other items)) →
        (digit a < digit b) ⊎ ((digit a ≡ digit b) × IsNotBehind (map (λ i. digit (one i)) items) (map (λ i. digit (other i)) items)) → LexLe (a ∷ map one items) (b ∷ map other items)
    next false true rest h = tt
    next true false rest (inl less) = absurd (omega (arith, less))
    next true false rest (inr same) = absurd (omega (arith, same.0))
    next false false rest (inl less) = absurd (omega (arith, less))
    next false false rest (inr same) = rest same.1
    next true true rest (inl less) = absurd (omega (arith, less))
    next true true rest (inr same) = rest same.1

pub LexLe-antisym : (xs ys : List Bool) → LexLe xs ys → LexLe ys xs → xs ≡ ys
LexLe-antisym [] [] front back = refl
LexLe-antisym [] (y ∷ ys) front back = absurd back
LexLe-antisym (x ∷ xs) [] front back = absurd front
LexLe-antisym (false ∷ xs) (true ∷ ys) front back = absurd back
LexLe-antisym (true ∷ xs) (false ∷ ys) front back = absurd front
LexLe-antisym (false ∷ xs) (false ∷ ys) front back = ap (λ zs. false ∷ zs) (LexLe-antisym xs ys front back)
LexLe-antisym (true ∷ xs) (true ∷ ys) front back = ap (λ zs. true ∷ zs) (LexLe-antisym xs ys front back)
