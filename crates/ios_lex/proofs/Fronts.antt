-- Two ways to cut words in two.
use Rattle.std.proofs.Common.{◌≡◌, ◌⊎◌, inl, inr, ℕ, List, [], ◌∷◌, ◌++◌, refl}
use Rattle.ios_lex.specs.Phrases.{Words}

-- of two fronts one goes on from the other
pub fronts : (front back front' back' : Words) → front ++ back ≡ front' ++ back'
    → ((between : Words) × (front' ≡ front ++ between) × (back ≡ between ++ back')) ⊎ ((between : Words) × (front ≡ front' ++ between) × (back' ≡ between ++ back))
fronts [] back front' back' same = inl (front', refl, same)
fronts (x ∷ xs) back [] back' same = inr (x ∷ xs, refl, cc)
fronts (x ∷ xs) back (y ∷ ys) back' same = further (fronts xs back ys back' (cc))
  where
    further : ((between : Words) × (ys ≡ xs ++ between) × (back ≡ between ++ back')) ⊎ ((between : Words) × (xs ≡ ys ++ between) × (back' ≡ between ++ back))
        → ((between : Words) × (y ∷ ys ≡ (x ∷ xs) ++ between) × (back ≡ between ++ back')) ⊎ ((between : Words) × (x ∷ xs ≡ (y ∷ ys) ++ between) × (back' ≡ between ++ back))
    further (inl h) = inl (h.0, cc, h.2)
    further (inr h) = inr (h.0, cc, h.2)

-- one that goes on from another, but for one word, is it or goes on behind that word
pub front_behind : (front : Words) (word : List ℕ) (back front' back' : Words) → front ++ word ∷ back ≡ front' ++ back'
    → ((between : Words) × (front' ≡ (front ++ word ∷ []) ++ between)) ⊎ ((between : Words) × (front ≡ front' ++ between))
front_behind [] word back [] back' same = inr ([], refl)
front_behind [] word back (y ∷ ys) back' same = inl (ys, cc)
front_behind (x ∷ xs) word back [] back' same = inr (x ∷ xs, refl)
front_behind (x ∷ xs) word back (y ∷ ys) back' same = further (front_behind xs word back ys back' (cc))
  where
    further : ((between : Words) × (ys ≡ (xs ++ word ∷ []) ++ between)) ⊎ ((between : Words) × (xs ≡ ys ++ between))
        → ((between : Words) × (y ∷ ys ≡ ((x ∷ xs) ++ word ∷ []) ++ between)) ⊎ ((between : Words) × (x ∷ xs ≡ (y ∷ ys) ++ between))
    further (inl h) = inl (h.0, cc)
    further (inr h) = inr (h.0, cc)

pub append_none : (words more : Words) → words ++ more ≡ [] → (words ≡ []) × (more ≡ [])
append_none [] more none = (refl, none)
append_none (x ∷ xs) more none = absurd (cc)
