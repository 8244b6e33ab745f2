-- Fronts that are as long as they can be.
use Rattle.std.proofs.Common.{◌≡◌, ℕ, ◌+◌, suc, Bool, true, false, cond, List, [], ◌∷◌, ◌++◌, take, drop, refl, sym, ◌∙◌, subst, arith}
use Rattle.std.specs.List.{prefix_len}
use Rattle.std.proofs.lemmas.Bool.{false≢true}
use Rattle.std.proofs.lemmas.List.Elements.{All-nil, All-cons, All-head, All-tail}
use Rattle.query_tokens.specs.Fronts.{Stops, IsLongest}

longest_more : (test : ℕ → Bool) (x : ℕ) (xs : List ℕ) (b : Bool) → test x ≡ b → IsLongest test (take (prefix_len test xs) xs) (drop (prefix_len test xs) xs)
    → IsLongest test (take (cond b (1 + prefix_len test xs) 0) (x ∷ xs)) (drop (cond b (1 + prefix_len test xs) 0) (x ∷ xs))
longest_more test x xs true pass more =
    let e : 1 + prefix_len test xs ≡ suc (prefix_len test xs) = omega arith in
    rw e (record { passes = All-cons (λ byte. test byte ≡ true) x (take (prefix_len test xs) xs) pass more.passes; stops = more.stops })
longest_more test x xs false fail more = record { passes = All-nil (λ byte. test byte ≡ true); stops = fail }

-- the front of so many bytes as pass
pub longest_front : (test : ℕ → Bool) (xs : List ℕ) → IsLongest test (take (prefix_len test xs) xs) (drop (prefix_len test xs) xs)
longest_front test [] = record { passes = All-nil (λ byte. test byte ≡ true); stops = tt }
longest_front test (x ∷ xs) = longest_more test x xs (test x) refl (longest_front test xs)

-- a text has one front that is as long as it can be
pub longest_is_one : (test : ℕ → Bool) (front others rest behind : List ℕ) → front ++ rest ≡ others ++ behind → IsLongest test front rest → IsLongest test others behind
    → (front ≡ others) × (rest ≡ behind)
longest_is_one test [] [] rest behind same first second = (refl, same)
longest_is_one test [] (y ∷ ys) rest behind same first second =
    let stops : test y ≡ false = let P : List ℕ → Type 0 = λ xs. Stops test xs in subst P same first.stops in
    let passes : test y ≡ true = All-head (λ byte. test byte ≡ true) y ys second.passes in
    absurd (false≢true (sym stops ∙ passes))
longest_is_one test (x ∷ xs) [] rest behind same first second =
    let stops : test x ≡ false = let P : List ℕ → Type 0 = λ zs. Stops test zs in subst P (sym same) second.stops in
    let passes : test x ≡ true = All-head (λ byte. test byte ≡ true) x xs first.passes in
    absurd (false≢true (sym stops ∙ passes))
longest_is_one test (x ∷ xs) (y ∷ ys) rest behind same first second =
    let head : x ≡ y = cc in
    let tail : xs ++ rest ≡ ys ++ behind = cc in
    let more : (xs ≡ ys) × (rest ≡ behind) = longest_is_one test xs ys rest behind tail
    (record { passes = All-tail (λ byte. test byte ≡ true) x xs first.passes; stops = first.stops })
    (record { passes = All-tail (λ byte. test byte ≡ true) y ys second.passes; stops = second.stops }) in
    let e : xs ≡ ys = more.0 in
    (cc, more.1)
