-- What begins a text: a gap, a word, a quoted text.
use Rattle.std.proofs.Common.{◌≡◌, ℕ, ◌+◌, ◌<◌, ◌≤◌, suc, Bool, true, false, cond, List, [], ◌∷◌, ◌++◌, length, take, drop, get_or, refl, sym, ◌∙◌, ap, arith, rules}
use Rattle.std.specs.List.{AllPass, prefix_len}
use Rattle.std.proofs.lemmas.List.{take-append-drop}
use Rattle.query_tokens.specs.Fronts.{Stops, IsLongest}
use Rattle.query_tokens.specs.Tokens.{BeginsGap, is_blank, is_in_line, is_quotable}
use Rattle.query_tokens.specs.Tokens.IsGap.{blank, comment}
use Rattle.std.specs.Char.{is_ascii_alphabetic}
use Rattle.query_tokens.specs.Words.{IsWord, begins_word, continues_word, begins_with_letter}
use Rattle.query_tokens.proofs.Longest.{longest_front, longest_is_one}

-- the first byte is blank
pub blank_begins : (text front back : List ℕ) → 0 < length text → is_blank (get_or text 0 0) ≡ true → front ≡ take 1 text → back ≡ drop 1 text → BeginsGap text front back
blank_begins [] front back some is taken left = absurd (omega arith)
blank_begins (x ∷ xs) front back some is taken left = rw (taken, left) (record { whole = refl; is = blank x xs is })

-- two dashes stand in front
pub comment_begins : (text line front back : List ℕ) (n : ℕ) → 2 ≤ length text → get_or text 0 0 ≡ 45 → get_or text 1 0 ≡ 45 → line ≡ drop 2 text → n ≡ prefix_len is_in_line line
    → front ≡ take (2 + n) text → back ≡ drop (2 + n) text → BeginsGap text front back
comment_begins [] line front back n two first second behind len taken left = absurd (omega arith)
comment_begins (x ∷ []) line front back n two first second behind len taken left = absurd (omega arith)
comment_begins (x ∷ y ∷ xs) line front back n two first second behind len taken left =
    let e : 2 + n ≡ suc (suc n) = omega arith in
    let longest : IsLongest is_in_line (take n xs) (drop n xs) = rw (len, behind) (longest_front is_in_line xs) in
    rw (taken, left, e, first, second) (record { whole = ap (λ zs. 45 ∷ 45 ∷ zs) (sym (take-append-drop n xs)); is = comment (take n xs) (drop n xs) longest })

word_begins_more : (x : ℕ) (xs : List ℕ) (b : Bool) → begins_word x ≡ true → continues_word x ≡ b → IsWord (take (cond b (1 + prefix_len continues_word xs) 0) (x ∷ xs))
word_begins_more x xs true begins continues =
    let e : 1 + prefix_len continues_word xs ≡ suc (prefix_len continues_word xs) = omega arith in
    let longest : IsLongest continues_word (take (prefix_len continues_word xs) xs) (drop (prefix_len continues_word xs) xs) = longest_front continues_word xs in
    rw e (begins, longest.passes)
word_begins_more x xs false begins continues = absurd (grind (arith, rules))

-- a byte with which a word begins stands in front
pub word_begins : (text front : List ℕ) (n : ℕ) → 0 < length text → begins_word (get_or text 0 0) ≡ true → n ≡ prefix_len continues_word text → front ≡ take n text → IsWord front
word_begins [] front n some is len taken = absurd (omega arith)
word_begins (x ∷ xs) front n some is len taken = rw (taken, len) (word_begins_more x xs (continues_word x) is refl)

-- and no byte with which a word goes on stands behind
pub word_stops : (text back : List ℕ) (n : ℕ) → n ≡ prefix_len continues_word text → back ≡ drop n text → Stops continues_word back
word_stops text back n len left = let longest : IsLongest continues_word (take (prefix_len continues_word text) text) (drop (prefix_len continues_word text) text) = longest_front continues_word text in rw (left, len) longest.stops

-- the bytes behind the first quote that may stand between two
pub quoted_passes : (behind front : List ℕ) (n : ℕ) → n ≡ prefix_len is_quotable behind → front ≡ take n behind → AllPass is_quotable front
quoted_passes behind front n len taken =
    let longest : IsLongest is_quotable (take (prefix_len is_quotable behind) behind) (drop (prefix_len is_quotable behind) behind) = longest_front is_quotable behind in
    rw (taken, len) longest.passes

-- no quote stands behind them
pub no_quoted : (text behind left : List ℕ) (n : ℕ) → behind ≡ drop 1 text → n ≡ prefix_len is_quotable behind → left ≡ drop n behind → ((rest : List ℕ) → left ≡ 34 ∷ rest → ⊥)
    → (inner rest : List ℕ) → text ≡ 34 ∷ (inner ++ 34 ∷ rest) → AllPass is_quotable inner → ⊥
no_quoted text behind left n back len taken none inner rest whole passes =
    let split : behind ≡ inner ++ 34 ∷ rest = back ∙ ap (drop 1) whole in
    let longest : IsLongest is_quotable (take (prefix_len is_quotable behind) behind) (drop (prefix_len is_quotable behind) behind) = longest_front is_quotable behind in
    let parts : take (prefix_len is_quotable behind) behind ++ drop (prefix_len is_quotable behind) behind ≡ inner ++ 34 ∷ rest = take-append-drop (prefix_len is_quotable behind) behind ∙ split in
    let one = longest_is_one is_quotable _ inner _ (34 ∷ rest) parts longest (record { passes = passes; stops = refl }) in
    none rest (taken ∙ (ap (λ m. drop m behind) len ∙ one.1))

-- whether a word begins with a letter, its first byte says
pub letter_first : (word : List ℕ) (letter : Bool) → IsWord word → is_ascii_alphabetic (get_or word 0 0) ≡ letter → begins_with_letter word ≡ letter
letter_first [] letter is same = absurd is
letter_first (x ∷ xs) letter is same = same
