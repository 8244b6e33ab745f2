-- What opens a banner, by the words of the line.
use Rattle.std.proofs.Common.{◌≡◌, ℕ, suc, ◌+◌, ◌<◌, ◌≤◌, Bool, true, false, List, [], ◌∷◌, ◌++◌, length, take, drop, get_or, codes, refl, sym, ap, ◌∙◌, ⊎_elim, arith, add-one, length-append, drop-cons}
use Rattle.std.proofs.Math.ListN.{drop_of_length-le}
use Rattle.std.specs.List.{filter, prefix_len, position_or_len, before_first}
use Rattle.std.proofs.lemmas.Bool.{cases_lt}
use Rattle.std.proofs.lemmas.List.{take_all}
use Rattle.std.proofs.lemmas.List.Splits.{slice_split-cons_yes}
use Rattle.std.proofs.lemmas.List.Sums.{passes_at_first}
use Rattle.ios_lex.specs.Words.{is_gap, is_some_text, words_of, from_next_word}
use Rattle.ios_lex.specs.Banner.{Opens}
use Rattle.ios_lex.specs.Lines.{is_indented}
use Rattle.ios_lex.proofs.LineWords.{words_first, words_last, kept}
use Rattle.ios_lex.proofs.NextWords.{some_first, next_is_word, shorter}
use Rattle.ios_lex.proofs.OpenedTexts.{opens_named, opens_third, opens_next}

words_of_gap : (x : ℕ) (xs : List ℕ) → is_gap x ≡ true → words_of (x ∷ xs) ≡ words_of xs
words_of_gap x xs gap = ap (filter is_some_text) (slice_split-cons_yes is_gap x xs gap)

skip_gap : (text : List ℕ) → words_of (drop (prefix_len is_gap text) text) ≡ words_of text
skip_gap [] = refl
skip_gap (x ∷ xs) = by_case (is_gap x) refl (skip_gap xs)
  where
    by_case : (b : Bool) → is_gap x ≡ b → words_of (drop (prefix_len is_gap xs) xs) ≡ words_of xs → words_of (drop (prefix_len is_gap (x ∷ xs)) (x ∷ xs)) ≡ words_of (x ∷ xs)
    by_case true gap rest =
        let more : prefix_len is_gap (x ∷ xs) ≡ suc (prefix_len is_gap xs) = rw gap (omega arith) in
        ap (λ n. words_of (drop n (x ∷ xs))) more ∙ rest ∙ sym (words_of_gap x xs gap)
    by_case false word rest =
        let none : prefix_len is_gap (x ∷ xs) ≡ 0 = rw word refl in
        ap (λ n. words_of (drop n (x ∷ xs))) none

-- the first part, and the words of the rest
words_from : (line : List ℕ) → words_of line ≡ filter is_some_text (before_first is_gap line ∷ []) ++ words_of (from_next_word line)
words_from line = ⊎_elim inside past (cases_lt (position_or_len is_gap line) (length line))
  where
    inside : position_or_len is_gap line < length line → words_of line ≡ filter is_some_text (before_first is_gap line ∷ []) ++ words_of (from_next_word line)
    inside within =
        let end : ℕ = position_or_len is_gap line in
        let cut : drop end line ≡ get_or line end 0 ∷ drop (end + 1) line = rw add-one (drop-cons line end 0 within) in
        words_first line end refl within
        ∙ ap (λ words. filter is_some_text (take end line ∷ []) ++ words) (sym (words_of_gap (get_or line end 0) (drop (end + 1) line) (passes_at_first is_gap line 0 within)) ∙ sym (ap words_of cut) ∙ sym (skip_gap (drop end line)))

    past : length line ≤ position_or_len is_gap line → words_of line ≡ filter is_some_text (before_first is_gap line ∷ []) ++ words_of (from_next_word line)
    past over =
        let end : ℕ = position_or_len is_gap line in
        let none : from_next_word line ≡ [] = ap (λ (b : List ℕ). drop (prefix_len is_gap b) b) (drop_of_length-le line over) in
        words_last line end refl over
        ∙ ap (λ (t : List ℕ). filter is_some_text (t ∷ []) ++ words_of []) (sym (take_all end line over))
        ∙ ap (λ (t : List ℕ). filter is_some_text (before_first is_gap line ∷ []) ++ words_of t) (sym none)

first_word : (line : List ℕ) → 0 < length line → is_gap (get_or line 0 0) ≡ false → words_of line ≡ before_first is_gap line ∷ words_of (from_next_word line)
first_word line some word = words_from line ∙ ap (λ words. words ++ words_of (from_next_word line)) (kept (before_first is_gap line) (some_first line some word))

-- the line of a banner is not indented
pub opens_unindented : (line text : List ℕ) → Opens line text → is_indented line ≡ false
opens_unindented line text opens = rw opens.whole refl

-- and has three words, the first of them banner
pub opens_words : (line text : List ℕ) → Opens line text → (second : List ℕ) × (third : List ℕ) × (more : List (List ℕ)) × (words_of line ≡ codes "banner" ∷ second ∷ third ∷ more)
opens_words line text opens =
    let behind : List ℕ = from_next_word line in
    let some : 0 < length (from_next_word behind) = omega (arith, ap length (opens_third line text opens), opens.some) in
    let some_behind : 0 < length behind = omega (arith, some, shorter behind) in
    let first = first_word line (omega (arith, some_behind, shorter line)) (opens_unindented line text opens) in
    let second = first_word behind some_behind (next_is_word line some_behind) in
    let third = first_word (from_next_word behind) some (next_is_word behind some) in
    (before_first is_gap behind, before_first is_gap (from_next_word behind), words_of (from_next_word (from_next_word behind)), first ∙ ap (λ (w : List ℕ). w ∷ words_of behind) (opens_named line text opens) ∙ ap (λ (w : List (List ℕ)). codes "banner" ∷ w) (second ∙ ap (λ (w : List (List ℕ)). before_first is_gap behind ∷ w) third))

at_most_one : (word : List ℕ) → length (filter is_some_text (word ∷ [])) ≤ 1
at_most_one [] = omega arith
at_most_one (y ∷ ys) = omega (arith, ap length (kept (y ∷ ys) (omega arith)))

two_words : (text : List ℕ) → 2 ≤ length (words_of text) → 0 < length (from_next_word text)
two_words text many = ⊎_elim (λ some. some) (λ none. absurd (few none)) (cases_lt 0 (length (from_next_word text)))
  where
    no_words : (rest : List ℕ) → length rest ≤ 0 → length (words_of rest) ≡ 0
    no_words [] none = refl
    no_words (y ∷ ys) none = absurd (omega arith)

    few : length (from_next_word text) ≤ 0 → ⊥
    few none = omega (arith, many, ap length (words_from text), length-append (filter is_some_text (before_first is_gap text ∷ [])) (words_of (from_next_word text)), at_most_one (before_first is_gap text), no_words (from_next_word text) none)

-- and each such line opens a banner
pub words_open : (line second third : List ℕ) (more : List (List ℕ)) → is_indented line ≡ false → words_of line ≡ codes "banner" ∷ second ∷ third ∷ more → (text : List ℕ) × Opens line text
words_open [] second third more unindented words =
    let empty : 0 ≡ 3 + length more = ap length words ∙ omega arith in
    absurd (omega (arith, empty))
words_open (x ∷ xs) second third more unindented words =
    let behind : List ℕ = from_next_word (x ∷ xs) in
    let first = first_word (x ∷ xs) (omega arith) unindented in
    let whole : before_first is_gap (x ∷ xs) ∷ words_of behind ≡ codes "banner" ∷ second ∷ third ∷ more = sym first ∙ words in
    let named : before_first is_gap (x ∷ xs) ≡ codes "banner" = cc in
    let rest : words_of behind ≡ second ∷ third ∷ more = cc in
    (from_next_word behind, opens_next (x ∷ xs) named (two_words behind (omega (arith, ap length rest))))
