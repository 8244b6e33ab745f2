-- The words of a line, one after the other.
use Rattle.std.proofs.Common.{◌≡◌, ℕ, map, ◌<◌, true, false, List, [], ◌∷◌, ◌++◌, length, ◌+◌, ◌≤◌, get_or, take, drop, refl, sym, ap, ◌∙◌, arith, append-nil, add-zero, length-drop}
use Rattle.std.specs.List.{All, filter, list_all, list_any, slice_split}
use Rattle.std.proofs.lemmas.Bool.{and_parts, false≢true, or_parts}
use Rattle.std.proofs.lemmas.List.{get_or-drop, length-take-le, take-append-drop}
use Rattle.std.proofs.lemmas.List.Elements.{All-nil, All-cons}
use Rattle.std.proofs.lemmas.List.Splits.{slice_split-cons_yes, slice_split_none, slice_split_at}
use Rattle.dimacs.specs.Words.{Placed, is_blank, is_comment, is_some_text, line_words, placed, words_at, words_from}

one_blank : (byte : ℕ) (line : List ℕ) → is_blank byte ≡ true → line_words (byte ∷ line) ≡ line_words line
unfolding line_words
one_blank byte line blank = ap (filter is_some_text) (slice_split-cons_yes is_blank byte line blank)

-- blanks before a word
pub behind_blanks : (blanks line : List ℕ) → list_all is_blank blanks ≡ true → line_words (blanks ++ line) ≡ line_words line
behind_blanks [] line all = refl
behind_blanks (byte ∷ blanks) line all =
    let parts = and_parts (is_blank byte) (list_all is_blank blanks) all in
    one_blank byte (blanks ++ line) parts.0 ∙ behind_blanks blanks line parts.1

none_blank : (word : List ℕ) → list_any is_blank word ≡ false → All (λ b. is_blank b ≡ false) word
none_blank [] none = All-nil (λ (b : ℕ). is_blank b ≡ false)
none_blank (byte ∷ bytes) none =
    let parts = or_parts (is_blank byte) (list_any is_blank bytes) none in
    All-cons (λ (b : ℕ). is_blank b ≡ false) byte bytes parts.0 (none_blank bytes parts.1)

some_word : (word : List ℕ) (words : List (List ℕ)) → 0 < length word → filter is_some_text (word ∷ words) ≡ word ∷ filter is_some_text words
some_word [] words some = absurd (omega arith)
some_word (byte ∷ bytes) words some = refl

-- the last word of a line
pub last_word : (word : List ℕ) → 0 < length word → list_any is_blank word ≡ false → line_words word ≡ word ∷ []
unfolding line_words
last_word word some none = ap (filter is_some_text) (slice_split_none is_blank word (none_blank word none)) ∙ some_word word [] some

pub no_word : line_words [] ≡ []
unfolding line_words
no_word = refl

-- a word with a blank behind it
pub blank_behind : (word : List ℕ) (blank : ℕ) (line : List ℕ) → 0 < length word → list_any is_blank word ≡ false → is_blank blank ≡ true → line_words (word ++ blank ∷ line) ≡ word ∷ line_words (blank ∷ line)
unfolding line_words
blank_behind word blank line some none is =
    ap (filter is_some_text) (slice_split_at is_blank word blank line (none_blank word none) is) ∙ some_word word (slice_split is_blank line) some
    ∙ ap (λ words. word ∷ words) (ap (filter is_some_text) (sym (slice_split-cons_yes is_blank blank line is)))

-- a word, and what begins with a blank or is nothing
pub first_of_line : (word line : List ℕ) → 0 < length word → list_any is_blank word ≡ false → (0 < length line → is_blank (get_or line 0 0) ≡ true) → line_words (word ++ line) ≡ word ∷ line_words line
first_of_line word [] some none behind = rw (append-nil, no_word) (last_word word some none)
first_of_line word (blank ∷ line) some none behind = blank_behind word blank line some none (behind (omega arith))

-- a line of blanks has no word
pub no_first_word : (line : List ℕ) (start : ℕ) → start ≤ length line → list_all is_blank (take start line) ≡ true → (start < length line → is_blank (get_or line start 0) ≡ false) → (0 < length (drop start line) → is_blank (get_or (drop start line) 0 0) ≡ true) → line_words line ≡ []
no_first_word line start within blank behind behind' =
    let parts : line ≡ take start line ++ drop start line = sym (take-append-drop start line) in
    rw parts (behind_blanks (take start line) (drop start line) blank ∙ ap line_words (nothing (drop start line) none) ∙ no_word)
  where
    none : 0 < length (drop start line) → ⊥
    none some =
        let inside : start < length line = omega (arith, length-drop start line) in
        let first : get_or (drop start line) 0 0 ≡ get_or line start 0 = get_or-drop start line 0 0 ∙ ap (λ i. get_or line i 0) (add-zero start) in
        false≢true (sym (behind inside) ∙ ap is_blank (sym first) ∙ behind' some)

    nothing : (xs : List ℕ) → (0 < length xs → ⊥) → xs ≡ []
    nothing [] empty = refl
    nothing (x ∷ xs) empty = absurd (empty (omega arith))

-- the word behind the blanks of a line
pub first_word_of : (line : List ℕ) (start end : ℕ) → list_all is_blank (take start line) ≡ true → (end ≡ 0 → ⊥) → end ≤ length (drop start line) → list_any is_blank (take end (drop start line)) ≡ false → (end < length (drop start line) → is_blank (get_or (drop start line) end 0) ≡ true) → line_words line ≡ take end (drop start line) ∷ line_words (drop end (drop start line))
first_word_of line start end blank some within word behind =
    let text = drop start line in
    sym (ap line_words (take-append-drop start line)) ∙ behind_blanks (take start line) text blank
    ∙ sym (ap line_words (take-append-drop end text))
    ∙ first_of_line (take end text) (drop end text) (omega (arith, length-take-le end text within)) word
    (λ more. let inside : end < length text = omega (arith, length-drop end text) in let first : get_or (drop end text) 0 0 ≡ get_or text end 0 = get_or-drop end text 0 0 ∙ ap (λ i. get_or text i 0) (add-zero end) in rw first (behind inside))

-- the words of a comment, and of another line
pub commented : (number : ℕ) (line : List ℕ) → is_comment line ≡ true → words_at number line ≡ []
commented number line is = rw is refl

pub uncommented : (number : ℕ) (line : List ℕ) → is_comment line ≡ false → map (placed number) (line_words line) ≡ words_at number line
uncommented number line is = rw is refl

-- behind a line without words come those of the next
pub next_line : (number : ℕ) (line said text : List ℕ) (lines rest : List (List ℕ)) (words : List Placed) → line_words line ≡ [] → lines ≡ text ∷ rest → map (placed number) (line_words line) ++ words_from (number + 1) lines ≡ words → map (placed (number + 1)) (line_words said) ≡ words_at (number + 1) text → map (placed (number + 1)) (line_words said) ++ words_from ((number + 1) + 1) rest ≡ words
next_line number line said text lines rest words none are whole is =
    ap (λ ws. ws ++ words_from ((number + 1) + 1) rest) is ∙ sym (ap (words_from (number + 1)) are)
    ∙ sym (ap (λ ws. map (placed number) ws ++ words_from (number + 1) lines) none) ∙ whole
