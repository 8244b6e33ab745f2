-- A line from its next word on.
use Rattle.std.proofs.Common.{◌≡◌, ℕ, suc, ◌+◌, ◌<◌, ◌≤◌, Bool, true, false, not, List, [], ◌∷◌, ◌++◌, length, take, drop, get_or, refl, sym, ap, ◌∙◌, arith, add-one, length-drop, drop-cons}
use Rattle.std.proofs.Math.Seq.{drop-append_seam}
use Rattle.std.specs.List.{list_all, list_any, prefix_len, position_or_len, before_first}
use Rattle.std.proofs.lemmas.Bool.{and_parts, or_parts}
use Rattle.std.proofs.lemmas.List.{take_at, take-append-drop}
use Rattle.std.proofs.lemmas.List.Folds.{length-prefix_len}
use Rattle.std.proofs.lemmas.List.Sums.{passes_at_first, prefix_len_stops}
use Rattle.ios_lex.specs.Words.{is_gap, AreGaps, IsWord, from_next_word}

-- a text that begins with no gap begins with a word
pub some_first : (text : List ℕ) → 0 < length text → is_gap (get_or text 0 0) ≡ false → 0 < length (before_first is_gap text)
some_first [] some word = absurd (omega arith)
some_first (y ∷ ys) some word =
    let more : position_or_len is_gap (y ∷ ys) ≡ 1 + position_or_len is_gap ys = rw word refl in
    omega (arith, more, length-prefix_len (λ x. not (is_gap x)) (y ∷ ys))

-- as what stands from a next word on does
pub next_is_word : (line : List ℕ) → 0 < length (from_next_word line) → is_gap (get_or (from_next_word line) 0 0) ≡ false
next_is_word line some = begins (drop (prefix_len (λ b. not (is_gap b)) line) line) some
  where
    begins : (text : List ℕ) → 0 < length (drop (prefix_len is_gap text) text) → is_gap (get_or (drop (prefix_len is_gap text) text) 0 0) ≡ false
    begins text more =
        let within : prefix_len is_gap text < length text = omega (arith, more, length-drop (prefix_len is_gap text) text) in
        rw (drop-cons text (prefix_len is_gap text) 0 within) (prefix_len_stops is_gap text 0 within)

pub shorter : (line : List ℕ) → length (from_next_word line) ≤ length line
shorter line =
    let behind : List ℕ = drop (prefix_len (λ b. not (is_gap b)) line) line in
    omega (arith, length-drop (prefix_len is_gap behind) behind, length-drop (prefix_len (λ b. not (is_gap b)) line) line)

-- the first word and the gap behind it, by their lengths
word_len : (word gap rest : List ℕ) → list_any is_gap word ≡ false → AreGaps gap → prefix_len (λ b. not (is_gap b)) (word ++ (gap ++ rest)) ≡ length word
word_len [] [] rest free gaps = absurd (omega (arith, gaps.0))
word_len [] (g ∷ gap) rest free gaps = rw (and_parts (is_gap g) (list_all is_gap gap) gaps.1).0 refl
word_len (x ∷ word) gap rest free gaps =
    let parts = or_parts (is_gap x) (list_any is_gap word) free in
    let more = word_len word gap rest parts.1 gaps in
    rw parts.0 (omega (arith, more))

gap_len : (gap rest : List ℕ) → list_all is_gap gap ≡ true → is_gap (get_or rest 0 0) ≡ false → prefix_len is_gap (gap ++ rest) ≡ length gap
gap_len [] [] gaps word = refl
gap_len [] (y ∷ ys) gaps word = rw word refl
gap_len (g ∷ gap) rest gaps word =
    let parts = and_parts (is_gap g) (list_all is_gap gap) gaps in
    let more = gap_len gap rest parts.1 word in
    rw parts.0 (omega (arith, more))

pub first_of : (word gap rest : List ℕ) → list_any is_gap word ≡ false → AreGaps gap → before_first is_gap (word ++ (gap ++ rest)) ≡ word
first_of word gap rest free gaps = ap (λ n. take n (word ++ (gap ++ rest))) (word_len word gap rest free gaps) ∙ take_at word (gap ++ rest) (length word) refl

pub next_of : (word gap rest : List ℕ) → list_any is_gap word ≡ false → AreGaps gap → is_gap (get_or rest 0 0) ≡ false → from_next_word (word ++ (gap ++ rest)) ≡ rest
next_of word gap rest free gaps begins =
    let behind : drop (prefix_len (λ b. not (is_gap b)) (word ++ (gap ++ rest))) (word ++ (gap ++ rest)) ≡ gap ++ rest =
    ap (λ n. drop n (word ++ (gap ++ rest))) (word_len word gap rest free gaps) ∙ drop-append_seam word (gap ++ rest) in
    ap (λ (b : List ℕ). drop (prefix_len is_gap b) b) behind ∙ ap (λ n. drop n (gap ++ rest)) (gap_len gap rest gaps.1 begins) ∙ drop-append_seam gap rest

pub word_begins : (word rest : List ℕ) → IsWord word → is_gap (get_or (word ++ rest) 0 0) ≡ false
word_begins [] rest word = absurd (omega (arith, word.0))
word_begins (x ∷ xs) rest word = (or_parts (is_gap x) (list_any is_gap xs) word.1).0

-- what stands before the first gap is a word, and what the gap begins with is gaps
pub first_is_free : (line : List ℕ) → list_any is_gap (before_first is_gap line) ≡ false
first_is_free [] = refl
first_is_free (x ∷ xs) = by_case (is_gap x) refl (first_is_free xs)
  where
    by_case : (b : Bool) → is_gap x ≡ b → list_any is_gap (before_first is_gap xs) ≡ false → list_any is_gap (before_first is_gap (x ∷ xs)) ≡ false
    by_case true gap rest =
        let none : position_or_len is_gap (x ∷ xs) ≡ 0 = rw gap refl in
        ap (λ n. list_any is_gap (take n (x ∷ xs))) none
    by_case false word rest =
        let more : position_or_len is_gap (x ∷ xs) ≡ suc (position_or_len is_gap xs) = rw word (omega arith) in
        ap (λ n. list_any is_gap (take n (x ∷ xs))) more ∙ rw word rest

gaps_first : (text : List ℕ) → list_all is_gap (take (prefix_len is_gap text) text) ≡ true
gaps_first [] = refl
gaps_first (x ∷ xs) = by_case (is_gap x) refl (gaps_first xs)
  where
    by_case : (b : Bool) → is_gap x ≡ b → list_all is_gap (take (prefix_len is_gap xs) xs) ≡ true → list_all is_gap (take (prefix_len is_gap (x ∷ xs)) (x ∷ xs)) ≡ true
    by_case true gap rest =
        let more : prefix_len is_gap (x ∷ xs) ≡ suc (prefix_len is_gap xs) = rw gap (omega arith) in
        ap (λ n. list_all is_gap (take n (x ∷ xs))) more ∙ rw gap rest
    by_case false word rest =
        let none : prefix_len is_gap (x ∷ xs) ≡ 0 = rw word refl in
        ap (λ n. list_all is_gap (take n (x ∷ xs))) none

some_gap : (text : List ℕ) (x : ℕ) (xs : List ℕ) → text ≡ x ∷ xs → is_gap x ≡ true → 0 < prefix_len is_gap text
some_gap text x xs is gap = rw is (rw gap (omega arith))

-- a line that has a next word is its first word, a gap and the rest
pub record Splits (line : List ℕ) : Type 0 where
  pub gap : List ℕ
  pub whole : line ≡ before_first is_gap line ++ (gap ++ from_next_word line)
  pub gap_is : AreGaps gap

pub splits : (line : List ℕ) → 0 < length (from_next_word line) → Splits line
splits line some =
    let end : ℕ = position_or_len is_gap line in
    let behind : List ℕ = drop end line in
    let within : end < length line = omega (arith, some, length-drop (prefix_len is_gap behind) behind, length-drop end line) in
    let begins : behind ≡ get_or line end 0 ∷ drop (end + 1) line = rw add-one (drop-cons line end 0 within) in
    let gap = some_gap behind (get_or line end 0) (drop (end + 1) line) begins (passes_at_first is_gap line 0 within) in
    record {
      gap = take (prefix_len is_gap behind) behind;
      whole = sym (take-append-drop end line) ∙ ap (λ more. take end line ++ more) (sym (take-append-drop (prefix_len is_gap behind) behind));
      gap_is = (omega (arith, gap, length-prefix_len is_gap behind), gaps_first behind);
    }
