-- The words of a line, one part after the other.
use Rattle.std.proofs.Common.{◌≡◌, ℕ, ◌<◌, ◌≤◌, ◌+◌, false, List, [], ◌∷◌, ◌++◌, length, take, drop, refl, ap, sym, ◌∙◌, append_assoc, arith}
use Rattle.std.specs.List.{All, filter, slice_split, position_or_len, before_first, after_first}
use Rattle.std.proofs.lemmas.Bool.{ne_eqb}
use Rattle.std.proofs.lemmas.List.Splits.{slice_split_none, slice_split_first}
use Rattle.std.proofs.lemmas.List.Sums.{fails_before_first}
use Rattle.std.proofs.lemmas.List.Elements.{filter-append}
use Rattle.ios_lex.specs.Words.{is_gap, is_some_text, words_of}

-- a gap ends the first part
pub words_first : (text : List ℕ) (end : ℕ) → end ≡ position_or_len is_gap text → end < length text → words_of text ≡ filter is_some_text (take end text ∷ []) ++ words_of (drop (end + 1) text)
words_first text end is within =
    rw is (ap (filter is_some_text) (slice_split_first is_gap text 0 (rw is at within))
    ∙ filter-append is_some_text (before_first is_gap text ∷ []) (slice_split is_gap (after_first is_gap text)))

-- a text without a gap is the last part
pub words_last : (text : List ℕ) (end : ℕ) → end ≡ position_or_len is_gap text → length text ≤ end → words_of text ≡ filter is_some_text (text ∷ []) ++ words_of []
words_last text end is within =
    ap (filter is_some_text) (slice_split_none is_gap text all) ∙ filter-append is_some_text (text ∷ []) ([] ∷ [])
  where
    all : All (λ b. is_gap b ≡ false) text
    all k d inside = fails_before_first is_gap text k d (omega (arith, is))

-- one part more of a line
pub words_more : (words new : List (List ℕ)) (line text part rest : List ℕ) → words ++ words_of text ≡ words_of line → words_of text ≡ filter is_some_text (part ∷ []) ++ words_of rest → new ≡ words ++ filter is_some_text (part ∷ []) → new ++ words_of rest ≡ words_of line
words_more words new line text part rest so_far first is =
    rw is (append_assoc words (filter is_some_text (part ∷ [])) (words_of rest) ∙ sym (ap (λ more. words ++ more) first) ∙ so_far)

-- a part with bytes is kept
pub kept : (part : List ℕ) → 0 < length part → filter is_some_text (part ∷ []) ≡ part ∷ []
kept part some = rw (ne_eqb (length part) 0 (λ same. omega (arith, same))) refl
