-- The text of a banner stands from the third word of its line on.
use Rattle.std.proofs.Common.{◌≡◌, ℕ, ◌<◌, List, ◌++◌, length, codes, refl, sym, ap, ◌∙◌, arith}
use Rattle.std.specs.List.{before_first}
use Rattle.ios_lex.specs.Words.{is_gap, from_next_word}
use Rattle.ios_lex.specs.Banner.{Opens}
use Rattle.ios_lex.proofs.NextWords.{Splits, splits, some_first, next_is_word, shorter, first_of, next_of, word_begins, first_is_free}

pub opens_named : (line text : List ℕ) → Opens line text → before_first is_gap line ≡ codes "banner"
opens_named line text opens = rw opens.whole (first_of (codes "banner") opens.gap (opens.second ++ (opens.next_gap ++ text)) refl opens.gap_is)

pub opens_third : (line text : List ℕ) → Opens line text → text ≡ from_next_word (from_next_word line)
opens_third line text opens =
    let rest : List ℕ = opens.second ++ (opens.next_gap ++ text) in
    let next : from_next_word line ≡ rest =
    ap from_next_word opens.whole ∙ next_of (codes "banner") opens.gap rest refl opens.gap_is (word_begins opens.second (opens.next_gap ++ text) opens.second_is) in
    let third : from_next_word rest ≡ text = next_of opens.second opens.next_gap text opens.second_is.1 opens.next_gap_is opens.third in
    sym (ap from_next_word next ∙ third)

pub opens_next : (line : List ℕ) → before_first is_gap line ≡ codes "banner" → 0 < length (from_next_word (from_next_word line)) → Opens line (from_next_word (from_next_word line))
opens_next line named some =
    let rest : List ℕ = from_next_word line in
    let some_rest : 0 < length rest = omega (arith, some, shorter rest) in
    let first : Splits line = splits line some_rest in
    let next : Splits rest = splits rest some in
    record {
      gap = first.gap;
      second = before_first is_gap rest;
      next_gap = next.gap;
      whole = first.whole ∙ ap (λ (word : List ℕ). word ++ (first.gap ++ rest)) named ∙ ap (λ (behind : List ℕ). codes "banner" ++ (first.gap ++ behind)) next.whole;
      gap_is = first.gap_is;
      second_is = (some_first rest some_rest (next_is_word line some_rest), first_is_free rest);
      next_gap_is = next.gap_is;
      some = some;
      third = next_is_word rest some;
    }
