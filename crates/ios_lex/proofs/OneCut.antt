-- Words are cut in one way where the words of the first part show where it ends.
use Rattle.std.proofs.Common.{◌≡◌, ℕ, List, [], ◌∷◌, ◌++◌, sym, ap, ◌∙◌}
use Rattle.std.proofs.lemmas.List.{append_cancel_left, append-nil}
use Rattle.ios_lex.specs.Phrases.{Words}
use Rattle.ios_lex.proofs.Stopping.{IsPrefixFree}

-- what two cuts of some words have in common
pub record SameCut {V : Type 0} (v u : V) (p q r s : Words) : Type 0 where
  pub value : v ≡ u
  pub front : p ≡ q
  pub back : r ≡ s

-- whatever stands behind them, the words of the part show where it ends, and spell one value
abbrev pub IsOneCut : {V : Type 0} → (V → Words → Type 0) → Type 0
IsOneCut {V} Part = (v u : V) (p q r s : Words) → Part v p → Part u q → p ++ r ≡ q ++ s → SameCut v u p q r s

-- the same where only such words stand behind them
abbrev pub IsOneCutBefore : {V : Type 0} → (Words → Type 0) → (V → Words → Type 0) → Type 0
IsOneCutBefore {V} Behind Part = (v u : V) (p q r s : Words) → Part v p → Part u q → Behind r → Behind s → p ++ r ≡ q ++ s → SameCut v u p q r s

pub same_cut : {V : Type 0} (v u : V) (p q r s : Words) → v ≡ u → p ≡ q → p ++ r ≡ q ++ s → SameCut v u p q r s
same_cut v u p q r s value front same = record {
  value = value;
  front = front;
  back = append_cancel_left p r s (same ∙ ap (λ (x : Words). x ++ s) (sym front));
}

-- nothing goes on from words of such a part
pub prefix_free_from_one : {V : Type 0} (Part : V → Words → Type 0) → IsOneCut Part → IsPrefixFree (λ words. (v : V) × Part v words)
prefix_free_from_one Part one words more first second =
    (one first.0 second.0 words (words ++ more) more [] first.1 second.1 (sym (append-nil (words ++ more)))).back

pub same_first : (word other : List ℕ) (words others : Words) → word ∷ words ≡ other ∷ others → word ≡ other
same_first word other words others same = cc

-- single words are such a part
pub single_word_prefix_free : (Kind : Words → Type 0) → ((words : Words) → Kind words → (word : List ℕ) × (words ≡ word ∷ [])) → IsPrefixFree Kind
single_word_prefix_free Kind single words more first second =
    let one = single words first in
    let longer = single (words ++ more) second in
    let same : ◌≡◌ {A = Words} (one.0 ∷ more) (longer.0 ∷ []) = sym (ap (λ (front : Words). front ++ more) one.1) ∙ longer.1 in
    cc
