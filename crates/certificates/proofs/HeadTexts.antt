-- Heads.
use Rattle.std.proofs.Common.{◌≡◌, ℕ, ◌^◌, ◌<◌, List, [], ◌∷◌, ◌++◌, codes, refl, sym, ap, ◌∙◌, append_assoc, arith}
use Rattle.std.specs.Fmt.{decimal}
use Rattle.std.proofs.lemmas.Fmt.{decimal_digit, decimal_injective}
use Rattle.std.proofs.lemmas.List.{append_cancel_left}
use Rattle.certificates.specs.Text.{head_word, head_text}
use Rattle.certificates.specs.Parts.Cuts.{IsCut, IsFree}
use Rattle.certificates.specs.Parts.Entries.{IsNumber}
use Rattle.certificates.specs.Parts.Places.{IsHead}
use Rattle.certificates.proofs.Cuts.{cut_is_one, cut_is_not_free, free_append}
use Rattle.certificates.proofs.Decimals.{number_is_free}

pub head_begins : (version line : ℕ) → head_text version line ≡ head_word ++ (decimal version ++ 32 ∷ decimal line)
unfolding head_text
head_begins version line = refl

-- the words of a head are its two numbers
head_words : (words : List ℕ) (version line : ℕ) → IsHead words version line → words ≡ decimal version ++ 32 ∷ decimal line
head_words words version line is = append_cancel_left head_word words (decimal version ++ 32 ∷ decimal line) (is.text ∙ head_begins version line)

pub head_spelled : (words first second : List ℕ) (version line : ℕ) → IsCut 32 words first second → IsNumber first version → IsNumber second line → IsHead words version line
head_spelled words first second version line cut is is' = record {
  some = is.small;
  small = is'.small;
  text = ap (λ w. head_word ++ w) (cut.whole ∙ ap (λ f. f ++ 32 ∷ second) is.text ∙ ap (λ s. decimal version ++ 32 ∷ s) is'.text) ∙ sym (head_begins version line);
}

-- where the words are cut, the numbers stand before and behind
pub head_cut : (words first second : List ℕ) (version line : ℕ) → IsCut 32 words first second → IsHead words version line → IsNumber first version × IsNumber second line
head_cut words first second version line cut is =
    let ones = cut_is_one 32 first second (decimal version) (decimal line) cut.free (number_is_free 32 version (search (arith)) is.some) (sym cut.whole ∙ head_words words version line is) in
    (record { small = is.some; text = ones.0 }, record { small = is.small; text = ones.1 })

pub head_is_not_free : (words : List ℕ) (version line : ℕ) → IsFree 32 words → IsHead words version line → ⊥
head_is_not_free words version line free is = cut_is_not_free 32 words (decimal version) (decimal line) free (head_words words version line is)

pub head_is_one : (words : List ℕ) (v n v' n' : ℕ) → IsHead words v n → IsHead words v' n' → (v ≡ v') × (n ≡ n')
head_is_one words v n v' n' is is' =
    let ones = head_cut words (decimal v) (decimal n) v' n' (record { whole = head_words words v n is; free = number_is_free 32 v (search (arith)) is.some }) is' in
    let small = is.some in
    let small' = is'.some in
    let small2 = is.small in
    let small2' = is'.small in
    (decimal_injective v v' (omega arith) (omega arith) ones.0.text, decimal_injective n n' (omega arith) (omega arith) ones.1.text)

pub head_free : (version line : ℕ) → version < 2 ^ 62 → line < 2 ^ 62 → IsFree 10 (head_text version line)
unfolding head_text head_word
head_free version line small small' =
    free_append 10 (codes "margrave-proof ") (decimal version ++ 32 ∷ decimal line) refl
    (free_append 10 (decimal version) (32 ∷ decimal line) (number_is_free 10 version (search (arith)) small) (number_is_free 10 line (search (arith)) small'))

-- a head is written in three pieces
pub written_head : (text : List ℕ) (line : ℕ) → ((text ++ codes "margrave-proof 2 ") ++ decimal line) ++ codes "\n" ≡ text ++ (head_text 2 line ++ codes "\n")
unfolding head_text head_word
written_head text line =
    let two : decimal 2 ≡ 50 ∷ [] = decimal_digit 2 (omega arith) in
    rw two (simp append_assoc)
