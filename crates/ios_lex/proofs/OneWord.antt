-- A word before others spells one thing.
use Rattle.std.proofs.Common.{◌≡◌, ℕ, false, List, [], ◌∷◌, ◌++◌, refl, sym, ap, ◌∙◌}
use Rattle.ios_lex.specs.Decimal.{IsNumber}
use Rattle.ios_lex.specs.NextWords.{IsAddressOf, IsMaskOf, IsNameOf, IsNumberOf}
use Rattle.ios_lex.specs.Phrases.{Words}
use Rattle.ios_lex.proofs.AddressParts.{address_is_one}
use Rattle.ios_lex.proofs.PrefixMasks.{prefix_is_one}
use Rattle.ios_lex.proofs.Spellings.{number_is_one}

-- two words before what ends the same words are one, and what stands behind them is
pub one_word : (front back front' back' : Words) (word word' : List ℕ) → front ≡ word ∷ [] → front' ≡ word' ∷ [] → front ++ back ≡ front' ++ back' → (word ≡ word') × (back ≡ back')
one_word front back front' back' word word' one one' same =
    let longer : (word ∷ []) ++ back ≡ (word' ∷ []) ++ back' = sym (ap (λ f. f ++ back) one) ∙ same ∙ ap (λ f. f ++ back') one' in
    (cc longer, cc longer)

pub one_address : (m n : ℕ) (front back front' back' : Words) → IsAddressOf m front → IsAddressOf n front' → front ++ back ≡ front' ++ back' → (m ≡ n) × (back ≡ back')
one_address m n front back front' back' is is' same =
    let word = one_word front back front' back' is.0 is'.0 is.1 is'.1 same in
    (address_is_one is.0 m n is.2 (rw word.0 is'.2), word.1)

pub one_mask : (m n : ℕ) (front back front' back' : Words) → IsMaskOf false m front → IsMaskOf false n front' → front ++ back ≡ front' ++ back' → (m ≡ n) × (back ≡ back')
one_mask m n front back front' back' is is' same =
    let mask = one_address is.0 is'.0 front back front' back' is.1 is'.1 same in
    (prefix_is_one is.0 m n (is.2 refl) (rw mask.0 (is'.2 refl)), mask.1)

pub one_number : (low high m n : ℕ) (front back front' back' : Words) → IsNumberOf low high m front → IsNumberOf low high n front' → front ++ back ≡ front' ++ back' → (m ≡ n) × (back ≡ back')
one_number low high m n front back front' back' is is' same =
    let word = one_word front back front' back' is.0 is'.0 is.1 is'.1 same in
    let other : IsNumber high is.0 n = rw word.0 is'.2 in
    (number_is_one high is.0 m n is.2 other, word.1)

pub one_name : (table : Words) (name name' : List ℕ) (front back front' back' : Words) → IsNameOf table false name front → IsNameOf table false name' front' → front ++ back ≡ front' ++ back' → (name ≡ name') × (back ≡ back')
one_name table name name' front back front' back' is is' same = one_word front back front' back' name name' is.0 is'.0 same
