-- Words among others.
use Rattle.std.proofs.Common.{◌≡◌, ◌⊎◌, inl, inr, ℕ, true, List, ◌∷◌}
use Rattle.std.specs.Str.{bytes_eq}
use Rattle.std.proofs.lemmas.Bool.{or_cases}
use Rattle.std.proofs.lemmas.Slice.Eq.{bytes_eq-Decides}
use Rattle.ios_lex.specs.Phrases.{Words}
use Rattle.ios_lex.specs.Refusal.{is_among}

-- a word among some is the first of them or one of the others
pub among_cases : (first : List ℕ) (others : Words) (word : List ℕ) → is_among (first ∷ others) word ≡ true → (word ≡ first) ⊎ (is_among others word ≡ true)
among_cases first others word among =
    elim (or_cases (bytes_eq word first) (is_among others word) among)
    [ inl same ↦ inl ((bytes_eq-Decides word first).0 same) | inr later ↦ inr later ]
