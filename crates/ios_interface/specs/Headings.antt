-- The words behind `interface`, which open the block of an interface (Cisco IOS command references, `interface`).
use Rattle.std.specs.Prelude.{◌≡◌, ℕ, Bool, true, false, List, [], ◌∷◌, codes}
use Rattle.ios_lex.specs.ListNames.{is_name}
use Rattle.ios_lex.specs.Phrases.{Words}
use Rattle.ios_lex.specs.Refusal.{is_among}

-- a subinterface may say to how many neighbours it leads
abbrev pub link_words : Words
link_words = codes "point-to-point" ∷ codes "multipoint" ∷ []

-- what may stand behind the name
abbrev pub ends_heading : Words → Bool
ends_heading [] = true
ends_heading (word ∷ []) = is_among link_words word
ends_heading (word ∷ other ∷ rest) = false

-- the words are this name, and what may stand behind it
pub record IsHeading (words : Words) (name : List ℕ) : Type 0 where
  pub rest : Words
  pub whole : words ≡ name ∷ rest
  pub named : is_name name ≡ true
  pub ended : ends_heading rest ≡ true

-- the words are no heading, whatever the name
pub data IsNoHeading (words : Words) : Type 0 where
  nameless : words ≡ [] → IsNoHeading words
  bytes : (name : List ℕ) (rest : Words) → words ≡ name ∷ rest → is_name name ≡ false
      → IsNoHeading words
  behind : (name : List ℕ) (rest : Words) → words ≡ name ∷ rest → ends_heading rest ≡ false
      → IsNoHeading words
