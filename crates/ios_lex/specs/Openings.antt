-- The words that lines begin with.
use Rattle.std.specs.Prelude.{◌≡◌, ◌++◌, ℕ, List, map, Contains, codes}
use Rattle.std.specs.Borrow.{Bor}
use Rattle.std.specs.List.{join_by}
use Rattle.ios_lex.specs.Phrases.{Words}
use Rattle.ios_lex.specs.Refusal.{texts}

-- the words begin with one of these openings, which is this one
abbrev pub BeginsAmong : List Words → Words → Words → Type 0
BeginsAmong openings words opening =
    Contains openings opening × (rest : Words) × (words ≡ opening ++ rest)

-- the words do not begin so
abbrev pub LacksOpening : Words → Words → Type 0
LacksOpening words opening = (rest : Words) → words ≡ opening ++ rest → ⊥

-- the openings that some texts are
abbrev pub openings_of : List (Bor (List (Bor (List ℕ)))) → List Words
openings_of openings = map (λ (opening : Bor (List (Bor (List ℕ)))). texts opening.now) openings

-- words with one blank between each two
abbrev pub joined : Words → List ℕ
joined words = join_by (λ (word : List ℕ). word) (codes " ") words
