-- What may follow the first words of a line, over any grammar, and where a line goes wrong.
use Rattle.std.specs.Prelude.{◌↔◌, ℕ, Bool, true, false, IsTrue, List, [], ◌∷◌, ◌++◌}
use Rattle.std.specs.Str.Parse.{IsNumeral}
use Rattle.ios_lex.specs.Address.{IsAddress}
use Rattle.ios_lex.specs.Phrases.{Words}

-- some words of the kind begin with these
abbrev pub Begins : (Words → Type 0) → Words → Type 0
Begins Kind words = (more : Words) × Kind (words ++ more)

-- behind these, some words of the kind go on with a word of this form
abbrev pub MayFollow : (Words → Type 0) → Words → (List ℕ → Type 0) → Type 0
MayFollow Kind front Form = (word : List ℕ) × Form word × Begins Kind (front ++ word ∷ [])

abbrev pub IsAddressWord : List ℕ → Type 0
IsAddressWord word = (n : ℕ) × IsAddress word n

abbrev pub IsNumberWord : List ℕ → Type 0
IsNumberWord word = IsNumeral 10 word

-- whether an address may follow, a number, or a name of some table where it may be left out, and whether nothing need
pub record Expected : Type 0 where
  pub address : Bool
  pub number : Bool
  pub name : Bool
  pub whole : Bool

pub record IsExpected (Named : List ℕ → Type 0) (Kind : Words → Type 0)
    (front : Words) (expected : Expected) : Type 0 where
  pub address : IsTrue expected.address ↔ MayFollow Kind front IsAddressWord
  pub number : IsTrue expected.number ↔ MayFollow Kind front IsNumberWord
  pub name : IsTrue expected.name ↔ (Kind front × MayFollow Kind front Named)
  pub whole : IsTrue expected.whole ↔ Kind front

-- the front begins a line, and no line goes on with the word. A grammar says of two kinds of lines: those that it takes, and, where
-- it is lax, those too that keep all its rules but one, as on the order of two numbers; the word may be one of these
pub record StopsAt (Named : List ℕ → Type 0) (Line : Bool → Words → Type 0)
    (front : Words) (word : List ℕ) (due : Expected) (over : Bool) : Type 0 where
  pub begins : Begins (Line false) front
  pub stops : Begins (Line false) (front ++ word ∷ []) → ⊥
  pub expected : IsExpected Named (Line false) front due
  pub lax : IsTrue over ↔ Begins (Line true) (front ++ word ∷ [])
