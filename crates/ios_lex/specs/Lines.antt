-- Lines of a configuration, as they are read.
use Rattle.std.specs.Prelude.{◌≡◌, ℕ, ◌+◌, ◌==◌, Bool, true, false, List, [], ◌∷◌, ◌++◌, length, slice_index}
use Rattle.std.specs.Bool.{if◌then◌else◌}
use Rattle.ios_lex.specs.Words.{is_gap, words_of}
use Rattle.ios_lex.specs.Banner.{Opens, IsBanner, IsOpen}

pub record Reading : Type 0 where
  pub number : ℕ
  pub indented : Bool
  pub banner : Bool
  pub words : List (List ℕ)

abbrev pub is_indented : List ℕ → Bool
is_indented line = is_gap (slice_index line 0)

abbrev pub reading : ℕ → Bool → List ℕ → Reading
reading number banner line = record {
  number = number;
  indented = is_indented line;
  banner = banner;
  words = words_of line;
}

-- an exclamation mark, 33, stands first
abbrev pub begins_comment : List ℕ → Bool
begins_comment word = slice_index word 0 == 33

-- there is no word, or the first begins a comment
abbrev pub is_skipped : List (List ℕ) → Bool
is_skipped [] = true
is_skipped (word ∷ words) = begins_comment word

-- what a line outside banners gives
abbrev pub outside : ℕ → List ℕ → List Reading
outside number line = if is_skipped (words_of line) then [] else reading number false line ∷ []

-- what the lines of a banner give
abbrev pub inside : ℕ → List (List ℕ) → List Reading
inside number [] = []
inside number (line ∷ lines) = reading number true line ∷ inside (number + 1) lines

-- the first of the lines, or the banner that they begin with, gives this; the next number and the lines left follow it
pub data IsPart (number : ℕ) (lines : List (List ℕ)) (gives : List Reading)
    (next : ℕ) (left : List (List ℕ)) : Type 0 where
  plain : (line : List ℕ) → lines ≡ line ∷ left → ((text : List ℕ) → Opens line text → ⊥)
      → gives ≡ outside number line → next ≡ number + 1 → IsPart number lines gives next left
  banner : (line : List ℕ) (body : List (List ℕ)) → lines ≡ line ∷ (body ++ left)
      → IsBanner line body → gives ≡ inside number (line ∷ body)
      → next ≡ number + 1 + length body → IsPart number lines gives next left

-- the lines, the first of this number, give these readings
pub data AreLines : ℕ → List (List ℕ) → List Reading → Type 0 where
  end : (number : ℕ) → AreLines number [] []
  part : (number : ℕ) (lines : List (List ℕ)) (gives : List Reading)
      (next : ℕ) (left : List (List ℕ)) (more : List Reading)
      → IsPart number lines gives next left → AreLines next left more
      → AreLines number lines (gives ++ more)

-- a banner without an end opens at this line
pub data IsUnclosed : ℕ → List (List ℕ) → ℕ → Type 0 where
  here : (number : ℕ) (line : List ℕ) (behind : List (List ℕ)) → IsOpen line behind
      → IsUnclosed number (line ∷ behind) number
  later : (number : ℕ) (lines : List (List ℕ)) (gives : List Reading)
      (next : ℕ) (left : List (List ℕ)) (at : ℕ)
      → IsPart number lines gives next left → IsUnclosed next left at
      → IsUnclosed number lines at
