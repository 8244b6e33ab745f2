-- The words of a text, each with its line: what stands between blanks and line ends. A line that begins with c, 99, is a
-- comment and has none.
use Rattle.std.specs.Prelude.{ℕ, ◌+◌, ◌==◌, ◌||◌, Bool, true, false, List, [], ◌∷◌, ◌++◌, map, length, if◌then◌else◌}
use Rattle.std.specs.List.{filter, slice_split}
use Rattle.certificates.specs.Lines.{text_lines}

-- a blank, 32, a tab, 9, or a carriage return, 13
abbrev pub is_blank : ℕ → Bool
is_blank byte = (byte == 32) || (byte == 9) || (byte == 13)

abbrev pub is_some_text : List ℕ → Bool
is_some_text [] = false
is_some_text (byte ∷ bytes) = true

-- the parts between blanks, without the empty ones
unfoldable pub line_words : List ℕ → List (List ℕ)
line_words line = filter is_some_text (slice_split is_blank line)

abbrev pub is_comment : List ℕ → Bool
is_comment [] = false
is_comment (byte ∷ bytes) = byte == 99

-- a word, and the line that it stands on
pub record Placed : Type 0 where
  pub line : ℕ
  pub text : List ℕ

abbrev pub placed : ℕ → List ℕ → Placed
placed line text = record { line = line; text = text }

-- the words of a line of this number
abbrev pub words_at : ℕ → List ℕ → List Placed
words_at number line = if is_comment line then [] else map (placed number) (line_words line)

-- the words of lines, of which the first has this number
abbrev pub words_from : ℕ → List (List ℕ) → List Placed
words_from number [] = []
words_from number (line ∷ lines) = words_at number line ++ words_from (number + 1) lines

-- lines are numbered from 1
abbrev pub text_words : List ℕ → List Placed
text_words bytes = words_from 1 (text_lines bytes)

-- the number behind the last line
abbrev pub end_line : List ℕ → ℕ
end_line bytes = length (text_lines bytes) + 1

abbrev pub texts : List Placed → List (List ℕ)
texts words = map (λ word. word.text) words
