-- Lines of a text: a line feed, 10, ends each; the last may lack it.
use Rattle.std.specs.Prelude.{ℕ, ◌==◌, List, [], ◌∷◌}
use Rattle.std.specs.List.{slice_split}

-- behind the last line feed a line stands only if bytes do
abbrev pub last_part : List ℕ → List (List ℕ)
last_part [] = []
last_part (byte ∷ bytes) = (byte ∷ bytes) ∷ []

-- the lines that the parts between line feeds are
abbrev pub lines_of_parts : List (List ℕ) → List (List ℕ)
lines_of_parts [] = []
lines_of_parts (part ∷ []) = last_part part
lines_of_parts (part ∷ next ∷ parts) = part ∷ lines_of_parts (next ∷ parts)

unfoldable pub text_lines : List ℕ → List (List ℕ)
text_lines bytes = lines_of_parts (slice_split (λ byte. byte == 10) bytes)
