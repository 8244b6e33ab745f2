-- Lines of a text: they end at line feeds, 10.
use Rattle.std.specs.Prelude.{ℕ, ◌-◌, ◌==◌, List, [], ◌∷◌, length, take, slice_index}
use Rattle.std.specs.Bool.{if◌then◌else◌}
use Rattle.std.specs.List.{filter, slice_split}
use Rattle.ios_lex.specs.Words.{is_some_text}

-- a part without the carriage return, 13, at its end
abbrev pub without_return : List ℕ → List ℕ
without_return part =
    if slice_index part (length part - 1) == 13 then take (length part - 1) part else part

-- the lines that the parts between line feeds are; behind the last line feed a line stands only if bytes do
abbrev pub lines_of_parts : List (List ℕ) → List (List ℕ)
lines_of_parts [] = []
lines_of_parts (part ∷ []) = filter is_some_text (part ∷ [])
lines_of_parts (part ∷ next ∷ parts) = without_return part ∷ lines_of_parts (next ∷ parts)

abbrev pub raw_lines : List ℕ → List (List ℕ)
raw_lines text = lines_of_parts (slice_split (λ byte. byte == 10) text)
