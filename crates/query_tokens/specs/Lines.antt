-- Lines of a text: a line feed belongs to the line that it ends.
use Rattle.std.specs.Prelude.{ℕ, ◌+◌, ◌-◌, ◌==◌, ◌≤◌, List, [], ◌∷◌, length, take, count_by, ⊤}
use Rattle.query_tokens.specs.declared.token.Placed.{Placed}

-- how many line feeds, 10, stand in the text
abbrev pub line_feeds : List ℕ → ℕ
line_feeds text = count_by (λ byte. byte == 10) text

-- the line of the last byte, from 1: one more than the line feeds before it
abbrev pub last_line : List ℕ → ℕ
last_line text = 1 + line_feeds (take (length text - 1) text)

-- the lines of the tokens never fall, and are at least this one
abbrev pub RiseFrom : ℕ → List Placed → Type 0
RiseFrom line [] = ⊤
RiseFrom line (placed ∷ more) = (line ≤ placed.line) × RiseFrom placed.line more
