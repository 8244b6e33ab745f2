-- Words of a line: its parts between blanks and tabs.
use Rattle.std.specs.Prelude.{◌≡◌, ℕ, ◌<◌, ◌==◌, Bool, true, false, ◌||◌, not, List, length, drop}
use Rattle.std.specs.List.{filter, list_all, list_any, slice_split, prefix_len}

-- a blank, 32, or a tab, 9
abbrev pub is_gap : ℕ → Bool
is_gap byte = (byte == 32) || (byte == 9)

abbrev pub is_some_text : List ℕ → Bool
is_some_text part = not (length part == 0)

-- the parts between blanks and tabs, without the empty ones
abbrev pub words_of : List ℕ → List (List ℕ)
words_of line = filter is_some_text (slice_split is_gap line)

-- a gap: blanks and tabs, at least one
abbrev pub AreGaps : List ℕ → Type 0
AreGaps text = (0 < length text) × (list_all is_gap text ≡ true)

-- a word: other bytes, at least one
abbrev pub IsWord : List ℕ → Type 0
IsWord text = (0 < length text) × (list_any is_gap text ≡ false)

-- the line from its next word on: without what stands before the next gap, and without that gap. Private calls are stated by it, and
-- no public one
abbrev pub from_next_word : List ℕ → List ℕ
from_next_word line =
    let behind : List ℕ = drop (prefix_len (λ b. not (is_gap b)) line) line in
    drop (prefix_len is_gap behind) behind
