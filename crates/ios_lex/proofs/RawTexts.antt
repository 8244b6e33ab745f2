-- The lines of a text, one after the other.
use Rattle.std.proofs.Common.{◌≡◌, ℕ, ◌<◌, ◌==◌, false, List, [], ◌∷◌, length, refl, ap, ◌∙◌, arith}
use Rattle.std.specs.List.{All, filter, list_any, slice_split}
use Rattle.std.proofs.lemmas.Bool.{or_parts}
use Rattle.std.proofs.lemmas.List.Elements.{All-nil, All-cons}
use Rattle.std.proofs.lemmas.List.Splits.{slice_split_none, slice_split_at, length-slice_split}
use Rattle.ios_lex.specs.Cut.{IsCut, IsFree}
use Rattle.ios_lex.specs.Words.{is_some_text}
use Rattle.ios_lex.specs.RawLines.{without_return, lines_of_parts, raw_lines}
use Rattle.ios_lex.proofs.LineWords.{kept}

all_differ : (byte : ℕ) (text : List ℕ) → IsFree byte text → All (λ b. (b == byte) ≡ false) text
all_differ byte [] free = All-nil (λ (b : ℕ). (b == byte) ≡ false)
all_differ byte (x ∷ xs) free =
    let parts = or_parts (x == byte) (list_any (λ b. b == byte) xs) free in
    All-cons (λ (b : ℕ). (b == byte) ≡ false) x xs parts.0 (all_differ byte xs parts.1)

-- a part before others is a line
part_first : (part : List ℕ) (parts : List (List ℕ)) → 0 < length parts → lines_of_parts (part ∷ parts) ≡ without_return part ∷ lines_of_parts parts
part_first part [] some = absurd (omega arith)
part_first part (next ∷ parts) some = refl

-- the first line ends at the first line feed
pub ended_line : (text front rest : List ℕ) → IsCut 10 text front rest → raw_lines text ≡ without_return front ∷ raw_lines rest
ended_line text front rest cut =
    let split : slice_split (λ b. b == 10) text ≡ front ∷ slice_split (λ b. b == 10) rest =
    rw cut.whole (slice_split_at (λ b. b == 10) front 10 rest (all_differ 10 front cut.free) refl) in
    ap lines_of_parts split ∙ part_first front (slice_split (λ b. b == 10) rest) (omega (arith, length-slice_split (λ b. b == 10) rest))

-- a text without a line feed is the last line, unless it is empty
pub last_line : (text : List ℕ) → IsFree 10 text → raw_lines text ≡ filter is_some_text (text ∷ [])
last_line text free = ap lines_of_parts (slice_split_none (λ b. b == 10) text (all_differ 10 text free))

pub last_line_some : (text : List ℕ) → IsFree 10 text → 0 < length text → raw_lines text ≡ text ∷ []
last_line_some text free some = last_line text free ∙ kept text some
