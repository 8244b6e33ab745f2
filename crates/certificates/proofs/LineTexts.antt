-- The lines of a text, one after the other.
use Rattle.std.proofs.Common.{◌≡◌, ℕ, ◌<◌, ◌==◌, List, [], ◌∷◌, length, refl, ap, ◌∙◌, append_assoc, arith}
use Rattle.std.specs.List.{All, slice_split}
use Rattle.std.proofs.lemmas.List.Elements.{All-head, All-tail}
use Rattle.std.proofs.lemmas.List.Splits.{slice_split_none, slice_split_at, length-slice_split}
use Rattle.certificates.specs.Lines.{last_part, lines_of_parts, text_lines}
use Rattle.certificates.specs.Text.{lines_text}
use Rattle.certificates.specs.Parts.Cuts.{IsCut, IsFree}
use Rattle.certificates.proofs.Cuts.{all_differ}

-- a part before others is a line
part_first : (part : List ℕ) (parts : List (List ℕ)) → 0 < length parts → lines_of_parts (part ∷ parts) ≡ part ∷ lines_of_parts parts
part_first part [] some = absurd (omega arith)
part_first part (next ∷ parts) some = refl

-- the first line ends at the first line feed
pub ended_line : (text front rest : List ℕ) → IsCut 10 text front rest → text_lines text ≡ front ∷ text_lines rest
unfolding text_lines
ended_line text front rest cut =
    let split : slice_split (λ b. b == 10) text ≡ front ∷ slice_split (λ b. b == 10) rest =
    rw cut.whole (slice_split_at (λ b. b == 10) front 10 rest (all_differ 10 front cut.free) refl) in
    ap lines_of_parts split ∙ part_first front (slice_split (λ b. b == 10) rest) (omega (arith, length-slice_split (λ b. b == 10) rest))

-- a text without a line feed is the last line, unless it is empty
pub last_line : (text : List ℕ) → IsFree 10 text → text_lines text ≡ last_part text
unfolding text_lines
last_line text free = ap lines_of_parts (slice_split_none (λ b. b == 10) text (all_differ 10 text free))

pub last_line_some : (text : List ℕ) → IsFree 10 text → 0 < length text → text_lines text ≡ text ∷ []
last_line_some [] free some = absurd (omega arith)
last_line_some (byte ∷ bytes) free some = last_line (byte ∷ bytes) free

pub no_line : (text : List ℕ) → length text ≡ 0 → text_lines text ≡ []
no_line [] none = last_line [] refl
no_line (byte ∷ bytes) none = absurd (omega arith)

-- lines without line feeds, each with one behind it, are the lines of what they make
pub written_lines : (lines : List (List ℕ)) → All (IsFree 10) lines → text_lines (lines_text lines) ≡ lines
written_lines [] free = last_line [] refl
written_lines (line ∷ lines) free =
    ended_line (lines_text (line ∷ lines)) line (lines_text lines) (record { whole = simp append_assoc; free = All-head (IsFree 10) line lines free })
    ∙ ap (λ more. line ∷ more) (written_lines lines (All-tail (IsFree 10) line lines free))
