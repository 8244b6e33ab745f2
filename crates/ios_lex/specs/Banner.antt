-- Banners: a text up to its delimiter, on one line or over several.
use Rattle.std.specs.Prelude.{◌≡◌, ℕ, ◌<◌, ◌==◌, false, List, [], ◌∷◌, ◌++◌, length, take, drop, slice_index, codes}
use Rattle.std.specs.Bool.{if◌then◌else◌}
use Rattle.std.specs.List.{starts_with, AllByRecursion}
use Rattle.ios_lex.specs.Words.{is_gap, AreGaps, IsWord}

-- the line is the word banner, a gap, a second word, a gap, and the text, which begins with a third word
pub record Opens (line text : List ℕ) : Type 0 where
  pub gap : List ℕ
  pub second : List ℕ
  pub next_gap : List ℕ
  pub whole : line ≡ codes "banner" ++ (gap ++ (second ++ (next_gap ++ text)))
  pub gap_is : AreGaps gap
  pub second_is : IsWord second
  pub next_gap_is : AreGaps next_gap
  pub some : 0 < length text
  pub third : is_gap (slice_index text 0) ≡ false

-- the delimiter is ^C where the text begins so, else the text's first byte
abbrev pub delimiter_len : List ℕ → ℕ
delimiter_len text = if starts_with ◌==◌ text (codes "^C") then 2 else 1

abbrev pub delimiter_of : List ℕ → List ℕ
delimiter_of text = take (delimiter_len text) text

abbrev pub behind_delimiter : List ℕ → List ℕ
behind_delimiter text = drop (delimiter_len text) text

abbrev pub Occurs : List ℕ → List ℕ → Type 0
Occurs delimiter text = (front : List ℕ) × (back : List ℕ) × (text ≡ front ++ (delimiter ++ back))

-- the delimiter occurs in none of the texts
abbrev pub IsNowhere : List ℕ → List (List ℕ) → Type 0
IsNowhere delimiter texts = AllByRecursion (λ text. Occurs delimiter text → ⊥) texts

-- the delimiter occurs in the last of the texts, and in none before
pub record EndsWith (delimiter : List ℕ) (texts : List (List ℕ)) : Type 0 where
  pub front : List (List ℕ)
  pub last : List ℕ
  pub whole : texts ≡ front ++ last ∷ []
  pub before : IsNowhere delimiter front
  pub occurs : Occurs delimiter last

-- the line opens a banner, and these lines are the others up to its end
pub record IsBanner (line : List ℕ) (body : List (List ℕ)) : Type 0 where
  pub text : List ℕ
  pub opens : Opens line text
  pub ends : EndsWith (delimiter_of text) (behind_delimiter text ∷ body)

-- the line opens a banner that none of the lines behind it ends
pub record IsOpen (line : List ℕ) (behind : List (List ℕ)) : Type 0 where
  pub text : List ℕ
  pub opens : Opens line text
  pub open_ended : IsNowhere (delimiter_of text) (behind_delimiter text ∷ behind)
