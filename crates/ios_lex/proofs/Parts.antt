-- The parts of a configuration, and how they are read one after the other.
use Rattle.std.proofs.Common.{◌≡◌, ℕ, ◌-◌, List, [], ◌∷◌, ◌++◌, length, take, drop, append_assoc}
use Rattle.std.proofs.lemmas.List.{append-nil, take_rest}
use Rattle.ios_lex.specs.RawLines.{raw_lines}
use Rattle.ios_lex.specs.Banner.{Opens, Occurs, IsNowhere, EndsWith, IsBanner, IsOpen, delimiter_len}
use Rattle.ios_lex.specs.Lines as specs
use Rattle.ios_lex.specs.Lines.{Reading, IsPart, AreLines, IsUnclosed}
use Rattle.ios_lex.proofs.BannerLines.{banner_at_once, banner_later}

-- a delimiter that occurs behind the opening one
pub ends_at_once : (line text : List ℕ) (len : ℕ) → Opens line text → len ≡ delimiter_len text → Occurs (take len text) (take (length text - len) (drop len text)) → IsBanner line []
ends_at_once line text len opens is occurs = banner_at_once line text opens (rw is at (rw (take_rest text len) at occurs))

-- or in a later line
pub ends_later : (line text : List ℕ) (len : ℕ) (body : List (List ℕ)) → Opens line text → len ≡ delimiter_len text → (Occurs (take len text) (take (length text - len) (drop len text)) → ⊥) → EndsWith (take len text) body → IsBanner line body
ends_later line text len body opens is none ends = banner_later line text body opens (rw is at (rw (take_rest text len) at none)) (rw is at ends)

-- or nowhere
pub ends_nowhere : (line text : List ℕ) (len : ℕ) (behind : List (List ℕ)) → Opens line text → len ≡ delimiter_len text → (Occurs (take len text) (take (length text - len) (drop len text)) → ⊥) → IsNowhere (take len text) behind → IsOpen line behind
ends_nowhere line text len behind opens is none nowhere = record {
  text = text;
  opens = opens;
  open_ended = (rw is at (rw (take_rest text len) at none), rw is at nowhere);
}

-- what is read so far, and that the rest decides how it ends
pub record ReadSoFar (bytes rest : List ℕ) (number : ℕ) (made : List Reading) : Type 0 where
  pub goes_on : (tail : List Reading) → AreLines number (raw_lines rest) tail → AreLines 1 (raw_lines bytes) (made ++ tail)
  pub stays : (at : ℕ) → IsUnclosed number (raw_lines rest) at → IsUnclosed 1 (raw_lines bytes) at

-- one part more
pub so_far_more : (bytes rest left : List ℕ) (lines : List (List ℕ)) (number next : ℕ) (made gives new : List Reading) → ReadSoFar bytes rest number made → raw_lines rest ≡ lines → IsPart number lines gives next (raw_lines left) → new ≡ made ++ gives → ReadSoFar bytes left next new
so_far_more bytes rest left lines number next made gives new so_far first is_part adds = record {
  goes_on = λ tail more. rw (adds, append_assoc made gives tail) (so_far.goes_on (gives ++ tail) (rw first (specs.part number lines gives next (raw_lines left) tail is_part more)));
  stays = λ at more. so_far.stays at (rw first (specs.later number lines gives next (raw_lines left) at is_part more));
}

-- no line is left
pub so_far_end : (bytes rest : List ℕ) (number : ℕ) (made : List Reading) → ReadSoFar bytes rest number made → raw_lines rest ≡ [] → AreLines 1 (raw_lines bytes) made
so_far_end bytes rest number made so_far none = rw (append-nil made) at (so_far.goes_on [] (rw none (specs.end number)))

-- a banner without an end follows
pub so_far_open : (bytes rest line : List ℕ) (behind : List (List ℕ)) (number : ℕ) (made : List Reading) → ReadSoFar bytes rest number made → raw_lines rest ≡ line ∷ behind → IsOpen line behind → IsUnclosed 1 (raw_lines bytes) number
so_far_open bytes rest line behind number made so_far first unended = so_far.stays number (rw first (specs.here number line behind unended))
