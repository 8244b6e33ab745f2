-- The lines of a banner, one after the other, and where it ends.
use Rattle.std.proofs.Common.{◌≡◌, ℕ, ◌+◌, true, List, [], ◌∷◌, ◌++◌, length, refl, ap, ◌∙◌, append_assoc, arith, length-append}
use Rattle.ios_lex.specs.RawLines.{raw_lines}
use Rattle.ios_lex.specs.Banner.{Opens, Occurs, IsNowhere, EndsWith, IsBanner, delimiter_of, behind_delimiter}
use Rattle.ios_lex.specs.Lines.{Reading, reading, inside}

-- the lines that are passed between two places of a text, and the readings that they add
pub record Passes (text rest : List ℕ) (first number : ℕ) (old new : List Reading) (passed : List (List ℕ)) : Type 0 where
  pub whole : raw_lines text ≡ passed ++ raw_lines rest
  pub place : number ≡ first + length passed
  pub added : new ≡ old ++ inside first passed

inside_push : (first at : ℕ) (lines : List (List ℕ)) (line : List ℕ) → at ≡ first + length lines → inside first (lines ++ line ∷ []) ≡ inside first lines ++ reading at true line ∷ []
inside_push first at [] line place =
    let same : at ≡ first = omega (arith, place) in
    rw same refl
inside_push first at (l ∷ lines) line place = ap (λ more. reading first true l ∷ more) (inside_push (first + 1) at lines line (omega (arith, place)))

-- one line more
pub passes_more : (text rest others line : List ℕ) (first number : ℕ) (old new newer : List Reading) (passed : List (List ℕ)) → Passes text rest first number old new passed → raw_lines rest ≡ line ∷ raw_lines others → newer ≡ new ++ reading number true line ∷ [] → Passes text others first (number + 1) old newer (passed ++ line ∷ [])
passes_more text rest others line first number old new newer passed passes next adds = record {
  whole = passes.whole ∙ ap (λ more. passed ++ more) next ∙ (rw append_assoc refl);
  place = omega (arith, passes.place, length-append {A = List ℕ} passed (line ∷ []));
  added = adds ∙ ap (λ more. more ++ reading number true line ∷ []) passes.added ∙ append_assoc old (inside first passed) (reading number true line ∷ []) ∙ ap (λ more. old ++ more) (rw (inside_push first number passed line passes.place) refl);
}

pub nowhere_more : (delimiter line : List ℕ) (passed : List (List ℕ)) → IsNowhere delimiter passed → (Occurs delimiter line → ⊥) → IsNowhere delimiter (passed ++ line ∷ [])
nowhere_more delimiter line [] before none = (none, tt)
nowhere_more delimiter line (p ∷ passed) before none = (before.0, nowhere_more delimiter line passed before.1 none)

-- a banner ends on its first line where the delimiter occurs once more there
pub banner_at_once : (line text : List ℕ) → Opens line text → Occurs (delimiter_of text) (behind_delimiter text) → IsBanner line []
banner_at_once line text opens occurs = record {
  text = text;
  opens = opens;
  ends = record { front = []; last = behind_delimiter text; whole = refl; before = tt; occurs = occurs };
}

-- or else where it occurs first in a later one
pub banner_later : (line text : List ℕ) (body : List (List ℕ)) → Opens line text → (Occurs (delimiter_of text) (behind_delimiter text) → ⊥) → EndsWith (delimiter_of text) body → IsBanner line body
banner_later line text body opens none ends = record {
  text = text;
  opens = opens;
  ends = record {
    front = behind_delimiter text ∷ ends.front;
    last = ends.last;
    whole = ap (λ more. behind_delimiter text ∷ more) ends.whole;
    before = (none, ends.before);
    occurs = ends.occurs;
  };
}
