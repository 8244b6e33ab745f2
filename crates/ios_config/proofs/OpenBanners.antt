-- Lines before a banner without an end.
use Rattle.std.proofs.Common.{◌≡◌, ℕ, ◌+◌, List, [], ◌∷◌, ◌++◌, length, refl, sym, ap, ◌∙◌, append_assoc, length-append, arith}
use Rattle.ios_lex.specs.Banner.{IsOpen}
use Rattle.ios_lex.specs.Lines.{Reading, IsPart, plain, banner, AreLines, end, part, IsUnclosed, here, later}

-- these lines are read, and behind them a banner without an end opens, at the line of this number
pub record OpensAt (number : ℕ) (lines : List (List ℕ)) (at : ℕ) : Type 0 where
  pub front : List (List ℕ)
  pub line : List ℕ
  pub back : List (List ℕ)
  pub readings : List Reading
  pub whole : lines ≡ front ++ line ∷ back
  pub long : length front + number ≡ at
  pub are : AreLines number front readings
  pub open_ended : IsOpen line back

-- a part stays one whatever stands behind it
pub record PartOf (number : ℕ) (lines : List (List ℕ)) (gives : List Reading) (next : ℕ) (left : List (List ℕ)) : Type 0 where
  pub front : List (List ℕ)
  pub whole : lines ≡ front ++ left
  pub long : length front + number ≡ next
  pub alone : (behind : List (List ℕ)) → IsPart number (front ++ behind) gives next behind

pub part_of : (number : ℕ) (lines left : List (List ℕ)) (gives : List Reading) (next : ℕ) → IsPart number lines gives next left → PartOf number lines gives next left
part_of number lines left gives next (plain line whole none gives_is next_is) = record {
  front = line ∷ [];
  whole = whole;
  long = omega (arith, next_is);
  alone = λ behind. plain line refl none gives_is next_is;
}
part_of number lines left gives next (banner line body whole is gives_is next_is) = record {
  front = line ∷ body;
  whole = whole;
  long = omega (arith, next_is);
  alone = λ behind. banner line body refl is gives_is next_is;
}

pub opens_at : {number at : ℕ} {lines : List (List ℕ)} → IsUnclosed number lines at → OpensAt number lines at
opens_at (here number line behind open_ended) = record {
  front = [];
  line = line;
  back = behind;
  readings = [];
  whole = refl;
  long = omega arith;
  are = end number;
  open_ended = open_ended;
}
opens_at (later number lines gives next left at is unclosed) =
    let first = part_of number lines left gives next is in
    let rest = opens_at unclosed in
    record {
      front = first.front ++ rest.front;
      line = rest.line;
      back = rest.back;
      readings = gives ++ rest.readings;
      whole = first.whole ∙ ap (λ more. first.front ++ more) rest.whole ∙ sym (append_assoc first.front rest.front (rest.line ∷ rest.back));
      long = omega (arith, length-append first.front rest.front, first.long, rest.long);
      are = part number (first.front ++ rest.front) gives next rest.front rest.readings (first.alone rest.front) rest.are;
      open_ended = rest.open_ended;
    }
