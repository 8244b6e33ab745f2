-- The bytes of the first lines of a text.
use Rattle.std.proofs.Common.{◌≡◌, ℕ, ◌+◌, ◌-◌, ◌<◌, ◌≤◌, List, [], ◌∷◌, ◌++◌, length, take, refl, sym, ap, ◌∙◌, append_assoc, length-append, arith}
use Rattle.std.proofs.lemmas.List.{take_at}
use Rattle.ios_lex.specs.Cut.{IsCut, IsFree}
use Rattle.ios_lex.specs.RawLines.{raw_lines, without_return}
use Rattle.ios_lex.proofs.RawTexts.{ended_line, last_line_some}

-- the bytes that are passed are whole lines, and the line behind them has this number
pub record Passes (bytes rest : List ℕ) (number : ℕ) : Type 0 where
  pub passed : List ℕ
  pub whole : bytes ≡ passed ++ rest
  pub lines : (text : List ℕ) → raw_lines (passed ++ text) ≡ raw_lines passed ++ raw_lines text
  pub many : length (raw_lines passed) + 1 ≡ number

pub passes_none : (bytes : List ℕ) → Passes bytes bytes 1
passes_none bytes = record { passed = []; whole = refl; lines = λ text. refl; many = omega arith }

pub passes_more : (bytes rest line others : List ℕ) (number : ℕ) → Passes bytes rest number → IsCut 10 rest line others → Passes bytes others (number + 1)
passes_more bytes rest line others number passes cut =
    let ended : (text : List ℕ) → raw_lines (line ++ 10 ∷ text) ≡ without_return line ∷ raw_lines text =
    λ text. ended_line (line ++ 10 ∷ text) line text (record { whole = refl; free = cut.free }) in
    let one : raw_lines (passes.passed ++ (line ++ 10 ∷ [])) ≡ raw_lines passes.passed ++ without_return line ∷ [] = passes.lines (line ++ 10 ∷ []) ∙ ap (λ more. raw_lines passes.passed ++ more) (ended []) in
    record {
      passed = passes.passed ++ (line ++ 10 ∷ []);
      whole = passes.whole ∙ ap (λ more. passes.passed ++ more) (cut.whole ∙ sym (append_assoc line (10 ∷ []) others)) ∙ sym (append_assoc passes.passed (line ++ 10 ∷ []) others);
      lines = λ text.
          ap raw_lines (append_assoc passes.passed (line ++ 10 ∷ []) text ∙ ap (λ more. passes.passed ++ more) (append_assoc line (10 ∷ []) text))
          ∙ passes.lines (line ++ 10 ∷ text)
          ∙ ap (λ more. raw_lines passes.passed ++ more) (ended text)
          ∙ sym (append_assoc (raw_lines passes.passed) (without_return line ∷ []) (raw_lines text))
          ∙ ap (λ front. front ++ raw_lines text) (sym one);
      many = omega (arith, ap length one, length-append (raw_lines passes.passed) (without_return line ∷ []), passes.many);
    }

-- fronts of one list that are equally long
pub fronts_same : {A : Type 0} (front other back behind : List A) → length front ≡ length other → front ++ back ≡ other ++ behind → front ≡ other
fronts_same [] [] back behind long same = refl
fronts_same [] (y ∷ other) back behind long same = absurd (omega arith)
fronts_same (x ∷ front) [] back behind long same = absurd (omega arith)
fronts_same (x ∷ front) (y ∷ other) back behind long same =
    let first : x ≡ y = cc same in
    let rest : front ++ back ≡ other ++ behind = cc same in
    cc (first, fronts_same front other back behind (omega arith) rest)

-- the bytes before the rest are those lines
pub front_passed : (bytes rest : List ℕ) (number : ℕ) (front back : List (List ℕ)) → Passes bytes rest number → raw_lines bytes ≡ front ++ back → length front + 1 ≡ number
    → raw_lines (take (length bytes - length rest) bytes) ≡ front
front_passed bytes rest number front back passes whole long =
    let split : raw_lines passes.passed ++ raw_lines rest ≡ front ++ back = sym (passes.lines rest) ∙ ap raw_lines (sym passes.whole) ∙ whole in
    let place : length bytes - length rest ≡ length passes.passed = omega (arith, ap length passes.whole, length-append passes.passed rest) in
    let bytes_before : take (length bytes - length rest) bytes ≡ passes.passed = rw (place, passes.whole) (take_at passes.passed rest (length passes.passed) refl) in
    ap raw_lines bytes_before ∙ fronts_same (raw_lines passes.passed) front (raw_lines rest) back (omega (arith, passes.many)) split

-- a text without line feed has one line at most
pub one_line_left : (bytes rest : List ℕ) (number : ℕ) (front back : List (List ℕ)) → Passes bytes rest number → IsFree 10 rest → raw_lines bytes ≡ front ++ back → number < length front + 1 → 0 < length back → ⊥
one_line_left bytes rest number front back passes free whole more some =
    let split : raw_lines passes.passed ++ raw_lines rest ≡ front ++ back = sym (passes.lines rest) ∙ ap raw_lines (sym passes.whole) ∙ whole in
    absurd (omega (arith, ap length split, length-append (raw_lines passes.passed) (raw_lines rest), length-append front back, passes.many, few rest free))
  where
    few : (text : List ℕ) → IsFree 10 text → length (raw_lines text) ≤ 1
    few [] free = omega arith
    few (b ∷ text) free = rw (last_line_some (b ∷ text) free (omega arith)) (omega arith)
