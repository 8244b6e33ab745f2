-- Words that texts begin with, as a reader has them.
use Rattle.std.specs.Prelude.{◌≡◌, ℕ, ◌^◌, ◌<◌, ◌≤◌, List, [], ◌∷◌, ◌++◌, length, map}
use Rattle.std.specs.List.{All, flat_map}
use Rattle.cnf.specs.declared.lit.Lit.{Lit}
use Rattle.cnf.specs.Clauses.{Formula, IsInRange}
use Rattle.certificates.specs.Text.{lit_text}
use Rattle.certificates.specs.Parts.Entries.{IsWritableLit}
use Rattle.dimacs.specs.declared.fault.DimacsFault.{DimacsFault}
use Rattle.dimacs.specs.declared.fault.DimacsFault.TheVariants as fault
use Rattle.dimacs.specs.declared.fault.DimacsReason.{DimacsReason}
use Rattle.dimacs.specs.declared.fault.DimacsReason.TheVariants as reason
use Rattle.dimacs.specs.Words.{Placed, texts}
use Rattle.dimacs.specs.Text.{head_words, clause_words}
use Rattle.dimacs.specs.Reading.{Fits, GoesOn, IsTextOf, Stops}
use Rattle.dimacs.specs.Inside.Cursors.{Cursor}

-- the words are a head with these numbers, whole clauses, and the first literals of one more
pub record Begins (words : List (List ℕ)) (vars count : ℕ) (done : List (List Lit)) (part : List Lit) : Type 0 where
  pub whole : words ≡ head_words vars count ++ (flat_map clause_words done ++ map lit_text part)
  pub vars_small : vars < 2 ^ 62
  pub count_small : count < 2 ^ 62
  pub done_writable : All (All IsWritableLit) done
  pub part_writable : All IsWritableLit part

-- and so far the clauses are as the head asks
pub record IsFront (words : List (List ℕ)) (vars count : ℕ) (done : List (List Lit)) (part : List Lit) : Type 0 where
  pub begins : Begins words vars count done part
  pub done_in_range : All (IsInRange vars) done
  pub part_in_range : IsInRange vars part
  pub room : length done ≤ count
  pub part_room : 0 < length part → length done < count

-- the word behind these, which stands on this line, is refused; memory may be wanting at any time
abbrev pub StopsBy : ℕ → List (List ℕ) → DimacsFault → Type 0
StopsBy place words (fault.At line why) = (line ≡ place) × Stops why words
StopsBy place words fault.NoMemory = Unit {0}

-- the words behind such a head are those of the clauses of a formula
pub record EndsText (vars count : ℕ) (words : List Placed) (formula : Formula) : Type 0 where
  pub vars_same : formula.vars ≡ vars
  pub counted : length formula.clauses ≡ count
  pub text : IsTextOf (head_words vars count ++ texts words) formula

-- words that are refused behind others, which are these texts
pub data IsRefusedBehind (front : List (List ℕ)) (words : List Placed) (end line : ℕ) (why : DimacsReason) : Type 0 where
  at : (before after : List Placed) (word : Placed) → words ≡ before ++ word ∷ after
      → GoesOn Fits (front ++ texts before) → Stops why ((front ++ texts before) ++ word.text ∷ [])
      → line ≡ word.line → IsRefusedBehind front words end line why
  ends : GoesOn Fits (front ++ texts words) → ((formula : Formula) → IsTextOf (front ++ texts words) formula → ⊥)
      → why ≡ reason.Incomplete → line ≡ end → IsRefusedBehind front words end line why

-- the words are refused so, or memory is wanting
abbrev pub IsFault : List (List ℕ) → Cursor → DimacsFault → Type 0
IsFault front cursor (fault.At line why) = IsRefusedBehind front cursor.words cursor.end line why
IsFault front cursor fault.NoMemory = Unit {0}

-- the words begin with such a head, and these are left behind it
pub record IsHeadOf (before now : Cursor) (vars count : ℕ) : Type 0 where
  pub head : List Placed
  pub whole : before.words ≡ head ++ now.words
  pub are : texts head ≡ head_words vars count
  pub vars_small : vars < 2 ^ 62
  pub count_small : count < 2 ^ 62
  pub same_end : now.end ≡ before.end
