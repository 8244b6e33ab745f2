-- A line opens in one way.
use Rattle.std.proofs.Common.{◌≡◌, ◌&&◌, Bool, true, false, List, [], ◌∷◌, ◌++◌, Option, Some, None, sym, ap, ◌∙◌}
use Rattle.std.specs.Bool.{if◌then◌else◌}
use Rattle.std.specs.Str.{bytes_eq}
use Rattle.std.proofs.lemmas.List.{append_cancel_left}
use Rattle.ios_lex.specs.Phrases.{Words}

-- the words begin with these
abbrev begins_so : Words → Words → Bool
begins_so words [] = true
begins_so [] (other ∷ others) = false
begins_so (word ∷ words) (other ∷ others) = bytes_eq word other && begins_so words others

-- the first of some kinds with whose opening the words begin
abbrev pub first_kind : {K : Type 0} → (K → Words) → List K → Words → Option K
first_kind opening [] words = None
first_kind opening (kind ∷ kinds) words = if begins_so words (opening kind) then Some kind else first_kind opening kinds words

-- a line that begins with the opening of a kind is of that kind, whatever stands behind
abbrev pub IsFound : {K : Type 0} → (K → Words) → List K → K → Type 0
IsFound opening kinds kind = (rest : Words) → first_kind opening kinds (opening kind ++ rest) ≡ Some kind

pub record SameOpening {K : Type 0} (kind other : K) (rest rest' : Words) : Type 0 where
  pub kind_same : kind ≡ other
  pub rest_same : rest ≡ rest'

pub one_kind : {K : Type 0} (opening : K → Words) (kinds : List K) (kind other : K) (rest rest' : Words) → IsFound opening kinds kind → IsFound opening kinds other
    → opening kind ++ rest ≡ opening other ++ rest' → kind ≡ other
one_kind opening kinds kind other rest rest' found found' same =
    let both : Some kind ≡ Some other = sym (found rest) ∙ ap (first_kind opening kinds) same ∙ found' rest' in
    cc both

pub one_opening : {K : Type 0} (opening : K → Words) (kinds : List K) → ((kind : K) → IsFound opening kinds kind) → (kind other : K) (rest rest' : Words)
    → opening kind ++ rest ≡ opening other ++ rest' → SameOpening kind other rest rest'
one_opening opening kinds found kind other rest rest' same =
    let one = one_kind opening kinds kind other rest rest' (found kind) (found other) same in
    record { kind_same = one; rest_same = append_cancel_left (opening kind) rest rest' (rw (← one) at same) }
