-- What the plain search answers of the models that begin with some values: the least of them, or a step by which there is none.
use Rattle.std.specs.Prelude.{◌≡◌, ℕ, ◌+◌, ◌<◌, Bool, true, false, Option, Some, None, List, [], ◌∷◌, ◌++◌, length, map, slice_index_or}
use Rattle.std.specs.List.{list_any}
use Rattle.cnf.specs.declared.lit.Lit.{Lit}
use Rattle.cnf.specs.Clauses.{Formula, IsInRange, IsModel, clause_holds, all_hold}
use Rattle.cnf.specs.Order.{LexLe}
use Rattle.certificates.specs.declared.derivation.Step.{Step}
use Rattle.proof_check.specs.Derivations.{is_empty, is_in_range, step_fault}

-- the clause that is false just where these are the values from this variable on
abbrev pub excluding : ℕ → List Bool → List Lit
excluding from [] = []
excluding from (value ∷ values) = (record { var = from; negative = value }) ∷ excluding (from + 1) values

abbrev pub with_steps : List (List Lit) → List Step → List (List Lit)
with_steps clauses steps = clauses ++ map (λ (s : Step). s.clause) steps

-- a step is right where all of these clauses are live
pub record IsRight (vars : ℕ) (clauses : List (List Lit)) (step : Step) : Type 0 where
  pub in_range : is_in_range vars step.clause ≡ true
  pub no_fault : step_fault vars (map Some clauses) step ≡ None

-- each step is right over the clauses and those of the steps before it
abbrev pub AreRight : ℕ → List (List Lit) → List Step → Type 0
AreRight vars clauses [] = Unit {0}
AreRight vars clauses (step ∷ steps) = IsRight vars clauses step × AreRight vars (clauses ++ step.clause ∷ []) steps

abbrev pub some_empty : List Step → Bool
some_empty steps = list_any (λ (s : Step). is_empty s.clause) steps

-- steps that are right, of which none has the empty clause yet
pub record IsLog (formula : Formula) (steps : List Step) : Type 0 where
  pub right : AreRight formula.vars formula.clauses steps
  pub open_yet : some_empty steps ≡ false

-- steps were added
pub record Grows (old new : List Step) : Type 0 where
  pub more : List Step
  pub steps : new ≡ old ++ more

-- no model begins with the choice; the last step says so, and has this number among the clauses
pub record Excludes (formula : Formula) (steps : List Step) (chosen : List Bool) (number : ℕ) : Type 0 where
  pub front : List Step
  pub hints : List ℕ
  pub before : IsLog formula front
  pub right : AreRight formula.vars formula.clauses steps
  pub whole : steps ≡ front ++ (record { clause = excluding 0 chosen; hints = hints }) ∷ []
  pub last : number ≡ length formula.clauses + length front + 1
  pub none : (rest : List Bool) → IsModel formula.vars formula.clauses (chosen ++ rest) → ⊥

-- the least of the models with the chosen values
pub record IsLeastAfter (formula : Formula) (chosen values : List Bool) : Type 0 where
  pub rest : List Bool
  pub whole : values ≡ chosen ++ rest
  pub model : IsModel formula.vars formula.clauses values
  pub least : (other : List Bool) → IsModel formula.vars formula.clauses (chosen ++ other) → LexLe rest other

abbrev pub Splits : Formula → List Step → List Bool → List Bool → Option ℕ → Type 0
Splits formula steps before after None = IsLeastAfter formula before after
Splits formula steps before after (Some number) = Excludes formula steps before number × (after ≡ before)

-- the place of a clause that is false; none where all are true
abbrev pub FirstFails : Formula → List Bool → Option ℕ → Type 0
FirstFails formula values None = all_hold values formula.clauses ≡ true
FirstFails formula values (Some place) =
    (place < length formula.clauses) × IsInRange formula.vars (slice_index_or formula.clauses place [])
    × (clause_holds values (slice_index_or formula.clauses place []) ≡ false)
