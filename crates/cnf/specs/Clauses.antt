-- What literals and clauses say of values for the variables.
use Rattle.std.specs.Prelude.{◌≡◌, ℕ, ◌<◌, ◌++◌, Bool, true, false, not, List, length, slice_index_or, take}
use Rattle.std.specs.List.{list_any, list_all, All}
use Rattle.cnf.specs.declared.lit.Lit.{Lit}

-- what becomes of a variable's value in a literal: a negative one turns it round
abbrev pub signed : Bool → Bool → Bool
signed true value = not value
signed false value = value

-- a literal is true or false by the value of its variable
abbrev pub lit_holds : List Bool → Lit → Bool
lit_holds values l = signed l.negative (slice_index_or values l.var false)

-- a clause holds where one of its literals does, so the empty one never
abbrev pub clause_holds : List Bool → List Lit → Bool
clause_holds values lits = list_any (lit_holds values) lits

abbrev pub all_hold : List Bool → List (List Lit) → Bool
all_hold values clauses = list_all (clause_holds values) clauses

-- the variables, which are numbered from 0, are among the first `vars`
abbrev pub IsInRange : ℕ → List Lit → Type 0
IsInRange vars lits = All (λ l. l.var < vars) lits

-- a number of variables, and clauses over them
pub record Formula : Type 0 where
  pub vars : ℕ
  pub clauses : List (List Lit)

-- an assignment: one value a variable, and no clause without a true literal
pub record IsModel (vars : ℕ) (clauses : List (List Lit)) (values : List Bool) : Type 0 where
  pub count : length values ≡ vars
  pub holds : all_hold values clauses ≡ true

-- the clauses with these behind them
abbrev pub with_clauses : Formula → List (List Lit) → Formula
with_clauses formula more = record { vars = formula.vars; clauses = formula.clauses ++ more }

-- the first so many of the clauses
abbrev pub first_clauses : ℕ → Formula → Formula
first_clauses count formula = record { vars = formula.vars; clauses = take count formula.clauses }

-- each model of the clauses makes this one hold
abbrev pub Follows : ℕ → List (List Lit) → List Lit → Type 0
Follows vars clauses lits = (values : List Bool) → IsModel vars clauses values
    → clause_holds values lits ≡ true

abbrev pub HasNoModel : ℕ → List (List Lit) → Type 0
HasNoModel vars clauses = (values : List Bool) → IsModel vars clauses values → ⊥
