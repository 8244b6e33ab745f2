-- The words of a formula, and the lines of an answer.
use Rattle.std.specs.Prelude.{ℕ, ◌+◌, Bool, not, List, [], ◌∷◌, ◌++◌, map, codes}
use Rattle.std.specs.Fmt.{decimal}
use Rattle.cnf.specs.declared.lit.Lit.{Lit}
use Rattle.certificates.specs.Text.{lit_text, lits_text}

-- how many variables and how many clauses there are
abbrev pub head_words : ℕ → ℕ → List (List ℕ)
head_words vars count = codes "p" ∷ codes "cnf" ∷ decimal vars ∷ decimal count ∷ []

-- the literals, and the 0 that ends the clause
abbrev pub clause_words : List Lit → List (List ℕ)
clause_words lits = map lit_text lits ++ codes "0" ∷ []

-- the literals that are true, one for each variable from this one on
abbrev pub true_lits : ℕ → List Bool → List Lit
true_lits var [] = []
true_lits var (value ∷ values) = record { var = var; negative = not value } ∷ true_lits (var + 1) values

-- a model: its literals in one line, with a 0 behind them
unfoldable pub model_text : List Bool → List ℕ
model_text values = codes "s SATISFIABLE\nv " ++ (lits_text (true_lits 0 values) ++ codes "\n")

unfoldable pub no_model_text : List ℕ
no_model_text = codes "s UNSATISFIABLE\n"
