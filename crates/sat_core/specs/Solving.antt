-- What a search answers.
use Rattle.std.specs.Prelude.{◌≡◌, ℕ, Bool, true, false, List, [], ◌∷◌, ◌++◌}
use Rattle.std.specs.List.{list_any}
use Rattle.cnf.specs.declared.lit.Lit.{Lit}
use Rattle.cnf.specs.Clauses.{Formula, first_clauses, with_clauses}
use Rattle.cnf.specs.Order.{IsLeast}
use Rattle.certificates.specs.declared.derivation.Item.{Item}
use Rattle.certificates.specs.declared.derivation.Item.TheVariants as item
use Rattle.certificates.specs.Writable.{IsWritable}
use Rattle.proof_check.specs.Derivations.{IsAccepted, is_empty}
use Rattle.sat_core.specs.declared.solved.Solved.{Solved}
use Rattle.sat_core.specs.declared.solved.Solved.TheVariants as solved

-- what is seen of a solver: its clauses, and how often a plain search stood in for the one that learns
pub record Standing : Type 0 where
  pub given : Formula
  pub fallbacks : ℕ

-- it with these clauses behind its own
abbrev pub with_given : Standing → List (List Lit) → Standing
with_given solver more = record { given = with_clauses solver.given more; fallbacks = solver.fallbacks }

-- it with the first so many of its clauses
abbrev pub with_first : ℕ → Standing → Standing
with_first count solver = record { given = first_clauses count solver.given; fallbacks = solver.fallbacks }

-- literals that are assumed, as clauses
abbrev pub units : List Lit → List (List Lit)
units [] = []
units (l ∷ ls) = (l ∷ []) ∷ units ls

-- whether an item adds the empty clause
abbrev pub adds_empty : Item → Bool
adds_empty (item.Add step) = is_empty step.clause
adds_empty (item.Delete numbers) = false

-- the last item adds the empty clause, and no other one does
pub record EndsEmpty (items : List Item) : Type 0 where
  pub front : List Item
  pub last : Item
  pub whole : items ≡ front ++ last ∷ []
  pub empty : adds_empty last ≡ true
  pub before : list_any adds_empty front ≡ false

-- a derivation that the clauses have no model; it has a text
pub record IsRefutation (vars : ℕ) (clauses : List (List Lit)) (items : List Item) : Type 0 where
  pub accepted : IsAccepted vars clauses items
  pub ends : EndsEmpty items
  pub writable : IsWritable items

-- the least model of the clauses, or a derivation that there is none
abbrev pub Answers : ℕ → List (List Lit) → Solved → Type 0
Answers vars clauses (solved.Least values) = IsLeast vars clauses values.items
Answers vars clauses (solved.None derivation) = IsRefutation vars clauses derivation
