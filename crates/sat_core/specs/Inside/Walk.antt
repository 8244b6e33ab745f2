-- Literals, one after another, that show that their values are the least model.
use Rattle.std.specs.Prelude.{◌≡◌, ℕ, ◌<◌, ◌≤◌, Bool, true, false, Option, Some, None, List, length, slice_index_or}
use Rattle.cnf.specs.declared.lit.Lit.{Lit}
use Rattle.cnf.specs.Clauses.{Formula, IsModel, lit_holds}
use Rattle.sat_core.specs.declared.source.Source.{Source}

-- below a variable, the values are those of the table where it has one
abbrev pub HasValuesBelow : List Bool → List (Option Bool) → ℕ → Type 0
HasValuesBelow values table end = (k : ℕ) (b : Bool) → k < end → slice_index_or table k None ≡ Some b
    → slice_index_or values k false ≡ b

-- the values are those of the table wherever it has one
abbrev pub HasValues : List Bool → List (Option Bool) → Type 0
HasValues values table = (k : ℕ) (b : Bool) → slice_index_or table k None ≡ Some b
    → slice_index_or values k false ≡ b

-- in each model with the values of the table, the literal is true
abbrev pub IsForced : Formula → List (Option Bool) → Lit → Type 0
IsForced formula table lit = (values : List Bool) → IsModel formula.vars formula.clauses values
    → HasValues values table → lit_holds values lit ≡ true

-- a literal that is decided is negative; another one is forced, and is negative or not below the decided ones
abbrev pub HasReason : Formula → List (Option Bool) → ℕ → Lit → Option Source → Type 0
HasReason formula table floor lit None = lit.negative ≡ true
HasReason formula table floor lit (Some source) =
    IsForced formula table lit × (lit.negative ≡ false → floor ≤ lit.var)

-- the literal may be true next
pub record MayFollow (formula : Formula) (table : List (Option Bool)) (floor : ℕ) (lit : Lit) (source : Option Source) : Type 0 where
  pub within : lit.var < length table
  pub free : slice_index_or table lit.var None ≡ None
  pub reason : HasReason formula table floor lit source
