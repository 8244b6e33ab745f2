-- Finite universes as they are kept, and what they answer.
use Rattle.std.specs.Prelude.{ℕ, Bool, true, false, ◌&&◌, if◌then◌else◌, nat_lt, List, [], ◌∷◌, ◌++◌, Option, Some, None, slice_get, slice_set, length, replicate}
use Rattle.std.specs.List.{list_any}
use Rattle.std.specs.Option.{option_or, unwrap_or}
use Rattle.std.specs.Str.{bytes_eq}
use Rattle.sorted_logic.specs.declared.universe.Entry.{Entry}
use Rattle.sorted_logic.specs.Signature.{Signature}
use Rattle.sorted_logic.specs.Universe.{Universe}

-- the elements are the numbers below the size; for each sort which of them lie in it, for each function its values in the order
-- in which they were put, for each relation of what it holds, and for each element the number that it carries
pub record Table : Type 0 where
  pub size : ℕ
  pub members : List (List Bool)
  pub values : List (List Entry)
  pub facts : List (List (List ℕ))
  pub numbers : List (Option ℕ)

-- what stands at a place, or else nothing
abbrev pub row : {A : Type 0} → List (List A) → ℕ → List A
row rows place = unwrap_or (slice_get rows place) []

-- the value that was put last at these elements
abbrev pub last_value : List Entry → List ℕ → Option ℕ
last_value [] elements = None
last_value (entry ∷ entries) elements = option_or (last_value entries elements)
    (if bytes_eq entry.args elements then Some entry.value else None)

abbrev pub answers : Table → Universe
answers table = record {
  has = λ s e. nat_lt e table.size && unwrap_or (slice_get (row table.members s) e) false;
  value = λ f elements. last_value (row table.values f) elements;
  relates = λ r elements. list_any (bytes_eq elements) (row table.facts r);
  number = λ e. unwrap_or (slice_get table.numbers e) None;
}

-- no sort has elements, nothing has a value or a number, and nothing holds
abbrev pub empty_table : Signature → ℕ → Table
empty_table sig size = record {
  size = size;
  members = replicate (length sig.sorts) (replicate size false);
  values = replicate (length sig.functions) [];
  facts = replicate (length sig.relations) [];
  numbers = replicate size None;
}

abbrev pub with_member : Table → ℕ → ℕ → Table
with_member table s e =
    record table { members = slice_set table.members s (slice_set (row table.members s) e true) }

abbrev pub with_value : Table → ℕ → List ℕ → ℕ → Table
with_value table f elements e = record table {
  values = slice_set table.values f (row table.values f ++ (record { args = elements; value = e }) ∷ []);
}

abbrev pub with_fact : Table → ℕ → List ℕ → Table
with_fact table r elements =
    record table { facts = slice_set table.facts r (row table.facts r ++ elements ∷ []) }

abbrev pub with_number : Table → ℕ → ℕ → Table
with_number table e number = record table { numbers = slice_set table.numbers e (Some number) }
