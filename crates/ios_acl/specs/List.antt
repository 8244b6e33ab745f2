-- Access lists, and how they grow.
use Rattle.std.specs.Prelude.{ℕ, ◌+◌, ◌<◌, ◌≤◌, ◌==◌, max, Bool, false, nat_lt, List, [], ◌∷◌, ◌++◌, fold, length}
use Rattle.std.specs.List.{filter, list_any, AllByRecursion}
use Rattle.ios_lex.specs.Phrases.{Words}
use Rattle.ios_acl.specs.declared.entry.Entry.{Entry}
use Rattle.ios_acl.specs.Grammar.{IsEntry}

-- a list: its name, whether it is an extended one, and its entries in the order of their numbers
pub record AccessList : Type 0 where
  pub name : List ℕ
  pub extended : Bool
  pub entries : List Entry

-- the greatest number of these entries, and 0 where there are none
abbrev pub greatest_number : List Entry → ℕ
greatest_number entries = fold (λ greatest entry. max greatest entry.number) 0 entries

-- the number of an entry that is written without one
abbrev pub next_number : List Entry → ℕ
next_number entries = greatest_number entries + 10

abbrev pub has_number : List Entry → ℕ → Bool
has_number entries number = list_any (λ entry. entry.number == number) entries

-- the list with one more entry, behind those of smaller numbers and before those of greater ones
abbrev pub with_entry : AccessList → Entry → AccessList
with_entry list entry = record list {
  entries =
      filter (λ e. nat_lt e.number entry.number) list.entries
      ++ entry ∷ filter (λ e. nat_lt entry.number e.number) list.entries;
}

-- the greatest number that an entry may have
abbrev pub greatest_sequence : ℕ
greatest_sequence = 2147483647

abbrev pub most_entries : ℕ
most_entries = 5000

-- some words spell the entry, and its number may stand before them
pub record IsWritable (extended : Bool) (entry : Entry) : Type 0 where
  pub words : Words
  pub spelled : IsEntry extended false entry words
  pub some : 0 < entry.number
  pub small : entry.number ≤ greatest_sequence

-- the entries stand in the order of their numbers, and no two have one number
abbrev pub IsRising : List Entry → Type 0
IsRising [] = Unit {0}
IsRising (entry ∷ entries) =
    AllByRecursion (λ (other : Entry). entry.number < other.number) entries × IsRising entries

-- a list that can be read
pub record IsAccessList (list : AccessList) : Type 0 where
  pub rising : IsRising list.entries
  pub few : length list.entries ≤ most_entries
  pub writable : AllByRecursion (IsWritable list.extended) list.entries
