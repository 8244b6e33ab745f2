-- What a store keeps under names.
use Rattle.std.specs.Prelude.{◌≡◌, ℕ, Bool, true, false, List, [], ◌∷◌, ◌++◌, Option, Some, None, Result, Ok, Err}
use Rattle.mg_outside.specs.Effects.{RefusalCounted}
use Rattle.solver_run.specs.declared.store.StoreFault.{StoreFault}
use Rattle.solver_run.specs.declared.store.StoreFault.TheVariants as fault

-- names with their bytes, in the order in which they were stored
abbrev pub Kept : Type 0
Kept = List (List ℕ × List ℕ)

-- what was stored whole, where it is told, and how often that failed
pub record StoreLog : Type 0 where
  pub kept : Option Kept
  pub faults : ℕ

-- just this was stored
abbrev pub Keeps : Option Kept → Option Kept → Kept → Type 0
Keeps None after more = after ≡ None
Keeps (Some before) after more = after ≡ Some (before ++ more)

-- what a run stores, and whether the store refused the last file, of which any part may stand
pub record Stored : Type 0 where
  pub kept : Kept
  pub failed : Bool

abbrev pub stored_nothing : Stored
stored_nothing = record { kept = []; failed = false }

abbrev pub stored_file : List ℕ → List ℕ → Stored
stored_file name bytes = record { kept = (name, bytes) ∷ []; failed = false }

abbrev pub store_failed : Stored
store_failed = record { kept = []; failed = true }

-- the store's count of faults moved where it refused a file, by one, and else not
pub record HasStored (before now : StoreLog) (stored : Stored) : Type 0 where
  pub kept : Keeps before.kept now.kept stored.kept
  pub faults : RefusalCounted stored.failed before.faults now.faults

-- what an answer says of the store
abbrev pub Stores : {T : Type 0} → List ℕ → List ℕ → StoreLog → StoreLog → Result T StoreFault → Type 0
Stores name bytes before now (Ok done) = HasStored before now (stored_file name bytes)
Stores name bytes before now (Err fault.Failed) = HasStored before now store_failed
Stores name bytes before now (Err fault.NoMemory) = HasStored before now stored_nothing

-- a store in memory: what it has, the numbers of the files that it is to refuse, and how many came and were refused
pub record HeldStore : Type 0 where
  pub kept : Kept
  pub failing : List ℕ
  pub tries : ℕ
  pub faults : ℕ

-- the bytes of a file that was stored, and none where there is no such file
abbrev pub bytes_of : Option (List ℕ × List ℕ) → List ℕ
bytes_of None = []
bytes_of (Some entry) = entry.1
