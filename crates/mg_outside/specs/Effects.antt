-- What a run did with files and a sink, as their logs show it before and after: which names it read and which of these
-- failed, what was taken of each of its writes, and whether the sink refused the last.
use Rattle.std.specs.Prelude.{◌≡◌, ℕ, ◌+◌, ◌≤◌, Bool, true, false, List, [], ◌∷◌, ◌++◌, length, Option, Some, None}
use Rattle.mg_outside.specs.Faults.{Rose, Counted}
use Rattle.mg_outside.specs.Logs.{FileLog, SinkLog}
use Rattle.mg_outside.specs.Taking.{Takes, TakesFront}

pub record Effects : Type 0 where
  -- the names that were read, in order
  pub reads : List (List ℕ)
  -- the name whose read failed, which is the last
  pub failed : Option (List ℕ)
  -- what was taken of each write, in order
  pub writes : List (List ℕ)
  -- whether the sink refused the last write
  pub refused : Bool

-- the pieces, one behind the other
abbrev pub joined : List (List ℕ) → List ℕ
joined [] = []
joined (piece ∷ pieces) = piece ++ joined pieces

-- no count of faults moved, or that of the failed name did: no count moves by more than one
abbrev pub FaultsMoved : Option (List ℕ) → (List ℕ → ℕ) → (List ℕ → ℕ) → Type 0
FaultsMoved None before now = (name : List ℕ) → now name ≡ before name
FaultsMoved (Some failed) before now = Rose (before failed) (now failed) × ((name : List ℕ) → before name ≤ now name) × ((name : List ℕ) → now name ≤ before name + 1)

-- just these names were read, and just this read failed
pub record HasRead (before now : FileLog) (reads : List (List ℕ)) (failed : Option (List ℕ)) : Type 0 where
  pub names : now.names ≡ before.names ++ reads
  pub faults : FaultsMoved failed before.faults now.faults

-- the sink's count of faults moved where it refused a write, by one, and else not
abbrev pub RefusalCounted : Bool → ℕ → ℕ → Type 0
RefusalCounted true before now = Rose before now × (now ≤ before + 1)
RefusalCounted false before now = now ≡ before

-- there were just these writes, of which this was taken, and the sink refused the last or none
pub record HasWritten (before now : SinkLog) (writes : List (List ℕ)) (refused : Bool) : Type 0 where
  pub taken : Takes before.taken now.taken (joined writes)
  pub counted : Counted (length writes) before.writes now.writes
  pub faults : RefusalCounted refused before.faults now.faults

-- a run that ends so: what it did is what the logs show
pub record Performs {End : Type 0} (Run : Effects → End → Type 0) (files files' : FileLog) (sink sink' : SinkLog) (end : End) : Type 0 where
  pub effects : Effects
  pub is_run : Run effects end
  pub on_files : HasRead files files' effects.reads effects.failed
  pub on_sink : HasWritten sink sink' effects.writes effects.refused

-- what the sink took is a front of the text of some run: that it is of none is absurd
abbrev pub IsFrontOfSome : {End : Type 0} → (Effects → End → Type 0) → SinkLog → SinkLog → Type 0
IsFrontOfSome {End} Run before now =
    ((effects : Effects) (end : End) → Run effects end → TakesFront before.taken now.taken (joined effects.writes) → ⊥) → ⊥

-- effects of what came before, with those of what followed
abbrev pub behind : List (List ℕ) → List (List ℕ) → Effects → Effects
behind reads writes effects =
    record { reads = reads ++ effects.reads; failed = effects.failed; writes = writes ++ effects.writes; refused = effects.refused }
