-- Whom the cause of a run blames.
use Rattle.std.specs.Prelude.{◌≡◌, ◌≢◌, ℕ, List}
use Rattle.mg_outside.specs.Faults.{Rose}
use Rattle.mg_outside.specs.Logs.{FileLog, SinkLog}
use Rattle.session.specs.declared.ended.Cause.{Cause}
use Rattle.session.specs.declared.ended.Cause.TheVariants as cause

-- the sink refused a write exactly where it is blamed
pub record BlamesSink (before now : SinkLog) (end : Cause) : Type 0 where
  pub rose : end ≡ cause.WriteFault → Rose before.faults now.faults
  pub calm : end ≢ cause.WriteFault → now.faults ≡ before.faults

-- the count of a file that is blamed rose; where a run was done or refused, or its words were, no read failed
abbrev pub BlamesFiles : FileLog → FileLog → Cause → Type 0
BlamesFiles before now (cause.ReadFault file) = Rose (before.faults file) (now.faults file)
BlamesFiles before now cause.WriteFault = Unit {0}
BlamesFiles before now cause.NoMemory = Unit {0}
BlamesFiles before now end = (name : List ℕ) → now.faults name ≡ before.faults name

abbrev pub NoReadFailed : FileLog → FileLog → Type 0
NoReadFailed before now = (name : List ℕ) → Rose (before.faults name) (now.faults name) → ⊥

abbrev pub NoWriteFailed : SinkLog → SinkLog → Type 0
NoWriteFailed before now = Rose before.faults now.faults → ⊥
