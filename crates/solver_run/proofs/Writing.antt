-- What a sink has taken of a run's text.
use Rattle.std.proofs.Common.{◌≡◌, ℕ, ◌+◌, ◌≤◌, true, false, List, [], ◌∷◌, Some, None, Option, refl, sym, ap, append-nil}
use Rattle.mg_outside.specs.Faults.{Rose, one_more}
use Rattle.mg_outside.specs.Logs.{SinkLog}
use Rattle.mg_outside.specs.Taking.{TakesFront}
use Rattle.mg_outside.proofs.EffectLaws.{Takes-nothing, has_written_nothing}
use Rattle.solver_run.specs.declared.cause.Cause.{Cause}
use Rattle.solver_run.specs.declared.cause.Cause.TheVariants as cause
use Rattle.solver_run.specs.Stores.{HasStored, Keeps, Kept, StoreLog, stored_nothing}
use Rattle.solver_run.specs.Run.{refused, unkept, unmade}
use Rattle.solver_run.specs.Inside.Endings.{Says}

-- the sink refused the text
pub refused_is_said : (before now : SinkLog) (stop : Cause) (text : List ℕ) → TakesFront before.taken now.taken text → now.writes ≡ one_more before.writes → Rose before.faults now.faults → now.faults ≤ before.faults + 1 → Says before now stop text cause.WriteFault
refused_is_said before now stop text front counted rose most = record {
  writes = front.front ∷ [];
  is_refused = true;
  is_said = refused front.front front.rest front.whole;
  written = record { taken = rw append-nil front.taken; counted = counted; faults = (rose, most) };
}

-- or had no memory for it
pub unkept_is_said : (before now : SinkLog) (stop : Cause) (text : List ℕ) → now.taken ≡ before.taken → now.writes ≡ one_more before.writes → now.faults ≡ before.faults → Says before now stop text cause.NoMemory
unkept_is_said before now stop text kept counted calm = record {
  writes = [] ∷ [];
  is_refused = false;
  is_said = unkept;
  written = record { taken = rw kept (Takes-nothing before.taken); counted = counted; faults = calm };
}

-- there was no memory to make it
pub unmade_is_said : (log : SinkLog) (stop : Cause) (text : List ℕ) → Says log log stop text cause.NoMemory
unmade_is_said log stop text = record { writes = []; is_refused = false; is_said = unmade; written = has_written_nothing log }

keeps_nothing : (kept : Option Kept) → Keeps kept kept []
keeps_nothing None = refl
keeps_nothing (Some kept) = ap Some (sym (append-nil kept))

-- nothing was stored
pub has_stored_nothing : (log : StoreLog) → HasStored log log stored_nothing
has_stored_nothing log = record { kept = keeps_nothing log.kept; faults = refl }
