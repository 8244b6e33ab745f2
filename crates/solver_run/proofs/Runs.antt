-- Runs, by what their calls did.
use Rattle.std.proofs.Common.{◌≡◌, ℕ, false, List, [], ◌∷◌, ◌++◌, Option, None, Some, refl, ap, ◌∙◌, append_assoc}
use Rattle.mg_outside.specs.Effects.{HasRead, HasWritten}
use Rattle.mg_outside.specs.Logs.{FileLog, SinkLog}
use Rattle.mg_outside.proofs.EffectLaws.{has_read_then}
use Rattle.cnf.specs.Clauses.{Formula}
use Rattle.certificates.specs.declared.derivation.Item.{Item}
use Rattle.certificates.specs.declared.derivation.Certificate.{Certificate}
use Rattle.proof_check.specs.Derivations.{fault_of}
use Rattle.sat_core.specs.Solving.{IsRefutation}
use Rattle.solver_run.specs.declared.cause.Cause.{Cause}
use Rattle.solver_run.specs.declared.cause.Cause.TheVariants as cause
use Rattle.solver_run.specs.declared.unread.Unread.{Unread}
use Rattle.solver_run.specs.declared.unread.Unread.TheVariants as unread_as
use Rattle.solver_run.specs.Stores.{HasStored, Stored, StoreLog, stored_nothing}
use Rattle.solver_run.specs.Tasks.{Task, IsForm, file_of, reads_of}
use Rattle.solver_run.specs.Tasks as task
use Rattle.solver_run.specs.Run.{Ends, HoldsCertificate, HoldsFormula, IsNoCertificate, IsNoFormula, IsRun, IsTaskRun, Performs, effects, ends, wants, unread, no_formula, certified, unstored, no_proof, no_certificate, accepted, rejected, form}
use Rattle.solver_run.specs.Inside.Endings.{EndsStored, EndsUnread, IsUnread, Judged, Says}
use Rattle.solver_run.specs.Inside.Endings as ending
use Rattle.solver_run.proofs.Writing.{has_stored_nothing}

module _ (told : List ℕ → Option (List ℕ)) (task : Task) (files files' : FileLog) (sink sink' : SinkLog) where
  -- the run says this at its end
  pub says_so : (reads : List (List ℕ)) (failed : Option (List ℕ)) (stored : Stored) (stop : Cause) (text : List ℕ) (end : Cause) (store store' : StoreLog) → Ends told task reads failed stored stop text → HasRead files files' reads failed → HasStored store store' stored → Says sink sink' stop text end → Performs (IsTaskRun told task) files files' sink sink' store store' end
  says_so reads failed stored stop text end store store' is are keeps says = record {
    effects = effects reads failed says.writes says.is_refused;
    stored = stored;
    is_run = ends reads failed stored stop end text says.writes says.is_refused is says.is_said;
    on_files = are;
    on_sink = says.written;
    on_store = keeps;
  }

  -- memory was wanting
  pub wants_here : (reads rest : List (List ℕ)) (end : Cause) (store store' : StoreLog) → reads_of task ≡ reads ++ rest → HasRead files files' reads None → HasStored store store' stored_nothing → end ≡ cause.NoMemory → HasWritten sink sink' [] false → Performs (IsTaskRun told task) files files' sink sink' store store' end
  wants_here reads rest end store store' all are keeps is nothing = rw is (record {
    effects = effects reads None [] false;
    stored = stored_nothing;
    is_run = wants reads rest all;
    on_files = are;
    on_sink = nothing;
    on_store = keeps;
  })

  -- the file of the clauses gave none
  pub unread_ends : (file : List ℕ) (rest : List (List ℕ)) (why : Unread) (end : Cause) (log : StoreLog) → file_of task ≡ Some file → reads_of task ≡ file ∷ rest → IsUnread (IsNoFormula told file) file files files' why → EndsUnread file why sink sink' end → Performs (IsTaskRun told task) files files' sink sink' log log end
  unread_ends file rest unread_as.Failed end log is all read says =
      says_so (file ∷ []) (Some file) stored_nothing _ _ end log log (unread file is) read (has_stored_nothing log) says
  unread_ends file rest (unread_as.Refused line why) end log is all read says =
      says_so (file ∷ []) None stored_nothing _ _ end log log (no_formula file line why is read.0) read.1 (has_stored_nothing log) says
  unread_ends file rest unread_as.NoMemory end log is all read says =
      wants_here read.reads (read.rest ++ rest) end log log
      (all ∙ ap (λ names. names ++ rest) read.are ∙ append_assoc read.reads read.rest rest) read.on_files (has_stored_nothing log) says.0 says.1

-- the derivation of a search was to be stored
pub stored_ends : (told : List ℕ → Option (List ℕ)) (file name : List ℕ) (files files' : FileLog) (sink sink' : SinkLog) (formula : Formula) (items : List Item) (end : Cause) (store store' : StoreLog) → HoldsFormula told file formula → IsRefutation formula.vars formula.clauses items → HasRead files files' (file ∷ []) None → EndsStored name items sink sink' store store' end → Performs (IsTaskRun told (task.certify file name)) files files' sink sink' store store' end
stored_ends told file name files files' sink sink' formula items end store store' holds shown read (ending.stored keeps says) =
    says_so told _ files files' sink sink' (file ∷ []) None _ _ _ end store store' (certified file name formula items refl holds shown) read keeps says
stored_ends told file name files files' sink sink' formula items end store store' holds shown read (ending.failed keeps says) =
    says_so told _ files files' sink sink' (file ∷ []) None _ _ _ end store store' (unstored file name formula items refl holds shown) read keeps says
stored_ends told file name files files' sink sink' formula items end store store' holds shown read (ending.wants keeps is nothing) =
    wants_here told _ files files' sink sink' (file ∷ []) [] end store store' refl read keeps is nothing

module _ (told : List ℕ → Option (List ℕ)) (file name : List ℕ) (formula : Formula) (holds : HoldsFormula told file formula) (files between files' : FileLog) (sink sink' : SinkLog) (end : Cause) (log : StoreLog) (first : HasRead files between (file ∷ []) None) where
  -- the file of the certificate gave none
  pub unread_proof_ends : (why : Unread) → IsUnread (IsNoCertificate told name) name between files' why → EndsUnread name why sink sink' end → Performs (IsTaskRun told (task.check file name)) files files' sink sink' log log end
  unread_proof_ends unread_as.Failed read says =
      says_so told _ files files' sink sink' (file ∷ name ∷ []) (Some name) stored_nothing _ _ end log log (no_proof file name formula refl holds)
      (has_read_then files between files' (file ∷ []) (name ∷ []) (Some name) first read) (has_stored_nothing log) says
  unread_proof_ends (unread_as.Refused line why) read says =
      says_so told _ files files' sink sink' (file ∷ name ∷ []) None stored_nothing _ _ end log log (no_certificate file name formula line why refl holds read.0)
      (has_read_then files between files' (file ∷ []) (name ∷ []) None first read.1) (has_stored_nothing log) says
  unread_proof_ends unread_as.NoMemory read says =
      wants_here told _ files files' sink sink' (file ∷ read.reads) read.rest end log log (ap (λ names. file ∷ names) read.are)
      (has_read_then files between files' (file ∷ []) read.reads None first read.on_files) (has_stored_nothing log) says.0 says.1

  -- the checker has judged it
  pub judged_ends : (certificate : Certificate) → HoldsCertificate told name certificate → HasRead between files' (name ∷ []) None → Judged name (fault_of formula.vars formula.clauses certificate.derivation) sink sink' end → Performs (IsTaskRun told (task.check file name)) files files' sink sink' log log end
  judged_ends certificate is read (ending.accepted none says) =
      says_so told _ files files' sink sink' (file ∷ name ∷ []) None stored_nothing _ _ end log log (accepted file name formula certificate refl holds is none)
      (has_read_then files between files' (file ∷ []) (name ∷ []) None first read) (has_stored_nothing log) says
  judged_ends certificate is read (ending.rejected fault why found named says) =
      says_so told _ files files' sink sink' (file ∷ name ∷ []) None stored_nothing _ _ end log log (rejected file name formula certificate fault why refl holds is found named)
      (has_read_then files between files' (file ∷ []) (name ∷ []) None first read) (has_stored_nothing log) says
  judged_ends certificate is read (ending.wants ended nothing) =
      wants_here told _ files files' sink sink' (file ∷ name ∷ []) [] end log log refl
      (has_read_then files between files' (file ∷ []) (name ∷ []) None first read) (has_stored_nothing log) ended nothing

-- the words ask for the task
pub form_run : (told : List ℕ → Option (List ℕ)) (words : List (List ℕ)) (asked : Task) (files files' : FileLog) (sink sink' : SinkLog) (store store' : StoreLog) (end : Cause) → IsForm words asked → Performs (IsTaskRun told asked) files files' sink sink' store store' end → Performs (IsRun told words) files files' sink sink' store store' end
form_run told words asked files files' sink sink' store store' end is done = record {
  effects = done.effects;
  stored = done.stored;
  is_run = form asked done.effects done.stored end is done.is_run;
  on_files = done.on_files;
  on_sink = done.on_sink;
  on_store = done.on_store;
}
