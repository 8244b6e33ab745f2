-- What the calls of a run say of what they did.
use Rattle.std.specs.Prelude.{◌≡◌, ℕ, Bool, false, List, [], ◌∷◌, ◌++◌, Option, Some, None}
use Rattle.mg_outside.specs.Effects.{HasRead, HasWritten}
use Rattle.mg_outside.specs.Logs.{FileLog, SinkLog}
use Rattle.solver_run.specs.declared.cause.Cause.{Cause}
use Rattle.solver_run.specs.declared.cause.Cause.TheVariants as cause
use Rattle.solver_run.specs.declared.reason.Reason.{Reason}
use Rattle.solver_run.specs.declared.unread.Unread.{Unread}
use Rattle.solver_run.specs.declared.unread.Unread.TheVariants as unread
use Rattle.certificates.specs.declared.derivation.Item.{Item}
use Rattle.certificates.specs.Text.{certificate_text}
use Rattle.dimacs.specs.Text.{model_text, no_model_text}
use Rattle.proof_check.specs.declared.fault.CheckFault.{CheckFault}
use Rattle.solver_run.specs.RunLines.{accepted_line, check_reason, fault_line, refused_line, store_line}
use Rattle.solver_run.specs.Stores.{HasStored, StoreLog, store_failed, stored_file, stored_nothing}
use Rattle.solver_run.specs.Run.{IsSaid, certificate_of}
use Rattle.cnf.specs.Clauses.{Formula}
use Rattle.cnf.specs.Order.{IsLeast}
use Rattle.sat_core.specs.Solving.{IsRefutation}
use Rattle.ios_acl.specs.declared.entry.Entry.{Entry}
use Rattle.frame.specs.declared.comparison.Comparison.{Comparison}
use Rattle.frame.specs.Comparing.{AreClausesOfTwo}

-- the run ends with this text, or that is cut or can't be made
pub record Says (before now : SinkLog) (stop : Cause) (text : List ℕ) (end : Cause) : Type 0 where
  pub writes : List (List ℕ)
  pub is_refused : Bool
  pub is_said : IsSaid stop text writes is_refused end
  pub written : HasWritten before now writes is_refused

-- memory was wanting while files were read
pub record WantsReads (file : List ℕ) (before now : FileLog) : Type 0 where
  pub reads : List (List ℕ)
  pub rest : List (List ℕ)
  pub are : file ∷ [] ≡ reads ++ rest
  pub on_files : HasRead before now reads None

-- why a file gave no value, and what was read
abbrev pub IsUnread : (ℕ → Reason → Type 0) → List ℕ → FileLog → FileLog → Unread → Type 0
IsUnread IsNone file before now unread.Failed = HasRead before now (file ∷ []) (Some file)
IsUnread IsNone file before now (unread.Refused line why) = IsNone line why × HasRead before now (file ∷ []) None
IsUnread IsNone file before now unread.NoMemory = WantsReads file before now

-- what the run ends with at a file that gave no value
abbrev pub EndsUnread : List ℕ → Unread → SinkLog → SinkLog → Cause → Type 0
EndsUnread file unread.Failed before now end = Says before now cause.ReadFault (fault_line file) end
EndsUnread file (unread.Refused line why) before now end = Says before now cause.Refused (refused_line file line why) end
EndsUnread file unread.NoMemory before now end = (end ≡ cause.NoMemory) × HasWritten before now [] false

-- a run ends without a model: the derivation was stored, or the store refused it, or memory was wanting for it
pub data EndsStored (name : List ℕ) (items : List Item) (sink sink' : SinkLog) (store store' : StoreLog)
    (end : Cause) : Type 0 where
  stored : HasStored store store' (stored_file name (certificate_text (certificate_of items)))
      → Says sink sink' cause.Unsatisfiable no_model_text end → EndsStored name items sink sink' store store' end
  failed : HasStored store store' store_failed → Says sink sink' cause.StoreFault (store_line name) end
      → EndsStored name items sink sink' store store' end
  wants : HasStored store store' stored_nothing → end ≡ cause.NoMemory → HasWritten sink sink' [] false
      → EndsStored name items sink sink' store store' end

-- a run ends with what the checker says of a derivation with this fault, if any
pub data Judged (name : List ℕ) (expected : Option CheckFault) (sink sink' : SinkLog) (end : Cause) : Type 0 where
  accepted : expected ≡ None → Says sink sink' cause.Done accepted_line end → Judged name expected sink sink' end
  rejected : (fault : CheckFault) (why : Reason) → expected ≡ Some fault → check_reason fault ≡ Some why
      → Says sink sink' cause.Refused (refused_line name 0 why) end → Judged name expected sink sink' end
  wants : end ≡ cause.NoMemory → HasWritten sink sink' [] false → Judged name expected sink sink' end

-- a run ends with what the clauses of a question about two lists have, or memory was wanting for it
pub data EndsCompared (asked : Comparison) (first second : List Entry) (sink sink' : SinkLog) (end : Cause) : Type 0 where
  found : (formula : Formula) (values : List Bool) → AreClausesOfTwo asked first second formula
      → IsLeast formula.vars formula.clauses values → Says sink sink' cause.Satisfiable (model_text values) end
      → EndsCompared asked first second sink sink' end
  none : (formula : Formula) (items : List Item) → AreClausesOfTwo asked first second formula
      → IsRefutation formula.vars formula.clauses items → Says sink sink' cause.Unsatisfiable no_model_text end
      → EndsCompared asked first second sink sink' end
  wanted : end ≡ cause.NoMemory → HasWritten sink sink' [] false → EndsCompared asked first second sink sink' end
