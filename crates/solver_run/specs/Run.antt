-- A run: what it does with the files, the store and the sink, and what it ends with.
use Rattle.std.specs.Prelude.{◌≡◌, ℕ, Bool, true, false, List, [], ◌∷◌, ◌++◌, length, Option, Some, None}
use Rattle.std.specs.List.{IsDistinct}
use Rattle.mg_outside.specs.Effects.{Effects, HasRead, HasWritten}
use Rattle.mg_outside.specs.Logs.{FileLog, SinkLog}
use Rattle.mg_outside.specs.Reading.{Gives}
use Rattle.cnf.specs.Clauses.{Formula}
use Rattle.cnf.specs.Order.{IsLeast}
use Rattle.certificates.specs.declared.derivation.Item.{Item}
use Rattle.certificates.specs.declared.derivation.Certificate.{Certificate}
use Rattle.certificates.specs.declared.fault.CertFault.TheVariants as cert_fault
use Rattle.certificates.specs.Reading as certificates
use Rattle.certificates.specs.Text.{certificate_text}
use Rattle.proof_check.specs.declared.fault.CheckFault.{CheckFault}
use Rattle.proof_check.specs.Derivations.{IsAccepted, fault_of}
use Rattle.sat_core.specs.Solving.{IsRefutation}
use Rattle.circuit.specs.declared.gate.Gate.{Gate}
use Rattle.circuit.specs.Sharing.{same_gate}
use Rattle.dimacs.specs.declared.fault.DimacsFault.TheVariants as dimacs_fault
use Rattle.dimacs.specs.declared.fault.DimacsReason.{DimacsReason}
use Rattle.dimacs.specs.Reading as dimacs
use Rattle.dimacs.specs.Text.{model_text, no_model_text}
use Rattle.ios_acl.specs.declared.entry.Entry.{Entry}
use Rattle.frame.specs.declared.comparison.Comparison.{Comparison}
use Rattle.frame.specs.Comparing.{AreClausesOfTwo}
use Rattle.solver_run.specs.declared.cause.Cause.{Cause}
use Rattle.solver_run.specs.declared.cause.Cause.TheVariants as cause
use Rattle.solver_run.specs.declared.reason.Reason.{Reason}
use Rattle.solver_run.specs.declared.reason.Reason.TheVariants as reason
use Rattle.solver_run.specs.Stores.{HasStored, Stored, StoreLog, store_failed, stored_file, stored_nothing}
use Rattle.solver_run.specs.RunLines.{accepted_line, check_reason, dimacs_reason, fault_line, nodes_line, refused_line, store_line, usage}
use Rattle.solver_run.specs.Tasks.{Task, solve, certify, check, compare, gates, IsForm, file_of, reads_of, searched}
use Rattle.solver_run.specs.TooLong.{IsTooLong, max_bytes}
use Rattle.solver_run.specs.Lists.{HoldsList, IsNoList}

-- the file's bytes are those of the formula
pub record HoldsFormula (told : List ℕ → Option (List ℕ)) (file : List ℕ) (formula : Formula) : Type 0 where
  pub bytes : List ℕ
  pub gives : Gives (told file) max_bytes bytes
  pub reads : dimacs.Reads bytes formula

pub record HoldsCertificate (told : List ℕ → Option (List ℕ)) (file : List ℕ) (certificate : Certificate) : Type 0 where
  pub bytes : List ℕ
  pub gives : Gives (told file) max_bytes bytes
  pub reads : certificates.Reads bytes certificate

-- the file's bytes are no formula's, at this line for this reason
pub data IsNoFormula (told : List ℕ → Option (List ℕ)) (file : List ℕ) : ℕ → Reason → Type 0 where
  long_formula : IsTooLong (told file) → IsNoFormula told file 0 reason.TooLong
  bad_formula : (bytes : List ℕ) (line : ℕ) (why : DimacsReason) → Gives (told file) max_bytes bytes
      → dimacs.Refuses bytes (dimacs_fault.At line why) → IsNoFormula told file line (dimacs_reason why)

pub data IsNoCertificate (told : List ℕ → Option (List ℕ)) (file : List ℕ) : ℕ → Reason → Type 0 where
  long_certificate : IsTooLong (told file) → IsNoCertificate told file 0 reason.TooLong
  bad_certificate : (bytes : List ℕ) (line : ℕ) → Gives (told file) max_bytes bytes
      → certificates.Refuses bytes (cert_fault.Malformed line) → IsNoCertificate told file line reason.Malformed
  other_version : (bytes : List ℕ) (line : ℕ) → Gives (told file) max_bytes bytes
      → certificates.Refuses bytes (cert_fault.Version line) → IsNoCertificate told file line reason.Version

-- the certificate of a search, which is that of no script
abbrev pub certificate_of : List Item → Certificate
certificate_of items = record { line = 0; derivation = items }

-- so many nodes are those of a circuit without equal gates
pub record AreNodesOf (nodes : ℕ) : Type 0 where
  pub made : List Gate
  pub different : IsDistinct same_gate made
  pub count : length made ≡ nodes

-- how a run ends that nothing cuts: the names that it reads and the one whose read failed, what it stores, the cause
-- and the text
pub data Ends (told : List ℕ → Option (List ℕ)) (task : Task)
    : List (List ℕ) → Option (List ℕ) → Stored → Cause → List ℕ → Type 0 where
  unread : (file : List ℕ) → file_of task ≡ Some file
      → Ends told task (file ∷ []) (Some file) stored_nothing cause.ReadFault (fault_line file)
  no_formula : (file : List ℕ) (line : ℕ) (why : Reason) → file_of task ≡ Some file
      → IsNoFormula told file line why
      → Ends told task (file ∷ []) None stored_nothing cause.Refused (refused_line file line why)
  -- a search: the least model, or that there is none, with the derivation where it is asked for
  satisfiable : (file : List ℕ) (formula : Formula) (values : List Bool) → searched task ≡ Some file
      → HoldsFormula told file formula → IsLeast formula.vars formula.clauses values
      → Ends told task (file ∷ []) None stored_nothing cause.Satisfiable (model_text values)
  unsatisfiable : (file : List ℕ) (formula : Formula) (items : List Item) → task ≡ solve file
      → HoldsFormula told file formula → IsRefutation formula.vars formula.clauses items
      → Ends told task (file ∷ []) None stored_nothing cause.Unsatisfiable no_model_text
  certified : (file out : List ℕ) (formula : Formula) (items : List Item) → task ≡ certify file out
      → HoldsFormula told file formula → IsRefutation formula.vars formula.clauses items
      → Ends told task (file ∷ []) None (stored_file out (certificate_text (certificate_of items)))
      cause.Unsatisfiable no_model_text
  unstored : (file out : List ℕ) (formula : Formula) (items : List Item) → task ≡ certify file out
      → HoldsFormula told file formula → IsRefutation formula.vars formula.clauses items
      → Ends told task (file ∷ []) None store_failed cause.StoreFault (store_line out)
  -- a check: the certificate is not read, or is none, or its derivation is accepted or has a first fault
  no_proof : (file name : List ℕ) (formula : Formula) → task ≡ check file name
      → HoldsFormula told file formula
      → Ends told task (file ∷ name ∷ []) (Some name) stored_nothing cause.ReadFault (fault_line name)
  no_certificate : (file name : List ℕ) (formula : Formula) (line : ℕ) (why : Reason)
      → task ≡ check file name → HoldsFormula told file formula → IsNoCertificate told name line why
      → Ends told task (file ∷ name ∷ []) None stored_nothing cause.Refused (refused_line name line why)
  accepted : (file name : List ℕ) (formula : Formula) (certificate : Certificate)
      → task ≡ check file name → HoldsFormula told file formula → HoldsCertificate told name certificate
      → IsAccepted formula.vars formula.clauses certificate.derivation
      → Ends told task (file ∷ name ∷ []) None stored_nothing cause.Done accepted_line
  rejected : (file name : List ℕ) (formula : Formula) (certificate : Certificate) (fault : CheckFault)
      (why : Reason) → task ≡ check file name → HoldsFormula told file formula
      → HoldsCertificate told name certificate
      → fault_of formula.vars formula.clauses certificate.derivation ≡ Some fault
      → check_reason fault ≡ Some why
      → Ends told task (file ∷ name ∷ []) None stored_nothing cause.Refused (refused_line name 0 why)
  -- a comparison: the first file has no list, or the second has none, or each has one
  unread_first : (asked : Comparison) (first second : List ℕ) → task ≡ compare asked first second
      → Ends told task (first ∷ []) (Some first) stored_nothing cause.ReadFault (fault_line first)
  no_first_list : (asked : Comparison) (first second : List ℕ) (line : ℕ) (why : Reason)
      → task ≡ compare asked first second → IsNoList told first line why
      → Ends told task (first ∷ []) None stored_nothing cause.Refused (refused_line first line why)
  unread_second : (asked : Comparison) (first second : List ℕ) (entries : List Entry)
      → task ≡ compare asked first second → HoldsList told first entries
      → Ends told task (first ∷ second ∷ []) (Some second) stored_nothing cause.ReadFault (fault_line second)
  no_second_list : (asked : Comparison) (first second : List ℕ) (entries : List Entry) (line : ℕ)
      (why : Reason) → task ≡ compare asked first second → HoldsList told first entries
      → IsNoList told second line why
      → Ends told task (first ∷ second ∷ []) None stored_nothing cause.Refused (refused_line second line why)
  -- the clauses that ask for a packet have a least model, or none
  packet_shown : (asked : Comparison) (first second : List ℕ) (entries others : List Entry) (formula : Formula)
      (values : List Bool) → task ≡ compare asked first second
      → HoldsList told first entries → HoldsList told second others
      → AreClausesOfTwo asked entries others formula → IsLeast formula.vars formula.clauses values
      → Ends told task (first ∷ second ∷ []) None stored_nothing cause.Satisfiable (model_text values)
  no_packet : (asked : Comparison) (first second : List ℕ) (entries others : List Entry)
      (formula : Formula) (items : List Item) → task ≡ compare asked first second
      → HoldsList told first entries → HoldsList told second others
      → AreClausesOfTwo asked entries others formula → IsRefutation formula.vars formula.clauses items
      → Ends told task (first ∷ second ∷ []) None stored_nothing cause.Unsatisfiable no_model_text
  counted : (count nodes : ℕ) → task ≡ gates count → AreNodesOf nodes
      → Ends told task [] None stored_nothing cause.Done (nodes_line nodes)

abbrev pub effects : List (List ℕ) → Option (List ℕ) → List (List ℕ) → Bool → Effects
effects reads failed writes is_refused = record { reads = reads; failed = failed; writes = writes; refused = is_refused }

-- the text of a run that ends so: it is written whole, or the sink refuses it and takes a front; or there was no memory to
-- make it, or none in the sink, which then takes nothing
pub data IsSaid (stop : Cause) (text : List ℕ) : List (List ℕ) → Bool → Cause → Type 0 where
  whole : IsSaid stop text (text ∷ []) false stop
  refused : (front rest : List ℕ) → text ≡ front ++ rest → IsSaid stop text (front ∷ []) true cause.WriteFault
  unkept : IsSaid stop text ([] ∷ []) false cause.NoMemory
  unmade : IsSaid stop text [] false cause.NoMemory

-- the run of a task; where memory is wanting before its end, nothing is stored or written
pub data IsTaskRun (told : List ℕ → Option (List ℕ)) (task : Task) : Effects → Stored → Cause → Type 0 where
  ends : (reads : List (List ℕ)) (failed : Option (List ℕ)) (stored : Stored) (stop end : Cause) (text : List ℕ)
      (writes : List (List ℕ)) (is_refused : Bool) → Ends told task reads failed stored stop text
      → IsSaid stop text writes is_refused end → IsTaskRun told task (effects reads failed writes is_refused) stored end
  wants : (reads rest : List (List ℕ)) → reads_of task ≡ reads ++ rest
      → IsTaskRun told task (effects reads None [] false) stored_nothing cause.NoMemory

pub data IsRun (told : List ℕ → Option (List ℕ)) (words : List (List ℕ)) : Effects → Stored → Cause → Type 0 where
  bad_words : (end : Cause) (writes : List (List ℕ)) (is_refused : Bool) → ((task : Task) → IsForm words task → ⊥)
      → IsSaid cause.BadWords usage writes is_refused end
      → IsRun told words (effects [] None writes is_refused) stored_nothing end
  form : (task : Task) (done : Effects) (stored : Stored) (end : Cause) → IsForm words task
      → IsTaskRun told task done stored end → IsRun told words done stored end

-- a run that ends so: what it did is what the logs show
pub record Performs (Run : Effects → Stored → Cause → Type 0) (files files' : FileLog) (sink sink' : SinkLog)
    (store store' : StoreLog) (end : Cause) : Type 0 where
  pub effects : Effects
  pub stored : Stored
  pub is_run : Run effects stored end
  pub on_files : HasRead files files' effects.reads effects.failed
  pub on_sink : HasWritten sink sink' effects.writes effects.refused
  pub on_store : HasStored store store' stored
