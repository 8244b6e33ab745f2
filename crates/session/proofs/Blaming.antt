-- Whom a run blames, by what it did.
use Rattle.std.proofs.Common.{◌≡◌, ℕ, Bool, true, false, List, Option, None, Some, refl}
use Rattle.mg_outside.specs.Effects.{Effects, FaultsMoved, Performs, RefusalCounted}
use Rattle.mg_outside.specs.Logs.{FileLog, SinkLog}
use Rattle.session.specs.declared.ended.Cause.{Cause}
use Rattle.session.specs.declared.ended.Cause.TheVariants as cause
use Rattle.session.specs.Blame.{BlamesFiles, BlamesSink}
use Rattle.session.specs.Run.{AreCarriedOut, all, next, ends, EndsAt, stops, cut, wants, IsCut, refused, unkept, IsSaid, whole, cut as cut_line, unmade, IsScriptRun, unread, refused as refused_script, read, wants as wants_script, IsRun, bad_words, form}
use Rattle.query_lang.specs.declared.script.Kind.{Kind}
use Rattle.query_lang.specs.declared.script.Statement.{Statement}
use Rattle.session.specs.Steps.{State, IsUnread, fault, too_long, Stops, refused as refused_statement, unread as unread_file, refused_file, IsRefusal}

-- the sink is blamed exactly where it refused a write
abbrev FitsSink : Bool → Cause → Type 0
FitsSink true end = end ≡ cause.WriteFault
FitsSink false end = end ≡ cause.WriteFault → ⊥

-- where a file is blamed its read failed, and where nobody is none did
abbrev FitsFiles : Option (List ℕ) → Cause → Type 0
FitsFiles failed (cause.ReadFault file) = failed ≡ Some file
FitsFiles failed cause.WriteFault = Unit {0}
FitsFiles failed cause.NoMemory = Unit {0}
FitsFiles failed end = failed ≡ None

record Fits (failed : Option (List ℕ)) (refused : Bool) (end : Cause) : Type 0 where
  on_sink : FitsSink refused end
  on_files : FitsFiles failed end

unread_fits : (file : List ℕ) (told failed : Option (List ℕ)) (end : Cause) (text : List ℕ) → IsUnread file told failed end text → Fits failed false end
unread_fits file told failed end text (fault f e t) = rw e (record { on_sink = λ same. cc; on_files = f })
unread_fits file told failed end text (too_long given more held f e t) = rw e (record { on_sink = λ same. cc; on_files = f })

refusal_fits : (file : List ℕ) (line : ℕ) (why : _) (end : Cause) (text : List ℕ) → IsRefusal file line why end text → Fits None false end
refusal_fits file line why end text says = rw says.ends (record { on_sink = λ same. cc; on_files = refl })

stop_fits : (script : List ℕ) (told : List ℕ → Option (List ℕ)) (line : ℕ) (state : State) (what : Kind) (failed : Option (List ℕ)) (end : Cause) (text : List ℕ) → Stops script told line state what failed end text → Fits failed false end
stop_fits script told line state _ _ _ _ (refused_statement what why text end is_refused says) = refusal_fits script line why end text says
stop_fits script told line state _ _ _ _ (unread_file file name text failed end free fails) = unread_fits file (told file) failed end text fails
stop_fits script told line state _ _ _ _ (refused_file file name text bytes place why end free gives is_refused says) = refusal_fits file place _ end text says

cut_fits : (failed : Option (List ℕ)) (piece : List ℕ) (end : Cause) (taken : List ℕ) (is_refused : Bool) → IsCut piece end taken is_refused → Fits failed is_refused end
cut_fits failed piece _ _ _ (refused front rest are) = record { on_sink = refl; on_files = tt }
cut_fits failed piece _ _ _ unkept = record { on_sink = λ same. cc; on_files = tt }

no_memory_fits : (failed : Option (List ℕ)) → Fits failed false cause.NoMemory
no_memory_fits failed = record { on_sink = λ same. cc; on_files = tt }

module _ (may_cut : Cause → Type 0) where
  said_fits : (failed : Option (List ℕ)) (stop : Cause) (line : List ℕ) (writes : List (List ℕ)) (is_refused : Bool) (end : Cause) → Fits failed false stop → IsSaid may_cut stop line writes is_refused end → Fits failed is_refused end
  said_fits failed stop line _ _ _ fits whole = fits
  said_fits failed stop line _ _ _ fits (cut_line other part is_refused may is_cut) = cut_fits failed line other part is_refused is_cut
  said_fits failed stop line _ _ _ fits (unmade may) = no_memory_fits failed

  end_fits : (script : List ℕ) (told : List ℕ → Option (List ℕ)) (line : ℕ) (state : State) (what : Kind) (done : Effects) (end : Cause) → EndsAt may_cut script told line state what done end → Fits done.failed done.refused end
  end_fits script told line state what _ _ (stops failed stop end text writes is_refused is_stop said) =
      said_fits failed stop text writes is_refused end (stop_fits script told line state what failed stop text is_stop) said
  end_fits script told line state what _ _ (cut before after piece part new end is_refused carries may is_cut) = cut_fits None piece end part is_refused is_cut
  end_fits script told line state what _ _ (wants reads rest are may) = no_memory_fits None

  statements_fit : (script : List ℕ) (told : List ℕ → Option (List ℕ)) (state : State) (statements : List Statement) (done : Effects) (end : Cause) → AreCarriedOut may_cut script told state statements done end → Fits done.failed done.refused end
  statements_fit script told _ _ _ _ (all state) = record { on_sink = λ same. cc; on_files = refl }
  statements_fit script told _ _ _ _ (next state new statement statements pieces later end carries run) =
      statements_fit script told new statements later end run
  statements_fit script told _ _ _ _ (ends state statement statements last end is_end) = end_fits script told statement.line state statement.kind last end is_end

  script_fits : (name : List ℕ) (told : List ℕ → Option (List ℕ)) (done : Effects) (end : Cause) → IsScriptRun may_cut name told done end → Fits done.failed done.refused end
  script_fits name told _ _ (unread failed stop end text writes is_refused fails said) =
      said_fits failed stop text writes is_refused end (unread_fits name (told name) failed stop text fails) said
  script_fits name told _ _ (refused_script bytes line why stop end text writes is_refused gives refuses says said) =
      said_fits None stop text writes is_refused end (refusal_fits name line _ stop text says) said
  script_fits name told _ _ (read bytes script later end gives reads run) = statements_fit name told _ script.statements later end run
  script_fits name told _ _ (wants_script reads rest are may) = no_memory_fits None

  run_fits : (words : List (List ℕ)) (told : List ℕ → Option (List ℕ)) (done : Effects) (end : Cause) → IsRun may_cut words told done end → Fits done.failed done.refused end
  run_fits words told _ _ (bad_words end writes is_refused no_form said) =
      said_fits None cause.BadWords _ writes is_refused end (record { on_sink = λ same. cc; on_files = refl }) said
  run_fits words told _ _ (form name done end is_form run) = script_fits name told done end run

sink_blamed : (before now : SinkLog) (end : Cause) (is_refused : Bool) → FitsSink is_refused end → RefusalCounted is_refused before.faults now.faults → BlamesSink before now end
sink_blamed before now end true fits counted = record { rose = λ is. counted.0; calm = λ is_not. absurd (is_not fits) }
sink_blamed before now end false fits counted = record { rose = λ is. absurd (fits is); calm = λ is_not. counted }

files_blamed : (before now : FileLog) (end : Cause) (failed : Option (List ℕ)) → FitsFiles failed end → FaultsMoved failed before.faults now.faults → BlamesFiles before now end
files_blamed before now cause.Done failed fits moved = rw fits at moved
files_blamed before now (cause.Refused file line why) failed fits moved = rw fits at moved
files_blamed before now cause.BadWords failed fits moved = rw fits at moved
files_blamed before now (cause.ReadFault file) failed fits moved = (rw fits at moved).0
files_blamed before now cause.WriteFault failed fits moved = tt
files_blamed before now cause.NoMemory failed fits moved = tt

-- whom a run blames
pub sink_is_blamed : (may_cut : Cause → Type 0) (words : List (List ℕ)) (told : List ℕ → Option (List ℕ)) (files files' : FileLog) (sink sink' : SinkLog) (end : Cause) → Performs (IsRun may_cut words told) files files' sink sink' end → BlamesSink sink sink' end
sink_is_blamed may_cut words told files files' sink sink' end performed =
    sink_blamed sink sink' end performed.effects.refused (run_fits may_cut words told performed.effects end performed.is_run).on_sink performed.on_sink.faults

pub files_are_blamed : (may_cut : Cause → Type 0) (words : List (List ℕ)) (told : List ℕ → Option (List ℕ)) (files files' : FileLog) (sink sink' : SinkLog) (end : Cause) → Performs (IsRun may_cut words told) files files' sink sink' end → BlamesFiles files files' end
files_are_blamed may_cut words told files files' sink sink' end performed =
    files_blamed files files' end performed.effects.failed (run_fits may_cut words told performed.effects end performed.is_run).on_files performed.on_files.faults
