-- Runs that compare the lists of two files, by what their calls did.
use Rattle.std.proofs.Common.{ℕ, List, [], ◌∷◌, ◌++◌, Option, None, Some, refl, ap, ◌∙◌, append_assoc}
use Rattle.mg_outside.specs.Effects.{HasRead}
use Rattle.mg_outside.specs.Logs.{FileLog, SinkLog}
use Rattle.mg_outside.proofs.EffectLaws.{has_read_then}
use Rattle.ios_acl.specs.declared.entry.Entry.{Entry}
use Rattle.frame.specs.declared.comparison.Comparison.{Comparison}
use Rattle.solver_run.specs.declared.cause.Cause.{Cause}
use Rattle.solver_run.specs.declared.unread.Unread.{Unread}
use Rattle.solver_run.specs.declared.unread.Unread.TheVariants as unread_as
use Rattle.solver_run.specs.Stores.{StoreLog, stored_nothing}
use Rattle.solver_run.specs.Tasks as task
use Rattle.solver_run.specs.Lists.{HoldsList, IsNoList}
use Rattle.solver_run.specs.Run.{IsTaskRun, Performs, unread_first, no_first_list, unread_second, no_second_list, packet_shown, no_packet}
use Rattle.solver_run.specs.Inside.Endings.{EndsCompared, EndsUnread, IsUnread}
use Rattle.solver_run.specs.Inside.Endings as ending
use Rattle.solver_run.proofs.Runs.{says_so, wants_here}
use Rattle.solver_run.proofs.Writing.{has_stored_nothing}

module _ (told : List ℕ → Option (List ℕ)) (asked : Comparison) (first second : List ℕ) (sink sink' : SinkLog) (end : Cause) (log : StoreLog) where
  -- the first file gave no list
  pub first_unread_ends : (files files' : FileLog) (why : Unread) → IsUnread (IsNoList told first) first files files' why → EndsUnread first why sink sink' end → Performs (IsTaskRun told (task.compare asked first second)) files files' sink sink' log log end
  first_unread_ends files files' unread_as.Failed read says =
      says_so told _ files files' sink sink' (first ∷ []) (Some first) stored_nothing _ _ end log log (unread_first asked first second refl) read (has_stored_nothing log) says
  first_unread_ends files files' (unread_as.Refused line why) read says =
      says_so told _ files files' sink sink' (first ∷ []) None stored_nothing _ _ end log log (no_first_list asked first second line why refl read.0) read.1 (has_stored_nothing log) says
  first_unread_ends files files' unread_as.NoMemory read says =
      wants_here told _ files files' sink sink' read.reads (read.rest ++ second ∷ []) end log log
      (ap (λ names. names ++ second ∷ []) read.are ∙ append_assoc read.reads read.rest (second ∷ [])) read.on_files (has_stored_nothing log) says.0 says.1

  module _ (entries : List Entry) (holds : HoldsList told first entries) (files between files' : FileLog) (before : HasRead files between (first ∷ []) None) where
    -- the second gave none
    pub second_unread_ends : (why : Unread) → IsUnread (IsNoList told second) second between files' why → EndsUnread second why sink sink' end → Performs (IsTaskRun told (task.compare asked first second)) files files' sink sink' log log end
    second_unread_ends unread_as.Failed read says =
        says_so told _ files files' sink sink' (first ∷ second ∷ []) (Some second) stored_nothing _ _ end log log (unread_second asked first second entries refl holds)
        (has_read_then files between files' (first ∷ []) (second ∷ []) (Some second) before read) (has_stored_nothing log) says
    second_unread_ends (unread_as.Refused line why) read says =
        says_so told _ files files' sink sink' (first ∷ second ∷ []) None stored_nothing _ _ end log log (no_second_list asked first second entries line why refl holds read.0)
        (has_read_then files between files' (first ∷ []) (second ∷ []) None before read.1) (has_stored_nothing log) says
    second_unread_ends unread_as.NoMemory read says =
        wants_here told _ files files' sink sink' (first ∷ read.reads) read.rest end log log (ap (λ names. first ∷ names) read.are)
        (has_read_then files between files' (first ∷ []) read.reads None before read.on_files) (has_stored_nothing log) says.0 says.1

    -- both gave one, and their clauses were searched
    pub compared_ends : (others : List Entry) → HoldsList told second others → HasRead between files' (second ∷ []) None → EndsCompared asked entries others sink sink' end → Performs (IsTaskRun told (task.compare asked first second)) files files' sink sink' log log end
    compared_ends others is read (ending.found formula values clauses least says) =
        says_so told _ files files' sink sink' (first ∷ second ∷ []) None stored_nothing _ _ end log log (packet_shown asked first second entries others formula values refl holds is clauses least)
        (has_read_then files between files' (first ∷ []) (second ∷ []) None before read) (has_stored_nothing log) says
    compared_ends others is read (ending.none formula items clauses shown says) =
        says_so told _ files files' sink sink' (first ∷ second ∷ []) None stored_nothing _ _ end log log (no_packet asked first second entries others formula items refl holds is clauses shown)
        (has_read_then files between files' (first ∷ []) (second ∷ []) None before read) (has_stored_nothing log) says
    compared_ends others is read (ending.wanted ended nothing) =
        wants_here told _ files files' sink sink' (first ∷ second ∷ []) [] end log log refl
        (has_read_then files between files' (first ∷ []) (second ∷ []) None before read) (has_stored_nothing log) ended nothing
