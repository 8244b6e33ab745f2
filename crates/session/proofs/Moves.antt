-- What a statement does, over files that tell the same bytes.
use Rattle.std.proofs.Common.{◌≡◌, ℕ, List, Option}
use Rattle.mg_outside.specs.Effects.{Effects}
use Rattle.mg_outside.specs.Logs.{FileLog, SinkLog}
use Rattle.session.specs.declared.ended.Cause.{Cause}
use Rattle.session.specs.Endings.{IsCarriedOut}
use Rattle.session.specs.Run.{AreCarriedOut, all, next, ends, EndsAt, stops, cut, wants}
use Rattle.query_lang.specs.declared.script.Kind.{Kind}
use Rattle.query_lang.specs.declared.script.Statement.{Statement}
use Rattle.session.specs.Steps.{State, Carries, loads, explores, shows, decides, IsUnread, fault, too_long, Stops, refused, unread, refused_file}

unread_moves : (file : List ℕ) (told told' : Option (List ℕ)) → told ≡ told' → (failed : Option (List ℕ)) (end : Cause) (text : List ℕ) → IsUnread file told failed end text → IsUnread file told' failed end text
unread_moves file told told' same failed end text (fault f e t) = fault f e t
unread_moves file told told' same failed end text (too_long given more held f e t) = too_long given more (rw same at held) f e t

module _ (told told' : List ℕ → Option (List ℕ)) (same : (file : List ℕ) → told file ≡ told' file) where
  pub carries_moves : (state : State) (what : Kind) (pieces : List (List ℕ)) (new : State) → Carries told state what pieces new → Carries told' state what pieces new
  carries_moves state _ _ _ (loads file name bytes router free gives reads) = loads file name bytes router free (rw (same file) at gives) reads
  carries_moves state _ _ _ (explores explore question found known is_asked named fit) = explores explore question found known is_asked named fit
  carries_moves state _ _ _ (shows question text kept shown) = shows question text kept shown
  carries_moves state _ _ _ (decides list packet found is named eight fit are) = decides list packet found is named eight fit are

  stops_moves : (script : List ℕ) (line : ℕ) (state : State) (what : Kind) (failed : Option (List ℕ)) (end : Cause) (text : List ℕ) → Stops script told line state what failed end text → Stops script told' line state what failed end text
  stops_moves script line state _ _ _ _ (refused what why text end is_refused says) = refused what why text end is_refused says
  stops_moves script line state _ _ _ _ (unread file name text failed end free fails) =
      unread file name text failed end free (unread_moves file (told file) (told' file) (same file) failed end text fails)
  stops_moves script line state _ _ _ _ (refused_file file name text bytes place why end free gives is_refused says) =
      refused_file file name text bytes place why end free (rw (same file) at gives) is_refused says

  -- a run that ends at a statement
  pub ends_move : (may_cut : Cause → Type 0) (script : List ℕ) (line : ℕ) (state : State) (what : Kind) (done : Effects) (end : Cause) → EndsAt may_cut script told line state what done end → EndsAt may_cut script told' line state what done end
  ends_move may_cut script line state what _ _ (stops failed stop end text writes is_refused is_stop said) =
      stops failed stop end text writes is_refused (stops_moves script line state what failed stop text is_stop) said
  ends_move may_cut script line state what _ _ (cut before after piece part new end is_refused carries may is_cut) =
      cut before after piece part new end is_refused (carries_moves state what _ new carries) may is_cut
  ends_move may_cut script line state what _ _ (wants reads rest are may) = wants reads rest are may

  pub carried_moves : (state : State) (what : Kind) (new : State) (files files' : FileLog) (sink sink' : SinkLog) → IsCarriedOut told state what new files files' sink sink' → IsCarriedOut told' state what new files files' sink sink'
  carried_moves state what new files files' sink sink' done = record {
    pieces = done.pieces;
    carries = carries_moves state what done.pieces new done.carries;
    on_files = done.on_files;
    on_sink = done.on_sink;
  }

  pub carried_out_moves : (may_cut : Cause → Type 0) (script : List ℕ) (state : State) (statements : List Statement) (done : Effects) (end : Cause) → AreCarriedOut may_cut script told state statements done end → AreCarriedOut may_cut script told' state statements done end
  carried_out_moves may_cut script _ _ _ _ (all state) = all state
  carried_out_moves may_cut script _ _ _ _ (next state new statement statements pieces later end carries run) =
      next state new statement statements pieces later end (carries_moves state statement.kind pieces new carries)
      (carried_out_moves may_cut script new statements later end run)
  carried_out_moves may_cut script _ _ _ _ (ends state statement statements last end is_end) =
      ends state statement statements last end (ends_move may_cut script statement.line state statement.kind last end is_end)
