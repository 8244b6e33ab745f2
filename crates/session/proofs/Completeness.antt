-- A run that has nothing to refuse, and of which no fault came, is done.
use Rattle.std.proofs.Common.{◌≡◌, ℕ, ◌≤◌, ◌⊎◌, inl, inr, Bool, true, List, length, Option, Some, IsSome, refl, sym, ap, ◌∙◌, arith}
use Rattle.std.specs.List.{AllByRecursion}
use Rattle.mg_outside.specs.Effects.{Effects, FaultsMoved, Performs, RefusalCounted}
use Rattle.mg_outside.specs.Faults.{Rose}
use Rattle.mg_outside.specs.Logs.{FileLog, SinkLog}
use Rattle.mg_outside.specs.Reading.{Gives}
use Rattle.session.specs.declared.ended.Cause.{Cause}
use Rattle.session.specs.declared.ended.Cause.TheVariants as cause
use Rattle.session.specs.Complete.{IsAnswerable, TellsFile}
use Rattle.query_lang.specs.declared.script.Kind.{Kind}
use Rattle.query_lang.specs.declared.script.Statement.{Statement}
use Rattle.session.specs.Steps.{State, Carries, loads, explores, shows, decides, IsUnread, fault, too_long, IsRefused, not_built, taken, unknown, no_question, past, no_list, arity, literal, Stops, refused as refused_statement, unread as unread_file, refused_file, with_router, max_bytes}
use Rattle.session.specs.Run.{AreCarriedOut, all, next, ends, EndsAt, stops, cut, wants, IsCutShort, NeverCut, IsCut, refused, unkept, IsSaid, whole, cut as cut_line, unmade, IsScriptRun, unread, refused as refused_script, read, wants as wants_script, IsRun, bad_words, form, no_routers}
use Rattle.ios_config.proofs.OneConfig.{routers_same, read_is_not_refused}
use Rattle.session.proofs.Places.{held}
use Rattle.list_questions.proofs.QuestionShapes.{one_question}
use Rattle.session.proofs.Scripts.{not_both, same_script}

-- bytes that are given are those that are told
given_told : (told : Option (List ℕ)) (bytes other : List ℕ) → told ≡ Some bytes → Gives told max_bytes other → other ≡ bytes
given_told told bytes other is_told gives = rw is_told at gives.held

given_once : (told : Option (List ℕ)) (bytes other : List ℕ) → IsSome told → Gives told max_bytes bytes → Gives told max_bytes other → other ≡ bytes
given_once told bytes other tells gives others =
    let some = held told tells in
    given_told told some.0 other some.1 others ∙ sym (given_told told some.0 bytes some.1 gives)

-- a file that is told and short enough is unread only where its read failed
unread_failed : (file : List ℕ) (told : Option (List ℕ)) (bytes : List ℕ) → told ≡ Some bytes → length bytes ≤ max_bytes → (failed : Option (List ℕ)) (end : Cause) (text : List ℕ) → IsUnread file told failed end text → failed ≡ Some file
unread_failed file told bytes is_told within failed end text (fault f e t) = f
unread_failed file told bytes is_told within failed end text (too_long given more holds f e t) =
    let as_many : given ≤ length bytes = rw is_told at holds in
    absurd (omega (arith, more, as_many, within))

-- a statement that is carried out leaves one state
state_is_one : (told : List ℕ → Option (List ℕ)) (state : State) (what : Kind) (text other : List (List ℕ)) (new last : State) → TellsFile told what → Carries told state what text new → Carries told state what other last → last ≡ new
state_is_one told state _ _ _ _ _ tells (loads file name bytes router free gives reads) (loads _ _ bytes' router' free' gives' reads') =
    let same = given_once (told file) bytes bytes' tells gives gives' in
    let router_same = routers_same state.names bytes router' router (rw same at reads') reads in
    ap (with_router state name) router_same
state_is_one told state _ _ _ _ _ tells (explores explore question found known is_asked named fit) (explores _ question' found' known' is_asked' named' fit') =
    let same : question' ≡ question = one_question explore.formula question' question is_asked'.asks is_asked.asks in
    let list : found' ≡ found = cc in
    rw (same, list) refl
state_is_one told state _ _ _ _ _ tells (shows question text kept shown) (shows question' text' kept' shown') = refl
state_is_one told state _ _ _ _ _ tells (decides list packet found is named eight fit are) (decides _ _ found' is' named' eight' fit' are') = refl

-- that a read failed
abbrev Failed : Option (List ℕ) → Type 0
Failed failed = (file : List ℕ) × (failed ≡ Some file)

-- a statement that is carried out is not refused
not_refused : (told : List ℕ → Option (List ℕ)) (state : State) (what : Kind) (text : List (List ℕ)) (new : State) (why : _) → Carries told state what text new → IsRefused state what why → ⊥
not_refused told state _ _ _ _ (loads file name bytes router free gives reads) (not_built _ missing) = cc
not_refused told state _ _ _ _ (loads file name bytes router free gives reads) (taken _ _ used) = cc
not_refused told state _ _ _ _ (explores explore question found known is_asked named fit) (not_built _ missing) = cc
not_refused told state _ _ _ _ (explores explore question found known is_asked named fit) (unknown _ why is) = cc
not_refused told state _ _ _ _ (explores explore question found known is_asked named fit) (no_question _ known' none) = none question is_asked
not_refused told state _ _ _ _ (explores explore question found known is_asked named fit) (past _ question' known' is_asked' beyond) =
    let same : question' ≡ question = one_question explore.formula question' question is_asked'.asks is_asked.asks in
    cc
not_refused told state _ _ _ _ (shows question text kept shown) (not_built _ missing) = cc
not_refused told state _ _ _ _ (decides list packet found is named eight fit are) (not_built _ missing) = cc
not_refused told state _ _ _ _ (decides list packet found is named eight fit are) (no_list _ _ none) = cc
not_refused told state _ _ _ _ (decides list packet found is named eight fit are) (arity _ _ found' named' other) = other eight
not_refused told state _ _ _ _ (decides list packet found is named eight fit are) (literal _ _ found' why named' eight' wrong) = cc

-- a statement that is carried out stops a run only where a read failed
stops_by_fault : (script : List ℕ) (told : List ℕ → Option (List ℕ)) (line : ℕ) (state : State) (what : Kind) (text : List (List ℕ)) (new : State) (failed : Option (List ℕ)) (end : Cause) (words : List ℕ) → TellsFile told what → Carries told state what text new → Stops script told line state what failed end words → Failed failed
stops_by_fault script told line state what text new _ _ _ tells carries (refused_statement _ why words end is_refused says) =
    absurd (not_refused told state what text new why carries is_refused)
stops_by_fault script told line state _ _ _ _ _ _ tells (loads file name bytes router free gives reads) (unread_file _ _ text failed end free' fails) =
    let some = held (told file) tells in
    let same : bytes ≡ some.0 = given_told (told file) some.0 bytes some.1 gives in
    (file, unread_failed file (told file) bytes (some.1 ∙ ap Some (sym same)) gives.within failed end text fails)
stops_by_fault script told line state _ _ _ _ _ _ tells (loads file name bytes router free gives reads) (refused_file _ _ _ bytes' place why _ free' gives' is_refused says) =
    let same = given_once (told file) bytes bytes' tells gives gives' in
    absurd (read_is_not_refused state.names bytes router place why reads (rw same at is_refused))

-- a run that is stopped is not done
unread_not_done : (file : List ℕ) (told failed : Option (List ℕ)) (end : Cause) (text : List ℕ) → end ≡ cause.Done → IsUnread file told failed end text → ⊥
unread_not_done file told failed end text done (fault f e t) = cc
unread_not_done file told failed end text done (too_long given more holds f e t) = cc

stops_not_done : (script : List ℕ) (told : List ℕ → Option (List ℕ)) (line : ℕ) (state : State) (what : Kind) (failed : Option (List ℕ)) (end : Cause) (text : List ℕ) → end ≡ cause.Done → Stops script told line state what failed end text → ⊥
stops_not_done script told line state _ _ _ _ done (refused_statement what why text end is_refused says) = cc says.ends
stops_not_done script told line state _ _ _ _ done (unread_file file name text failed end free fails) = unread_not_done file (told file) failed end text done fails
stops_not_done script told line state _ _ _ _ done (refused_file file name text bytes place why end free gives is_refused says) = cc says.ends

-- a whole run that is done does not end at a statement
whole_line_stops : (stop : Cause) (line : List ℕ) (writes : List (List ℕ)) (is_refused : Bool) (end : Cause) → IsSaid NeverCut stop line writes is_refused end → end ≡ cause.Done → stop ≡ cause.Done
whole_line_stops stop line _ _ _ whole done = done
whole_line_stops stop line _ _ _ (cut_line other part is_refused may is_cut) done = absurd may
whole_line_stops stop line _ _ _ (unmade may) done = absurd may

end_not_done : (script : List ℕ) (told : List ℕ → Option (List ℕ)) (line : ℕ) (state : State) (what : Kind) (done : Effects) (end : Cause) → end ≡ cause.Done → EndsAt NeverCut script told line state what done end → ⊥
end_not_done script told line state what _ _ is (stops failed stop end text writes is_refused is_stop said) =
    stops_not_done script told line state what failed stop text (whole_line_stops stop text writes is_refused end said is) is_stop
end_not_done script told line state what _ _ is (cut before after piece part new end is_refused carries may is_cut) = may
end_not_done script told line state what _ _ is (wants reads rest are may) = may

-- done, or a fault came, or memory was wanting
data IsDone (failed : Option (List ℕ)) (is_refused : Bool) (end : Cause) : Type 0 where
  done : end ≡ cause.Done → IsDone failed is_refused end
  wanting : end ≡ cause.NoMemory → IsDone failed is_refused end
  by_sink : is_refused ≡ true → IsDone failed is_refused end
  by_file : Failed failed → IsDone failed is_refused end

cut_done : (failed : Option (List ℕ)) (piece : List ℕ) (end : Cause) (taken : List ℕ) (is_refused : Bool) → IsCut piece end taken is_refused → IsDone failed is_refused end
cut_done failed piece _ _ _ (refused front rest are) = by_sink refl
cut_done failed piece _ _ _ unkept = wanting refl

said_done : (failed : Option (List ℕ)) (stop : Cause) (line : List ℕ) (writes : List (List ℕ)) (is_refused : Bool) (end : Cause) → Failed failed → IsSaid IsCutShort stop line writes is_refused end → IsDone failed is_refused end
said_done failed stop line writes is_refused end fails said = by_file fails

end_done : (script : List ℕ) (told : List ℕ → Option (List ℕ)) (line : ℕ) (state : State) (what : Kind) (text : List (List ℕ)) (new : State) → TellsFile told what → Carries told state what text new → (last : Effects) (end : Cause) → EndsAt IsCutShort script told line state what last end → IsDone last.failed last.refused end
end_done script told line state what text new tells carries _ _ (stops failed stop end line_text writes is_refused is_stop said) =
    by_file (stops_by_fault script told line state what text new failed stop line_text tells carries is_stop)
end_done script told line state what text new tells carries _ _ (cut before after piece part other end is_refused carries' may is_cut) = cut_done _ piece end part is_refused is_cut
end_done script told line state what text new tells carries _ _ (wants reads rest are may) = wanting refl

-- the files of the statements are told
abbrev TellsFiles : (List ℕ → Option (List ℕ)) → List Statement → Type 0
TellsFiles told = AllByRecursion (λ (statement : Statement). TellsFile told statement.kind)

-- where some run of the statements is done, each is, or is cut short, or a fault came
statements_done : (name : List ℕ) (told : List ℕ → Option (List ℕ)) (state : State) (statements : List Statement) (good : Effects) (well : Cause) → well ≡ cause.Done → TellsFiles told statements → AreCarriedOut NeverCut name told state statements good well → (other : Effects) (end : Cause) → AreCarriedOut IsCutShort name told state statements other end → IsDone other.failed other.refused end
statements_done name told _ _ _ _ is tells (all state) _ _ (all _) = done refl
statements_done name told _ _ _ _ is tells (next state new statement statements text more well carries run) _ _ (next _ last _ _ pieces later end carries' run') =
    let same = state_is_one told state statement.kind text pieces new last tells.0 carries carries' in
    statements_done name told new statements more well is tells.1 run later end (rw same at run')
statements_done name told _ _ _ _ is tells (next state new statement statements text more well carries run) _ _ (ends _ _ _ last end is_end) =
    end_done name told statement.line state statement.kind text new tells.0 carries last end is_end
statements_done name told _ _ _ _ is tells (ends state statement statements last well is_end) other end run =
    absurd (end_not_done name told statement.line state statement.kind last well is is_end)

script_done : (words : List (List ℕ)) (told : List ℕ → Option (List ℕ)) (a : IsAnswerable words told) (other : Effects) (end : Cause) → IsScriptRun IsCutShort a.name told other end → IsDone other.failed other.refused end
script_done words told a _ _ (unread failed stop end text writes is_refused fails said) =
    by_file (a.name, unread_failed a.name (told a.name) a.bytes a.is_told a.within failed stop text fails)
script_done words told a _ _ (refused_script bytes line why stop end text writes is_refused gives refuses says said) =
    absurd (not_both a.bytes a.script line why a.reads (rw (given_told (told a.name) a.bytes bytes a.is_told gives) at refuses))
script_done words told a _ _ (read bytes script later end gives are_read run) =
    let same : script ≡ a.script = same_script a.bytes script a.script (rw (given_told (told a.name) a.bytes bytes a.is_told gives) at are_read) a.reads in
    statements_done a.name told no_routers a.script.statements a.done cause.Done refl a.files a.carried later end (rw same at run)
script_done words told a _ _ (wants_script reads rest are may) = wanting refl

run_done : (words : List (List ℕ)) (told : List ℕ → Option (List ℕ)) → IsAnswerable words told → (other : Effects) (end : Cause) → IsRun IsCutShort words told other end → IsDone other.failed other.refused end
run_done words told a _ _ (bad_words end writes is_refused no_form said) = absurd (no_form a.name a.is_form)
run_done words told a _ _ (form name other end is_form run) =
    let same : name ≡ a.name = cc (is_form.one, a.is_form.one) in
    script_done words told a other end (rw same at run)

-- a read that failed shows in the count of its name, and a write that was refused in the sink's
failed_rose : (before now : FileLog) (failed : Option (List ℕ)) (file : List ℕ) → failed ≡ Some file → FaultsMoved failed before.faults now.faults → Rose (before.faults file) (now.faults file)
failed_rose before now failed file is moved = (rw is at moved).0

refused_rose : (before now : SinkLog) (is_refused : Bool) → is_refused ≡ true → RefusalCounted is_refused before.faults now.faults → Rose before.faults now.faults
refused_rose before now is_refused is counted = (rw is at counted).0

-- so it ends as done, or for want of memory
pub completes : (words : List (List ℕ)) (told : List ℕ → Option (List ℕ)) (files files' : FileLog) (sink sink' : SinkLog) (end : Cause) → Performs (IsRun IsCutShort words told) files files' sink sink' end → IsAnswerable words told → ((file : List ℕ) → Rose (files.faults file) (files'.faults file) → ⊥) → (Rose sink.faults sink'.faults → ⊥) → (end ≡ cause.Done) ⊎ (end ≡ cause.NoMemory)
completes words told files files' sink sink' end performed a calm sure =
    let done' = performed.effects in
    elim (run_done words told a done' end performed.is_run) [
      | done is ↦ inl is
      | wanting is ↦ inr is
      | by_sink is ↦ absurd (sure (refused_rose sink sink' done'.refused is performed.on_sink.faults))
      | by_file fails ↦ absurd (calm fails.0 (failed_rose files files' done'.failed fails.0 fails.1 performed.on_files.faults))
    ]
