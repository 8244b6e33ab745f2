-- A run that is cut short could go on, so that what it wrote is a front of the text of a whole run.
use Rattle.std.proofs.Common.{◌≡◌, inl, inr, ℕ, Bool, true, false, List, [], ◌∷◌, ◌++◌, length, Option, Some, None, is_some, refl, sym, ap, ◌∙◌, arith, append_assoc, append-nil}
use Rattle.std.proofs.lemmas.Bool.{cases_lt}
use Rattle.mg_outside.specs.Effects.{Effects, IsFrontOfSome, Performs, behind, joined}
use Rattle.mg_outside.specs.Logs.{FileLog, SinkLog}
use Rattle.mg_outside.specs.Reading.{Gives}
use Rattle.mg_outside.proofs.EffectLaws.{is_front_of_longer, joined-append}
use Rattle.session.specs.declared.ended.Cause.{Cause}
use Rattle.session.specs.declared.ended.Cause.TheVariants as cause
use Rattle.session.specs.Run.{AreCarriedOut, all, next, ends, EndsAt, stops as stops_at, cut, wants, IsCutShort, NeverCut, IsCut, refused, unkept, IsSaid, whole, cut as cut_line, unmade, IsScriptRun, unread, refused as refused_script, read, wants as wants_script, IsRun, bad_words, form, effects, no_routers}
use Rattle.query_lang.specs.declared.script.Script.{Script}
use Rattle.query_lang.specs.declared.script.Statement.{Statement}
use Rattle.query_lang.specs.Readings as query
use Rattle.session.proofs.Scripts.{not_neither}
use Rattle.session.specs.Order.{is_ordered}
use Rattle.session.specs.Steps.{State, max_bytes, reads_of, script_reason, Carries, too_long}
use Rattle.session.proofs.Ordered.{are_ordered, first_ordered, rest_ordered}
use Rattle.session.proofs.Progress.{goes_on, stops, progress, refusal}

-- a run whose text begins so
record Continues (Run : Effects → Cause → Type 0) (front : List ℕ) : Type 0 where
  done : Effects
  end : Cause
  rest : List ℕ
  begins : joined done.writes ≡ front ++ rest
  is_run : Run done end

-- a run with this text is one
as_it_is : (Run : Effects → Cause → Type 0) (done : Effects) (end : Cause) → Run done end → Continues Run (joined done.writes)
as_it_is Run done end is_run = record { done = done; end = end; rest = []; begins = sym (append-nil (joined done.writes)); is_run = is_run }

-- what was taken of a cut piece is a front of it
cut_front : (piece : List ℕ) (end : Cause) (taken : List ℕ) (is_refused : Bool) → IsCut piece end taken is_refused → (rest : List ℕ) × (piece ≡ taken ++ rest)
cut_front piece _ _ _ (refused front rest are) = (rest, are)
cut_front piece _ _ _ unkept = (piece, refl)

-- and what was written of a last line is a front of it
said_front : (stop : Cause) (line : List ℕ) (writes : List (List ℕ)) (is_refused : Bool) (end : Cause) → IsSaid IsCutShort stop line writes is_refused end → (rest : List ℕ) × (line ≡ joined writes ++ rest)
said_front stop line _ _ _ whole = ([], rw (append-nil, append-nil) refl)
said_front stop line _ _ _ (cut_line other piece is_refused may is_cut) =
    let part = cut_front line other piece is_refused is_cut in
    (part.0, rw append-nil part.1)
said_front stop line _ _ _ (unmade may) = (line, refl)

-- the run that says the whole line
says_whole : (Run : Effects → Cause → Type 0) (reads : List (List ℕ)) (failed : Option (List ℕ)) (stop : Cause) (line : List ℕ) (writes : List (List ℕ)) (is_refused : Bool) (end : Cause) → IsSaid IsCutShort stop line writes is_refused end → Run (effects reads failed (line ∷ []) false) stop → Continues Run (joined writes)
says_whole Run reads failed stop line writes is_refused end said is_run =
    let part = said_front stop line writes is_refused end said in
    record { done = effects reads failed (line ∷ []) false; end = stop; rest = part.0; begins = rw append-nil part.1; is_run = is_run }

module _ (name : List ℕ) (told : List ℕ → Option (List ℕ)) where
  -- that no whole run of these statements goes on so
  abbrev EndsShort : State → List Statement → List ℕ → Type 0
  EndsShort state statements text = Continues (AreCarriedOut NeverCut name told state statements) text → ⊥

  from_here : (state : State) (statements : List Statement) → is_ordered (is_some state.question) statements ≡ true → EndsShort state statements [] → ⊥
  from_here state [] ordered short = short (as_it_is _ _ cause.Done (all state))
  from_here state (statement ∷ statements) ordered short =
      progress name told statement.line state statement.kind (first_ordered (is_some state.question) statement statements ordered)
      (λ outcome. elim outcome [
        | goes_on pieces new carries ↦ from_here new statements (rest_ordered told state statement pieces new carries statements ordered)
            (λ later. short (record {
              done = behind (reads_of state statement.kind) pieces later.done;
              end = later.end;
              rest = joined (pieces ++ later.done.writes);
              begins = refl;
              is_run = next state new statement statements pieces later.done later.end carries later.is_run;
            }))
        | stops failed end text is_stop ↦ short (record {
          done = effects (reads_of state statement.kind) failed (text ∷ []) false;
          end = end;
          rest = joined (text ∷ []);
          begins = refl;
          is_run = ends state statement statements _ end (stops_at failed end end text (text ∷ []) false is_stop whole);
        })
      ])

  -- statements go on behind the pieces of one, of which this is a front
  behind_pieces : (state new : State) (statement : Statement) (statements : List Statement) (pieces : List (List ℕ)) (front rest : List ℕ) → Carries told state statement.kind pieces new → joined pieces ≡ front ++ rest → Continues (AreCarriedOut NeverCut name told new statements) [] → Continues (AreCarriedOut NeverCut name told state (statement ∷ statements)) front
  behind_pieces state new statement statements pieces front rest carries are later = record {
    done = behind (reads_of state statement.kind) pieces later.done;
    end = later.end;
    rest = rest ++ joined later.done.writes;
    begins = joined-append pieces later.done.writes ∙ ap (λ text. text ++ joined later.done.writes) are ∙ append_assoc front rest (joined later.done.writes);
    is_run = next state new statement statements pieces later.done later.end carries later.is_run;
  }

  end_goes_on : (state : State) (statement : Statement) (statements : List Statement) (last : Effects) (end : Cause) → EndsAt IsCutShort name told statement.line state statement.kind last end → is_ordered (is_some state.question) (statement ∷ statements) ≡ true → EndsShort state (statement ∷ statements) (joined last.writes) → ⊥
  end_goes_on state statement statements _ _ (stops_at failed stop end text writes is_refused is_stop said) ordered short =
      short (says_whole _ (reads_of state statement.kind) failed stop text writes is_refused end said
      (ends state statement statements _ stop (stops_at failed stop stop text (text ∷ []) false is_stop whole)))
  end_goes_on state statement statements _ _ (cut before after piece taken new end is_refused carries may is_cut) ordered short =
      let part = cut_front piece end taken is_refused is_cut in
      let are : joined (before ++ piece ∷ after) ≡ joined (before ++ taken ∷ []) ++ (part.0 ++ joined after) =
      rw (joined-append, joined-append, append-nil, append_assoc) (ap (λ text. joined before ++ text) (ap (λ text. text ++ joined after) part.1 ∙ append_assoc taken part.0 (joined after))) in
      from_here new statements (rest_ordered told state statement _ new carries statements ordered)
      (λ later. short (behind_pieces state new statement statements (before ++ piece ∷ after) (joined (before ++ taken ∷ [])) (part.0 ++ joined after) carries are later))
  end_goes_on state statement statements _ _ (wants reads rest are may) ordered short = from_here state (statement ∷ statements) ordered short

  statements_go_on : (state : State) (statements : List Statement) (done : Effects) (end : Cause) → AreCarriedOut IsCutShort name told state statements done end → is_ordered (is_some state.question) statements ≡ true → EndsShort state statements (joined done.writes) → ⊥
  statements_go_on _ _ _ _ (all state) ordered short = short (as_it_is _ _ cause.Done (all state))
  statements_go_on _ _ _ _ (next state new statement statements pieces more end carries run) ordered short =
      statements_go_on new statements more end run (rest_ordered told state statement pieces new carries statements ordered)
      (λ later. short (record {
        done = behind (reads_of state statement.kind) pieces later.done;
        end = later.end;
        rest = later.rest;
        begins = rw (joined-append, joined-append, append_assoc) (ap (λ text. joined pieces ++ text) later.begins);
        is_run = next state new statement statements pieces later.done later.end carries later.is_run;
      }))
  statements_go_on _ _ _ _ (ends state statement statements last end is_end) ordered short =
      end_goes_on state statement statements last end is_end ordered short

  -- a run of the statements of a script that was read
  of_read : (bytes : List ℕ) (script : Script) (front : List ℕ) → Gives (told name) max_bytes bytes → query.Reads bytes script → Continues (AreCarriedOut NeverCut name told no_routers script.statements) front → Continues (IsScriptRun NeverCut name told) front
  of_read bytes script front gives are_read later = record {
    done = behind (name ∷ []) [] later.done;
    end = later.end;
    rest = later.rest;
    begins = later.begins;
    is_run = read bytes script later.done later.end gives are_read later.is_run;
  }

  script_ordered : (bytes : List ℕ) (script : Script) → query.Reads bytes script → is_ordered false script.statements ≡ true
  script_ordered bytes script are_read = are_ordered _ refl None script.statements are_read.tokens are_read.is

  -- a script whose bytes are given
  given_goes_on : (bytes : List ℕ) → Gives (told name) max_bytes bytes → (Continues (IsScriptRun NeverCut name told) [] → ⊥) → ⊥
  given_goes_on bytes gives short =
      not_neither bytes
      (λ script are_read. from_here no_routers script.statements (script_ordered bytes script are_read)
      (λ later. short (of_read bytes script [] gives are_read later)))
      (λ line why refuses. short (record {
        done = effects (name ∷ []) None _ false;
        end = _;
        rest = _;
        begins = refl;
        is_run = refused_script bytes line why _ _ _ _ false gives refuses (refusal name line (script_reason why)) whole;
      }))

  told_goes_on : (held : Option (List ℕ)) → told name ≡ held → (Continues (IsScriptRun NeverCut name told) [] → ⊥) → ⊥
  told_goes_on None is short = given_goes_on [] (rw is (record { held = tt; within = omega arith })) short
  told_goes_on (Some bytes) is short =
      elim (cases_lt max_bytes (length bytes)) [
        | inl more ↦ short (record {
          done = effects (name ∷ []) None _ false;
          end = _;
          rest = _;
          begins = refl;
          is_run = unread None _ _ _ _ false (too_long (length bytes) more (rw is (omega arith)) refl refl refl) whole;
        })
        | inr within ↦ given_goes_on bytes (rw is (record { held = refl; within = within })) short
      ]

  script_goes_on : (done : Effects) (end : Cause) → IsScriptRun IsCutShort name told done end → (Continues (IsScriptRun NeverCut name told) (joined done.writes) → ⊥) → ⊥
  script_goes_on _ _ (unread failed stop end text writes is_refused fails said) short =
      short (says_whole _ (name ∷ []) failed stop text writes is_refused end said (unread failed stop stop text (text ∷ []) false fails whole))
  script_goes_on _ _ (refused_script bytes line why stop end text writes is_refused gives refuses says said) short =
      short (says_whole _ (name ∷ []) None stop text writes is_refused end said (refused_script bytes line why stop stop text (text ∷ []) false gives refuses says whole))
  script_goes_on _ _ (read bytes script later end gives are_read run) short =
      statements_go_on no_routers script.statements later end run (script_ordered bytes script are_read)
      (λ more. short (of_read bytes script (joined later.writes) gives are_read more))
  script_goes_on _ _ (wants_script reads rest are may) short = told_goes_on (told name) refl short

run_goes_on : (words : List (List ℕ)) (told : List ℕ → Option (List ℕ)) (done : Effects) (end : Cause) → IsRun IsCutShort words told done end → (Continues (IsRun NeverCut words told) (joined done.writes) → ⊥) → ⊥
run_goes_on words told _ _ (bad_words end writes is_refused no_form said) short =
    short (says_whole _ [] None cause.BadWords _ writes is_refused end said (bad_words cause.BadWords _ false no_form whole))
run_goes_on words told _ _ (form name done end is_form run) short =
    script_goes_on name told done end run
    (λ later. short (record { done = later.done; end = later.end; rest = later.rest; begins = later.begins; is_run = form name later.done later.end is_form later.is_run }))

-- what was written of a run is a front of the text of a whole one
pub is_front_of_whole : (words : List (List ℕ)) (told : List ℕ → Option (List ℕ)) (files files' : FileLog) (sink sink' : SinkLog) (end : Cause) → Performs (IsRun IsCutShort words told) files files' sink sink' end → IsFrontOfSome (IsRun NeverCut words told) sink sink'
is_front_of_whole words told files files' sink sink' end performed none =
    run_goes_on words told performed.effects end performed.is_run
    (λ later. none later.done later.end later.is_run
    (rw later.begins (is_front_of_longer sink.taken sink'.taken (joined performed.effects.writes) later.rest performed.on_sink.taken)))
