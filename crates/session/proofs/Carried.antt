-- The statements of a script that were carried out so far.
use Rattle.std.proofs.Common.{◌≡◌, ◌∙◌, ℕ, suc, ◌+◌, ◌<◌, false, List, [], ◌∷◌, ◌++◌, length, drop, get_or, Option, None, refl, sym, ap, add-one, drop-cons, append_assoc, append-nil}
use Rattle.mg_outside.specs.Effects.{Effects, HasRead, HasWritten, Performs, behind}
use Rattle.mg_outside.specs.Logs.{FileLog, SinkLog}
use Rattle.mg_outside.proofs.EffectLaws.{has_read_nothing, has_read_then, has_written_nothing, has_written_then}
use Rattle.session.specs.declared.ended.Cause.{Cause}
use Rattle.session.specs.declared.ended.Cause.TheVariants as cause
use Rattle.session.specs.Endings.{IsCarriedOut}
use Rattle.session.specs.Run.{AreCarriedOut, all, next, ends, EndsAt, IsCutShort, effects, no_routers}
use Rattle.query_lang.specs.declared.script.Statement.{Statement}
use Rattle.session.specs.Steps.{State, reads_of, Carries}

-- the statements are carried out one after the other: these names are read, these pieces written, and this state is left
pub data AreCarried (told : List ℕ → Option (List ℕ)) : State → List Statement → List (List ℕ) → List (List ℕ) → State → Type 0 where
  none : (state : State) → AreCarried told state [] [] [] state
  more : (state new last : State) (statement : Statement) (statements : List Statement) (reads pieces others : List (List ℕ)) → Carries told state statement.kind pieces new → AreCarried told new statements reads others last → AreCarried told state (statement ∷ statements) (reads_of state statement.kind ++ reads) (pieces ++ others) last

and_one : (told : List ℕ → Option (List ℕ)) (state : State) (statements : List Statement) (reads pieces : List (List ℕ)) (last : State) → AreCarried told state statements reads pieces last → (statement : Statement) (text : List (List ℕ)) (new : State) → Carries told last statement.kind text new → AreCarried told state (statements ++ statement ∷ []) (reads ++ reads_of last statement.kind) (pieces ++ text) new
and_one told state _ _ _ _ (none _) statement text new carries =
    rw (append-nil (reads_of state statement.kind), append-nil text) at (more state new new statement [] [] text [] carries (none new))
and_one told state _ _ _ last (more _ then_state _ first statements reads pieces others first_carries rest) statement text new carries =
    rw (append_assoc (reads_of state first.kind) reads (reads_of last statement.kind), append_assoc pieces others text) (more state then_state new first (statements ++ statement ∷ []) (reads ++ reads_of last statement.kind) pieces (others ++ text) first_carries (and_one told then_state statements reads others last rest statement text new carries))

behind_both : (reads then_reads pieces then_pieces : List (List ℕ)) (later : Effects) → behind (reads ++ then_reads) (pieces ++ then_pieces) later ≡ behind reads pieces (behind then_reads then_pieces later)
behind_both reads then_reads pieces then_pieces later = simp append_assoc

-- the run goes on behind statements that were carried out
goes_on : (name : List ℕ) (told : List ℕ → Option (List ℕ)) (state : State) (front : List Statement) (reads pieces : List (List ℕ)) (last : State) → AreCarried told state front reads pieces last → (statements : List Statement) (later : Effects) (end : Cause) → AreCarriedOut IsCutShort name told last statements later end → AreCarriedOut IsCutShort name told state (front ++ statements) (behind reads pieces later) end
goes_on name told state _ _ _ _ (none _) statements later end run = run
goes_on name told state _ _ _ last (more _ new _ first front reads pieces others carries rest) statements later end run =
    rw (behind_both (reads_of state first.kind) reads pieces others later)
    (next state new first (front ++ statements) pieces (behind reads others later) end carries
    (goes_on name told new front reads others last rest statements later end run))

-- some statements were carried out, these are left, and this is what the others read and wrote
pub record SoFar (told : List ℕ → Option (List ℕ)) (whole : List Statement) (left : List Statement) (state : State) (files files' : FileLog) (sink sink' : SinkLog) : Type 0 where
  pub front : List Statement
  pub is_whole : whole ≡ front ++ left
  pub reads : List (List ℕ)
  pub pieces : List (List ℕ)
  pub carried : AreCarried told no_routers front reads pieces state
  pub on_files : HasRead files files' reads None
  pub on_sink : HasWritten sink sink' pieces false

pub so_far_none : (told : List ℕ → Option (List ℕ)) (whole : List Statement) (files : FileLog) (sink : SinkLog) → SoFar told whole whole no_routers files files sink sink
so_far_none told whole files sink = record {
  front = [];
  is_whole = refl;
  reads = [];
  pieces = [];
  carried = none no_routers;
  on_files = has_read_nothing files;
  on_sink = has_written_nothing sink;
}

pub so_far_more : (told : List ℕ → Option (List ℕ)) (whole : List Statement) (statement : Statement) (left : List Statement) (state new : State) (files middle files' : FileLog) (sink between sink' : SinkLog) → SoFar told whole (statement ∷ left) state files middle sink between → IsCarriedOut told state statement.kind new middle files' between sink' → SoFar told whole left new files files' sink sink'
so_far_more told whole statement left state new files middle files' sink between sink' so_far done = record {
  front = so_far.front ++ statement ∷ [];
  is_whole = rw append_assoc so_far.is_whole;
  reads = so_far.reads ++ reads_of state statement.kind;
  pieces = so_far.pieces ++ done.pieces;
  carried = and_one told no_routers so_far.front so_far.reads so_far.pieces state so_far.carried statement done.pieces new done.carries;
  on_files = has_read_then files middle files' so_far.reads (reads_of state statement.kind) None so_far.on_files done.on_files;
  on_sink = has_written_then sink between sink' so_far.pieces done.pieces false so_far.on_sink done.on_sink;
}

-- what is performed of the statements that are left is performed of all
so_far_ends : (name : List ℕ) (told : List ℕ → Option (List ℕ)) (whole : List Statement) (left : List Statement) (state : State) (files middle files' : FileLog) (sink between sink' : SinkLog) → SoFar told whole left state files middle sink between → (result : Cause) → Performs (AreCarriedOut IsCutShort name told state left) middle files' between sink' result → Performs (AreCarriedOut IsCutShort name told no_routers whole) files files' sink sink' result
so_far_ends name told whole left state files middle files' sink between sink' so_far result performed =
    let done = performed.effects in
    record {
      effects = behind so_far.reads so_far.pieces done;
      is_run = rw so_far.is_whole (goes_on name told no_routers so_far.front so_far.reads so_far.pieces state so_far.carried left done result performed.is_run);
      on_files = has_read_then files middle files' so_far.reads done.reads done.failed so_far.on_files performed.on_files;
      on_sink = has_written_then sink between sink' so_far.pieces done.writes done.refused so_far.on_sink performed.on_sink;
    }

-- the run ends at the first statement that is left
pub so_far_stops : (name : List ℕ) (told : List ℕ → Option (List ℕ)) (whole : List Statement) (statement : Statement) (left : List Statement) (state : State) (files middle files' : FileLog) (sink between sink' : SinkLog) → SoFar told whole (statement ∷ left) state files middle sink between → (result : Cause) → Performs (EndsAt IsCutShort name told statement.line state statement.kind) middle files' between sink' result → Performs (AreCarriedOut IsCutShort name told no_routers whole) files files' sink sink' result
so_far_stops name told whole statement left state files middle files' sink between sink' so_far result performed =
    so_far_ends name told whole (statement ∷ left) state files middle files' sink between sink' so_far result
    (record {
      effects = performed.effects;
      is_run = ends state statement left performed.effects result performed.is_run;
      on_files = performed.on_files;
      on_sink = performed.on_sink;
    })

-- all were carried out
pub so_far_done : (name : List ℕ) (told : List ℕ → Option (List ℕ)) (whole : List Statement) (state : State) (files files' : FileLog) (sink sink' : SinkLog) → SoFar told whole [] state files files' sink sink' → Performs (AreCarriedOut IsCutShort name told no_routers whole) files files' sink sink' cause.Done
so_far_done name told whole state files files' sink sink' so_far =
    so_far_ends name told whole [] state files files' files' sink sink' sink' so_far cause.Done
    (record {
      effects = effects [] None [] false;
      is_run = all state;
      on_files = has_read_nothing files';
      on_sink = has_written_nothing sink';
    })

-- the statement at a place is the first of those that are left there
pub left_at : {A : Type 0} (xs : List A) (i : ℕ) (x : A) → i < length xs → x ≡ get_or xs i x → drop i xs ≡ x ∷ drop (i + 1) xs
left_at xs i x within is = rw add-one (drop-cons xs i x within ∙ ap (λ y. y ∷ drop (suc i) xs) (sym is))
