-- A run: what it does with the files and the sink, and what it ends with, in the order of its steps.
use Rattle.std.specs.Prelude.{◌≡◌, ℕ, Bool, true, false, List, [], ◌∷◌, ◌++◌, Option, None}
use Rattle.mg_outside.specs.Effects.{Effects, behind}
use Rattle.mg_outside.specs.Reading.{Gives}
use Rattle.session.specs.declared.ended.Cause.{Cause}
use Rattle.session.specs.declared.ended.Cause.TheVariants as cause
use Rattle.session.specs.Words.{IsForm}
use Rattle.query_lang.specs.declared.script.Kind.{Kind}
use Rattle.query_lang.specs.declared.script.Script.{Script}
use Rattle.query_lang.specs.declared.script.ScriptReason.{ScriptReason}
use Rattle.query_lang.specs.declared.script.Statement.{Statement}
use Rattle.query_lang.specs.Readings as query
use Rattle.session.specs.Steps.{State, max_bytes, reads_of, script_reason, Carries, Stops, IsUnread, IsRefusal}
use Rattle.session.specs.RunLines.{usage}

abbrev pub no_routers : State
no_routers = record { library = []; names = []; question = None }

-- a run may be cut short by these, wherever it stands
abbrev pub IsCutShort : Cause → Type 0
IsCutShort cause.WriteFault = Unit {0}
IsCutShort cause.NoMemory = Unit {0}
IsCutShort end = ⊥

-- a whole run is cut short by none
abbrev pub NeverCut : Cause → Type 0
NeverCut end = ⊥

-- a piece of text that is not written whole: the sink refused it and took a front, or there was no memory and it took nothing
pub data IsCut (piece : List ℕ) : Cause → List ℕ → Bool → Type 0 where
  refused : (front rest : List ℕ) → piece ≡ front ++ rest → IsCut piece cause.WriteFault front true
  unkept : IsCut piece cause.NoMemory [] false

-- the last line of a run that ends so: it is written whole or cut, or there was no memory to make it
pub data IsSaid (may_cut : Cause → Type 0) (end : Cause) (line : List ℕ) : List (List ℕ) → Bool → Cause → Type 0 where
  whole : IsSaid may_cut end line (line ∷ []) false end
  cut : (other : Cause) (taken : List ℕ) (refused : Bool) → may_cut other → IsCut line other taken refused → IsSaid may_cut end line (taken ∷ []) refused other
  unmade : may_cut cause.NoMemory → IsSaid may_cut end line [] false cause.NoMemory

abbrev pub effects : List (List ℕ) → Option (List ℕ) → List (List ℕ) → Bool → Effects
effects reads failed writes is_refused = record { reads = reads; failed = failed; writes = writes; refused = is_refused }

-- a run ends at a statement: it is refused, or its text is cut, or memory is wanting for it. Nothing behind it is read or written
pub data EndsAt (may_cut : Cause → Type 0) (name : List ℕ) (told : List ℕ → Option (List ℕ)) (line : ℕ) (state : State) (what : Kind) : Effects → Cause → Type 0 where
  stops : (failed : Option (List ℕ)) (stop end : Cause) (text : List ℕ) (writes : List (List ℕ)) (refused : Bool)
      → Stops name told line state what failed stop text → IsSaid may_cut stop text writes refused end
      → EndsAt may_cut name told line state what (effects (reads_of state what) failed writes refused) end
  cut : (before after : List (List ℕ)) (piece taken : List ℕ) (new : State) (end : Cause) (refused : Bool)
      → Carries told state what (before ++ piece ∷ after) new → may_cut end → IsCut piece end taken refused
      → EndsAt may_cut name told line state what (effects (reads_of state what) None (before ++ taken ∷ []) refused) end
  wants : (reads rest : List (List ℕ)) → reads_of state what ≡ reads ++ rest → may_cut cause.NoMemory
      → EndsAt may_cut name told line state what (effects reads None [] false) cause.NoMemory

-- the run of the statements, one after the other; the first at which it ends is the last
pub data AreCarriedOut (may_cut : Cause → Type 0) (name : List ℕ) (told : List ℕ → Option (List ℕ)) : State → List Statement → Effects → Cause → Type 0 where
  all : (state : State) → AreCarriedOut may_cut name told state [] (effects [] None [] false) cause.Done
  next : (state new : State) (statement : Statement) (statements : List Statement) (pieces : List (List ℕ)) (later : Effects) (end : Cause)
      → Carries told state statement.kind pieces new → AreCarriedOut may_cut name told new statements later end
      → AreCarriedOut may_cut name told state (statement ∷ statements) (behind (reads_of state statement.kind) pieces later) end
  ends : (state : State) (statement : Statement) (statements : List Statement) (last : Effects) (end : Cause)
      → EndsAt may_cut name told statement.line state statement.kind last end → AreCarriedOut may_cut name told state (statement ∷ statements) last end

-- the run of the script of this name, which is read first; told speaks of each file by its name
pub data IsScriptRun (may_cut : Cause → Type 0) (name : List ℕ) (told : List ℕ → Option (List ℕ)) : Effects → Cause → Type 0 where
  unread : (failed : Option (List ℕ)) (stop end : Cause) (text : List ℕ) (writes : List (List ℕ)) (refused : Bool)
      → IsUnread name (told name) failed stop text → IsSaid may_cut stop text writes refused end
      → IsScriptRun may_cut name told (effects (name ∷ []) failed writes refused) end
  refused : (bytes : List ℕ) (line : ℕ) (why : ScriptReason) (stop end : Cause) (text : List ℕ) (writes : List (List ℕ)) (refused : Bool)
      → Gives (told name) max_bytes bytes → query.Refuses bytes line why → IsRefusal name line (script_reason why) stop text
      → IsSaid may_cut stop text writes refused end → IsScriptRun may_cut name told (effects (name ∷ []) None writes refused) end
  read : (bytes : List ℕ) (script : Script) (later : Effects) (end : Cause)
      → Gives (told name) max_bytes bytes → query.Reads bytes script → AreCarriedOut may_cut name told no_routers script.statements later end
      → IsScriptRun may_cut name told (behind (name ∷ []) [] later) end
  wants : (reads rest : List (List ℕ)) → name ∷ [] ≡ reads ++ rest → may_cut cause.NoMemory
      → IsScriptRun may_cut name told (effects reads None [] false) cause.NoMemory

pub data IsRun (may_cut : Cause → Type 0) (words : List (List ℕ)) (told : List ℕ → Option (List ℕ)) : Effects → Cause → Type 0 where
  bad_words : (end : Cause) (writes : List (List ℕ)) (refused : Bool) → ((name : List ℕ) → IsForm words name → ⊥)
      → IsSaid may_cut cause.BadWords usage writes refused end → IsRun may_cut words told (effects [] None writes refused) end
  form : (name : List ℕ) (done : Effects) (end : Cause) → IsForm words name → IsScriptRun may_cut name told done end
      → IsRun may_cut words told done end

abbrev pub status_of : Cause → ℕ
status_of cause.Done = 0
status_of (cause.Refused file line reason) = 1
status_of cause.BadWords = 2
status_of (cause.ReadFault file) = 3
status_of cause.WriteFault = 4
status_of cause.NoMemory = 5
