-- What one statement of a script does in a run.
use Rattle.std.specs.Prelude.{◌≡◌, ℕ, ◌<◌, ◌≤◌, Bool, true, false, List, [], ◌∷◌, ◌++◌, length, map, Option, Some, None, IfSome}
use Rattle.std.specs.Bool.{if◌then◌else◌}
use Rattle.std.specs.List.{list_all}
use Rattle.mg_outside.specs.Reading.{Gives}
use Rattle.ios_lex.specs.declared.reason.IosReason.{IosReason}
use Rattle.ios_lex.specs.declared.reason.IosReason.TheVariants as ios
use Rattle.ios_acl.specs.declared.packet.Packet.{Packet}
use Rattle.ios_acl.specs.Decision.{decision}
use Rattle.ios_acl.specs.List.{AccessList}
use Rattle.ios_config.specs.Reading as config
use Rattle.ios_config.specs.Router.{Router, names_of}
use Rattle.sorted_logic.specs.Field.{packet_fields}
use Rattle.ios_config.specs.Request.{Request}
use Rattle.ios_names.specs.Names.{with_names}
use Rattle.query_lang.specs.declared.literal.Literal.{Literal}
use Rattle.query_lang.specs.declared.literal.Path.{Path}
use Rattle.query_lang.specs.declared.script.Explore.{Explore}
use Rattle.query_lang.specs.declared.script.Kind.{Kind}
use Rattle.query_lang.specs.declared.script.Kind.TheVariants as kind
use Rattle.query_lang.specs.declared.script.ScriptReason.{ScriptReason}
use Rattle.query_lang.specs.declared.script.ScriptReason.TheVariants as script
use Rattle.list_questions.specs.declared.packet.LiteralFault.{LiteralFault}
use Rattle.list_questions.specs.declared.packet.LiteralFault.TheVariants as packet_fault
use Rattle.list_questions.specs.declared.question.ListQuestion.{ListQuestion}
use Rattle.list_questions.specs.Ranges.{ArePacket, literal_fault, test_fits, test_of}
use Rattle.list_questions.specs.Questions.{AsksNone, IsAsked}
use Rattle.frame.specs.Question.{Question, asked}
use Rattle.frame.specs.Solution.{Solves}
use Rattle.frame.specs.Scenario.{IsFirst}
use Rattle.session.specs.Text.{scenario, no_scenario, decision_line, router_line}
use Rattle.session.specs.declared.ended.Cause.{Cause}
use Rattle.session.specs.declared.ended.Cause.TheVariants as cause
use Rattle.session.specs.declared.ended.Reason.{Reason}
use Rattle.session.specs.declared.ended.Reason.TheVariants as reason
use Rattle.session.specs.Library.{Loaded, is_taken, list_of, list_at_path}
use Rattle.session.specs.Policies.{explore_fault}
use Rattle.session.specs.RunLines.{fault_line, refused_line}

-- the most bytes of a file that is read
abbrev pub max_bytes : ℕ
max_bytes = 4194304

-- the question of an EXPLORE, and the names of interfaces that were known when it was asked
pub record AskedQuestion : Type 0 where
  pub question : Question
  pub names : List (List ℕ)

-- the routers loaded so far, the names of their interfaces, each once and in the order in which they came, and the
-- question of the last EXPLORE
pub record State : Type 0 where
  pub library : List Loaded
  pub names : List (List ℕ)
  pub question : Option AskedQuestion

-- the names of files that a statement reads where it is reached: LOAD IOS one, unless its name is taken
abbrev pub reads_of : State → Kind → List (List ℕ)
reads_of state (kind.LoadIos file name) = if is_taken state.library name then [] else file ∷ []
reads_of state other = []

-- the router of the file, under its name, behind those loaded before, and the names of its interfaces that are new
abbrev pub with_router : State → List ℕ → Router → State
with_router state name router = record {
  library = state.library ++ record { name = name; router = router } ∷ [];
  names = with_names state.names (names_of router.interfaces);
  question = state.question;
}

-- the question is kept with the names as they stand; what is loaded later changes nothing of it
abbrev pub asking : State → Question → State
asking state question = record {
  library = state.library;
  names = state.names;
  question = Some (record { question = question; names = state.names });
}

-- the text of the first scenario, or that there is none
pub data IsShown (posed : AskedQuestion) : List ℕ → Type 0 where
  first : (request : Request) → IsFirst posed.question request
      → IsShown posed (scenario posed.names posed.question.tests request)
  none : ((request : Request) → Solves posed.question request → ⊥) → IsShown posed no_scenario

-- the statement is carried out: it writes these pieces, and leaves this state
pub data Carries (told : List ℕ → Option (List ℕ)) (state : State)
    : Kind → List (List ℕ) → State → Type 0 where
  loads : (file name bytes : List ℕ) (router : Router) → is_taken state.library name ≡ false
      → Gives (told file) max_bytes bytes → config.Reads state.names bytes router
      → Carries told state (kind.LoadIos file name) (router_line name router ∷ [])
      (with_router state name router)
  explores : (explore : Explore) (question : ListQuestion) (found : AccessList)
      → explore_fault state.library explore ≡ None → IsAsked explore question
      → list_of state.library question.router question.list ≡ Some found
      → list_all test_fits question.tests ≡ true
      → Carries told state (kind.Explore explore) []
      (asking state (asked found.entries question.verdict (map test_of question.tests)))
  shows : (question : AskedQuestion) (text : List ℕ) → state.question ≡ Some question
      → IsShown question text → Carries told state kind.ShowOne (text ∷ []) state
  decides : (list : Path) (packet : List Literal) (found : AccessList) (is : Packet)
      → list_at_path state.library list.parts ≡ Some found → length packet ≡ 8
      → literal_fault state.names packet_fields packet ≡ None → ArePacket state.names packet is
      → Carries told state (kind.Decide list packet)
      (decision_line (decision found.entries is) ∷ []) state

-- the reason of the same name, of a line of a configuration
abbrev pub ios_reason : IosReason → Reason
ios_reason (ios.Unmodelled word) = reason.Unmodelled word
ios_reason ios.BadAddress = reason.BadAddress
ios_reason ios.BadNumber = reason.BadNumber
ios_reason ios.UnknownName = reason.UnknownName
ios_reason ios.BadMask = reason.BadMask
ios_reason ios.WrongKind = reason.WrongKind
ios_reason ios.DuplicateSequence = reason.DuplicateSequence
ios_reason ios.BadEntry = reason.BadEntry
ios_reason ios.NextHopNotConnected = reason.NextHopNotConnected
ios_reason ios.UnknownInterface = reason.UnknownInterface
ios_reason ios.DuplicateStatic = reason.DuplicateStatic
ios_reason ios.DuplicatePool = reason.DuplicatePool
ios_reason ios.UnknownPool = reason.UnknownPool
ios_reason ios.Unclosed = reason.Unclosed
ios_reason ios.TooMany = reason.TooMany

abbrev pub script_reason : ScriptReason → Reason
script_reason script.Syntax = reason.Syntax
script_reason script.Depth = reason.Depth
script_reason script.NoExplore = reason.NoExplore

abbrev pub literal_reason : LiteralFault → Reason
literal_reason packet_fault.OutOfRange = reason.OutOfRange
literal_reason packet_fault.UnknownName = reason.UnknownName

-- a file that is not read ends the run with this line: its read failed, or it is too long
pub data IsUnread (file : List ℕ) (told : Option (List ℕ)) (failed : Option (List ℕ)) (end : Cause)
    (text : List ℕ) : Type 0 where
  fault : failed ≡ Some file → end ≡ cause.ReadFault file → text ≡ fault_line file
      → IsUnread file told failed end text
  too_long : (given : ℕ) → max_bytes < given → IfSome told (λ held. given ≤ length held)
      → failed ≡ None → end ≡ cause.Refused file 0 (reason.TooLong given)
      → text ≡ refused_line file 0 (reason.TooLong given) → IsUnread file told failed end text

-- the run ends with the refusal of a line of a file
pub record IsRefusal (file : List ℕ) (line : ℕ) (why : Reason) (end : Cause) (text : List ℕ)
    : Type 0 where
  pub ends : end ≡ cause.Refused file line why
  pub written : text ≡ refused_line file line why

-- the statements that this release carries out
abbrev pub is_built : Kind → Bool
is_built (kind.LoadIos file name) = true
is_built (kind.Explore explore) = true
is_built kind.ShowOne = true
is_built (kind.Decide list packet) = true
is_built other = false

-- why a statement is refused that reads no file, by the first of these tests in their order
pub data IsRefused (state : State) : Kind → Reason → Type 0 where
  -- it is none that this release carries out
  not_built : (what : Kind) → is_built what ≡ false → IsRefused state what reason.NotBuilt
  -- LOAD IOS: the name is taken
  taken : (file name : List ℕ) → is_taken state.library name ≡ true
      → IsRefused state (kind.LoadIos file name) reason.Duplicate
  -- EXPLORE: a policy or a name of it is unknown; it is no question about a list; a number does not fit
  unknown : (explore : Explore) (why : Reason) → explore_fault state.library explore ≡ Some why
      → IsRefused state (kind.Explore explore) why
  no_question : (explore : Explore) → explore_fault state.library explore ≡ None
      → AsksNone explore → IsRefused state (kind.Explore explore) reason.NotBuilt
  past : (explore : Explore) (question : ListQuestion) → explore_fault state.library explore ≡ None
      → IsAsked explore question → list_all test_fits question.tests ≡ false
      → IsRefused state (kind.Explore explore) reason.OutOfRange
  -- DECIDE: the list is unknown; there are not eight numbers; one does not fit, or is a name of no interface
  no_list : (list : Path) (packet : List Literal) → list_at_path state.library list.parts ≡ None
      → IsRefused state (kind.Decide list packet) reason.UnknownPolicy
  arity : (list : Path) (packet : List Literal) (found : AccessList)
      → list_at_path state.library list.parts ≡ Some found → (length packet ≡ 8 → ⊥)
      → IsRefused state (kind.Decide list packet) reason.Arity
  literal : (list : Path) (packet : List Literal) (found : AccessList) (fault : LiteralFault)
      → list_at_path state.library list.parts ≡ Some found → length packet ≡ 8
      → literal_fault state.names packet_fields packet ≡ Some fault
      → IsRefused state (kind.Decide list packet) (literal_reason fault)

-- the statement, at this line of the script, ends the run with this line; the read of this name failed, or of none
pub data Stops (script : List ℕ) (told : List ℕ → Option (List ℕ)) (line : ℕ) (state : State)
    : Kind → Option (List ℕ) → Cause → List ℕ → Type 0 where
  refused : (what : Kind) (why : Reason) (text : List ℕ) (end : Cause) → IsRefused state what why
      → IsRefusal script line why end text → Stops script told line state what None end text
  unread : (file name text : List ℕ) (failed : Option (List ℕ)) (end : Cause)
      → is_taken state.library name ≡ false → IsUnread file (told file) failed end text
      → Stops script told line state (kind.LoadIos file name) failed end text
  refused_file : (file name text bytes : List ℕ) (place : ℕ) (why : IosReason) (end : Cause)
      → is_taken state.library name ≡ false → Gives (told file) max_bytes bytes
      → config.IsRefused state.names bytes place why
      → IsRefusal file place (ios_reason why) end text
      → Stops script told line state (kind.LoadIos file name) None end text
