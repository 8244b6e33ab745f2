-- A statement that is reached is carried out, or it ends the run.
use Rattle.std.proofs.Common.{◌≡◌, inl, inr, ℕ, ◌||◌, not, Bool, true, false, List, [], length, Option, Some, None, is_some, refl, arith}
use Rattle.std.specs.List.{list_all}
use Rattle.std.proofs.lemmas.Bool.{cases_lt, false≢true}
use Rattle.mg_outside.specs.Reading.{Gives}
use Rattle.ios_acl.specs.List.{AccessList}
use Rattle.sorted_logic.specs.Field.{packet_fields}
use Rattle.ios_config.proofs.SomeReading.{some_reading}
use Rattle.frame.proofs.FirstOrNone.{first_or_none}
use Rattle.list_questions.specs.declared.packet.LiteralFault.{LiteralFault}
use Rattle.list_questions.specs.declared.question.ListQuestion.{ListQuestion}
use Rattle.list_questions.specs.Ranges.{literal_fault, test_fits}
use Rattle.list_questions.specs.Questions.{IsAsked}
use Rattle.session.proofs.PacketLiterals.{literals_are}
use Rattle.query_lang.specs.declared.literal.Literal.{Literal}
use Rattle.query_lang.specs.declared.literal.Path.{Path}
use Rattle.query_lang.specs.declared.script.Explore.{Explore}
use Rattle.query_lang.specs.declared.script.Kind.{Kind}
use Rattle.query_lang.specs.declared.script.Kind.TheVariants as kind
use Rattle.session.specs.Text.{scenario, no_scenario}
use Rattle.session.specs.declared.ended.Cause.{Cause}
use Rattle.session.specs.declared.ended.Cause.TheVariants as cause
use Rattle.session.specs.declared.ended.Reason.{Reason}
use Rattle.session.specs.Library.{is_taken, list_at_path, list_of}
use Rattle.session.specs.Order.{is_show}
use Rattle.session.specs.Policies.{explore_fault}
use Rattle.session.specs.RunLines.{refused_line}
use Rattle.session.specs.Steps.{State, AskedQuestion, max_bytes, Carries, loads, explores, shows, decides, first, none as no_first, ios_reason, too_long, IsRefusal, IsRefused, not_built, taken, unknown, no_question, past, no_list, arity, literal, Stops, refused, unread, refused_file}
use Rattle.session.proofs.Known.{asked_is_found}

pub data Outcome (script : List ℕ) (told : List ℕ → Option (List ℕ)) (line : ℕ) (state : State) (what : Kind) : Type 0 where
  goes_on : (pieces : List (List ℕ)) (new : State) → Carries told state what pieces new → Outcome script told line state what
  stops : (failed : Option (List ℕ)) (end : Cause) (text : List ℕ) → Stops script told line state what failed end text → Outcome script told line state what

pub refusal : (file : List ℕ) (line : ℕ) (why : Reason) → IsRefusal file line why (cause.Refused file line why) (refused_line file line why)
refusal file line why = record { ends = refl; written = refl }

module _ (script : List ℕ) (told : List ℕ → Option (List ℕ)) (line : ℕ) (state : State) where
  -- that a statement has no outcome
  abbrev Stays : Kind → Type 0
  Stays what = Outcome script told line state what → ⊥

  -- a statement that is refused
  is_stopped : (what : Kind) (why : Reason) → IsRefused state what why → Outcome script told line state what
  is_stopped what why is_refused = stops _ _ _ (refused what why _ _ is_refused (refusal script line why))

  load_given : (file name : List ℕ) → is_taken state.library name ≡ false → (bytes : List ℕ) → Gives (told file) max_bytes bytes → Stays (kind.LoadIos file name) → ⊥
  load_given file name free bytes gives stays =
      some_reading state.names bytes
      (λ router reads. stays (goes_on _ _ (loads file name bytes router free gives reads)))
      (λ place why is_refused. stays (stops _ _ _ (refused_file file name _ bytes place why _ free gives is_refused (refusal file place (ios_reason why)))))

  load_told : (file name : List ℕ) → is_taken state.library name ≡ false → (held : Option (List ℕ)) → told file ≡ held → Stays (kind.LoadIos file name) → ⊥
  load_told file name free None is stays = load_given file name free [] (rw is (record { held = tt; within = omega arith })) stays
  load_told file name free (Some bytes) is stays =
      elim (cases_lt max_bytes (length bytes)) [
        | inl more ↦ stays (stops _ _ _ (unread file name _ _ _ free (too_long (length bytes) more (rw is (omega arith)) refl refl refl)))
        | inr within ↦ load_given file name free bytes (rw is (record { held = refl; within = within })) stays
      ]

  load_goes : (file name : List ℕ) (used : Bool) → is_taken state.library name ≡ used → Stays (kind.LoadIos file name) → ⊥
  load_goes file name true used stays = stays (is_stopped _ _ (taken file name used))
  load_goes file name false free stays = load_told file name free (told file) refl stays

  explore_fits : (explore : Explore) (question : ListQuestion) (found : AccessList) → explore_fault state.library explore ≡ None → IsAsked explore question → list_of state.library question.router question.list ≡ Some found → (fit : Bool) → list_all test_fits question.tests ≡ fit → Outcome script told line state (kind.Explore explore)
  explore_fits explore question found known is_asked named true fit = goes_on _ _ (explores explore question found known is_asked named fit)
  explore_fits explore question found known is_asked named false beyond = is_stopped _ _ (past explore question known is_asked beyond)

  explore_goes : (explore : Explore) (fault : Option Reason) → explore_fault state.library explore ≡ fault → Stays (kind.Explore explore) → ⊥
  explore_goes explore (Some why) is stays = stays (is_stopped _ _ (unknown explore why is))
  explore_goes explore None known stays =
      stays (is_stopped _ _ (no_question explore known (λ question is_asked.
      let found = asked_is_found state.library explore question known is_asked in
      stays (explore_fits explore question found.0 known is_asked found.1 (list_all test_fits question.tests) refl))))

  decide_fits : (list : Path) (packet : List Literal) (found : AccessList) → list_at_path state.library list.parts ≡ Some found → length packet ≡ 8 → (fault : Option LiteralFault) → literal_fault state.names packet_fields packet ≡ fault → Outcome script told line state (kind.Decide list packet)
  decide_fits list packet found named eight (Some fault) wrong = is_stopped _ _ (literal list packet found fault named eight wrong)
  decide_fits list packet found named eight None fits =
      let is = literals_are state.names packet eight fits in
      goes_on _ _ (decides list packet found is.0 named eight fits is.1)

  decide_found : (list : Path) (packet : List Literal) (found : AccessList) → list_at_path state.library list.parts ≡ Some found → Stays (kind.Decide list packet) → ⊥
  decide_found list packet found named stays =
      stays (is_stopped _ _ (arity list packet found named (λ eight. stays (decide_fits list packet found named eight (literal_fault state.names packet_fields packet) refl))))

  decide_goes : (list : Path) (packet : List Literal) (found : Option AccessList) → list_at_path state.library list.parts ≡ found → Stays (kind.Decide list packet) → ⊥
  decide_goes list packet None none stays = stays (is_stopped _ _ (no_list list packet none))
  decide_goes list packet (Some found) named stays = decide_found list packet found named stays

  show_goes : (question : Option AskedQuestion) → state.question ≡ question → is_some question ≡ true → Stays kind.ShowOne → ⊥
  show_goes None kept asked stays = false≢true asked
  show_goes (Some question) kept asked stays =
      first_or_none question.question
      (λ request is_first. stays (goes_on _ _ (shows question (scenario question.names question.question.tests request) kept (first request is_first))))
      (λ no. stays (goes_on _ _ (shows question no_scenario kept (no_first no))))

  -- it is absurd that a statement does neither
  pub progress : (what : Kind) → (not (is_show what) || is_some state.question) ≡ true → Stays what → ⊥
  progress (kind.LoadIos file name) ordered stays = load_goes file name (is_taken state.library name) refl stays
  progress (kind.Explore explore) ordered stays = explore_goes explore (explore_fault state.library explore) refl stays
  progress kind.ShowOne ordered stays = show_goes state.question refl ordered stays
  progress (kind.Decide list packet) ordered stays = decide_goes list packet (list_at_path state.library list.parts) refl stays
  progress what ordered stays = stays (is_stopped _ _ (not_built what refl))
