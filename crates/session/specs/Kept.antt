-- How a run keeps the question of the last EXPLORE: by the place of its list. No public call is stated by this.
use Rattle.std.specs.Prelude.{ℕ, ◌≤◌, List, [], ◌∷◌, ◌++◌, length, take, Option, Some, None, IsSome, slice_get}
use Rattle.std.specs.List.{AllByRecursion}
use Rattle.std.specs.Option.{option_map, option_and_then}
use Rattle.ios_acl.specs.List.{AccessList}
use Rattle.ios_acl.specs.declared.entry.Entry.{Entry}
use Rattle.ios_acl.specs.declared.entry.Verdict.{Verdict}
use Rattle.ios_config.specs.Router.{Router, names_of}
use Rattle.ios_names.specs.Names.{with_names}
use Rattle.frame.specs.Question.{asked, IsOfPacket}
use Rattle.frame.specs.declared.question.Test.{Test}
use Rattle.session.specs.declared.state.Kept.{Kept}
use Rattle.session.specs.declared.locate.Place.{Place}
use Rattle.session.specs.Library.{Loaded}
use Rattle.session.specs.Steps.{AskedQuestion, State}

-- the list at a place: of this router, this list
abbrev pub list_at : List Loaded → Place → Option AccessList
list_at library place =
    option_and_then (λ (loaded : Loaded). slice_get loaded.router.lists place.list)
    (slice_get library place.router)

-- the place is that of a list
abbrev pub IsPlace : List Loaded → Place → Type 0
IsPlace library place = IsSome (list_at library place)

-- a question of these parts
abbrev pub posed : List Entry → Verdict → List Test → List (List ℕ) → AskedQuestion
posed entries verdict tests names = record { question = asked entries verdict tests; names = names }

-- the question that is kept; of all names those are its own that were known first
abbrev pub question_at : List Loaded → List (List ℕ) → Option Kept → Option AskedQuestion
question_at library names None = None
question_at library names (Some kept) =
    option_map
    (λ (list : AccessList). posed list.entries kept.verdict kept.tests.items (take kept.known names))
    (list_at library kept.place)

-- the question is about a list, its tests are of the packet that comes in, and no name of it was taken away
pub record IsKeptQuestion (library : List Loaded) (names : List (List ℕ)) (kept : Kept)
    : Type 0 where
  pub place : IsPlace library kept.place
  pub of_packet : AllByRecursion IsOfPacket kept.tests.items
  pub known : kept.known ≤ length names

abbrev pub IsKept : List Loaded → List (List ℕ) → Option Kept → Type 0
IsKept library names None = Unit {0}
IsKept library names (Some kept) = IsKeptQuestion library names kept

-- the names of the router's interfaces are known
abbrev pub knowing : State → Router → State
knowing state router = record {
  library = state.library;
  names = with_names state.names (names_of router.interfaces);
  question = state.question;
}

-- and the router is there under its name
abbrev pub adding : State → List ℕ → Router → State
adding state name router = record {
  library = state.library ++ record { name = name; router = router } ∷ [];
  names = state.names;
  question = state.question;
}
