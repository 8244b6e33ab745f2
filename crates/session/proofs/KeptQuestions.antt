-- A question that is kept stays what it was, whatever is loaded.
use Rattle.std.proofs.Common.{◌≡◌, ℕ, zero, suc, ◌≤◌, List, [], ◌∷◌, ◌++◌, Option, Some, None, IsSome, Result, Ok, Err, IfOk, OnErr, length, take, slice_get, refl, ◌∙◌, arith}
use Rattle.std.specs.Option.{option_and_then}
use Rattle.ios_names.proofs.AddedNames.{first_stay, names_grow}
use Rattle.ios_names.specs.Names.{with_name, with_names}
use Rattle.ios_config.specs.Router.{Router, names_of}
use Rattle.session.specs.Kept.{IsKept, IsPlace, knowing, list_at, question_at}
use Rattle.session.specs.Steps.{State}
use Rattle.session.specs.Library.{Loaded}
use Rattle.session.specs.declared.locate.Place.{Place}
use Rattle.session.specs.declared.state.Kept.{Kept}

-- names that were known stay where they are
names_stay : (known names : List (List ℕ)) (n : ℕ) → n ≤ length known → take n (with_names known names) ≡ take n known
names_stay known [] n within = refl
names_stay known (name ∷ names) n within =
    names_stay (with_name known name) names n (omega (arith, within, names_grow known (name ∷ [])))
    ∙ first_stay known name n within

question_knows : (library : List Loaded) (names more : List (List ℕ)) (kept : Option Kept) → IsKept library names kept → question_at library (with_names names more) kept ≡ question_at library names kept
question_knows library names more None is = refl
question_knows library names more (Some kept) is = rw (names_stay names more kept.known is.known) refl

still_known : (library : List Loaded) (names more : List (List ℕ)) (kept : Option Kept) → IsKept library names kept → IsKept library (with_names names more) kept
still_known library names more None is = tt
still_known library names more (Some kept) is = record {
  place = is.place;
  of_packet = is.of_packet;
  known = omega (arith, is.known, names_grow names more);
}

abbrev state_of : List Loaded → List (List ℕ) → Option Kept → State
state_of library names kept = record { library = library; names = names; question = question_at library names kept }

pub names_known : (library : List Loaded) (names new : List (List ℕ)) (kept : Option Kept) (router : Router) → IsKept library names kept → new ≡ with_names names (names_of router.interfaces)
    → state_of library new kept ≡ knowing (state_of library names kept) router
names_known library names new kept router is same = rw (same, question_knows library names (names_of router.interfaces) kept is) refl

-- where a configuration was read or refused
pub kept_behind : {T E : Type 0} (result : Result T E) (of : T → List (List ℕ)) (library : List Loaded) (names new : List (List ℕ)) (kept : Option Kept)
    → IfOk result (λ router. new ≡ with_names names (of router)) → OnErr result (new ≡ names) → IsKept library names kept → IsKept library new kept
kept_behind (Ok router) of library names new kept read unread is = rw read (still_known library names (of router) kept is)
kept_behind (Err fault) of library names new kept read unread is = rw unread is

-- routers that were loaded stay where they are
slice_stays : {A : Type 0} (xs : List A) (y : A) (n : ℕ) (x : A) → slice_get xs n ≡ Some x → slice_get (xs ++ y ∷ []) n ≡ Some x
slice_stays [] y n x is = cc
slice_stays (z ∷ zs) y zero x is = is
slice_stays (z ∷ zs) y (suc n) x is = slice_stays zs y n x is

module _ (library : List Loaded) (more : Loaded) where
  list_stays : (place : Place) → IsPlace library place → list_at (library ++ more ∷ []) place ≡ list_at library place
  list_stays place is = by (slice_get library place.router) refl is
    where
      by : (found : Option Loaded) → slice_get library place.router ≡ found → IsSome (option_and_then (λ (loaded : Loaded). slice_get loaded.router.lists place.list) found)
          → list_at (library ++ more ∷ []) place ≡ list_at library place
      by (Some loaded) at some = rw (slice_stays library more place.router loaded at, at) refl
      by None at none = cc

  pub question_stays : (names : List (List ℕ)) (kept : Option Kept) → IsKept library names kept → question_at (library ++ more ∷ []) names kept ≡ question_at library names kept
  question_stays names None is = refl
  question_stays names (Some kept) is = rw (list_stays kept.place is.place) refl

  pub still_kept : (names : List (List ℕ)) (kept : Option Kept) → IsKept library names kept → IsKept (library ++ more ∷ []) names kept
  still_kept names None is = tt
  still_kept names (Some kept) is = record {
    place = rw (list_stays kept.place is.place) is.place;
    of_packet = is.of_packet;
    known = is.known;
  }
