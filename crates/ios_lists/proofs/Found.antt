-- The place of a name in the index is the place of its list.
use Rattle.std.proofs.Common.{◌≡◌, ℕ, ◌<◌, ◌≤◌, Bool, true, false, cond, not, nat_lt, IsTrue, List, length, position, Option, Some, None, get_or, ⊎_elim, refl, sym, ap, ◌∙◌, arith}
use Rattle.std.specs.Bool.{beq}
use Rattle.std.specs.List.{position_or_len}
use Rattle.std.specs.Str.{bytes_eq}
use Rattle.std.proofs.lemmas.Bool.{cases_lt}
use Rattle.std.proofs.lemmas.Bool.Decides.{nat_tests}
use Rattle.std.proofs.lemmas.Option.{slice_get-get_or}
use Rattle.ios_acl.specs.List.{AccessList}
use Rattle.ios_lists.specs.Holding.{has_name, place_named, name_of, HasNames}
use Rattle.ios_lists.specs.Lists.{kind_named}
use Rattle.ios_lists.proofs.Places.{present, absent, other_kind_there}
use Rattle.ios_names.proofs.AddedNames.{position_map}

pub record IsFound (lists : List AccessList) (name : List ℕ) (place : ℕ) : Type 0 where
  pub at : place ≡ place_named lists name
  pub inside : place < length lists

some_position : {X : Type 0} (p : X → Bool) (xs : List X) (i : ℕ) → position p xs ≡ Some i → (i ≡ position_or_len p xs) × (i < length xs)
some_position p xs i is = by (nat_lt (position_or_len p xs) (length xs)) refl is
  where
    by : (b : Bool) → b ≡ nat_lt (position_or_len p xs) (length xs) → cond b (Some (position_or_len p xs)) None ≡ Some i → (i ≡ position_or_len p xs) × (i < length xs)
    by true below some =
        let same : i ≡ position_or_len p xs = cc some in
        (same, rw same (grind (arith, nat_tests)))
    by false past some = absurd (cc some)

no_position : {X : Type 0} (p : X → Bool) (xs : List X) → position p xs ≡ None → length xs ≤ position_or_len p xs
no_position p xs is = by (nat_lt (position_or_len p xs) (length xs)) refl is
  where
    by : (b : Bool) → b ≡ nat_lt (position_or_len p xs) (length xs) → cond b (Some (position_or_len p xs)) None ≡ None → length xs ≤ position_or_len p xs
    by true below none = absurd (cc none)
    by false past none = grind (arith, nat_tests)

position_is : (lists : List AccessList) (names : List (List ℕ)) (name : List ℕ) (answer : Option ℕ) → HasNames lists names → answer ≡ position (bytes_eq name) names
    → position (has_name name) lists ≡ answer
position_is lists names name answer has is = sym (position_map (bytes_eq name) name_of lists) ∙ ap (position (bytes_eq name)) has.names_are ∙ sym is

pub found : (lists : List AccessList) (names : List (List ℕ)) (name : List ℕ) (place : ℕ) → HasNames lists names → Some place ≡ position (bytes_eq name) names → IsFound lists name place
found lists names name place has is =
    let some = some_position (has_name name) lists place (position_is lists names name (Some place) has is) in
    record { at = some.0; inside = some.1 }

pub not_found : (lists : List AccessList) (names : List (List ℕ)) (name : List ℕ) → HasNames lists names → None ≡ position (bytes_eq name) names → kind_named lists name ≡ None
not_found lists names name has is = (absent lists name false (no_position (has_name name) lists (position_is lists names name None has is))).kind

-- a name without a kind is that of no list
pub past_all : (lists : List AccessList) (name : List ℕ) → kind_named lists name ≡ None → length lists ≤ place_named lists name
past_all lists name none =
    ⊎_elim (λ inside. let kind = (present lists name false inside).kind in absurd (cc (kind, none))) (λ past. past)
    (cases_lt (place_named lists name) (length lists))

-- whether the list of a name is of the other kind
pub found_kind : (lists : List AccessList) (names : List (List ℕ)) (name : List ℕ) (extended : Bool) (place : ℕ) (list : AccessList) → HasNames lists names
    → Some place ≡ position (bytes_eq name) names → list ≡ get_or lists place list
    → (IsTrue (not (beq list.extended extended)) → kind_named lists name ≡ Some (not extended)) × (kind_named lists name ≡ Some (not extended) → IsTrue (not (beq list.extended extended)))
found_kind lists names name extended place list has is at =
    let f = found lists names name place has is in
    other_kind_there lists name extended place list f.at f.inside (slice_get-get_or lists place list f.inside ∙ ap Some (sym at))

pub no_kind : (lists : List AccessList) (names : List (List ℕ)) (name : List ℕ) (extended : Bool) → HasNames lists names → None ≡ position (bytes_eq name) names
    → (IsTrue false → kind_named lists name ≡ Some (not extended)) × (kind_named lists name ≡ Some (not extended) → IsTrue false)
no_kind lists names name extended has is =
    let none = not_found lists names name has is in
    (λ never. absurd (cc never), λ kind. absurd (cc (kind, none)))
