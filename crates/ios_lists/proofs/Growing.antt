-- A list of a new name behind the others, and the list that a block is opened for.
use Rattle.std.proofs.Common.{◌≡◌, ℕ, Bool, true, false, List, [], ◌∷◌, ◌++◌, length, Some, None, option_map, slice_get, set, refl, sym, ap, ◌∙◌, arith}
use Rattle.std.specs.List.{list_any}
use Rattle.std.specs.Str.{bytes_eq}
use Rattle.std.proofs.Math.Seq.{get_or-append_seam}
use Rattle.std.proofs.lemmas.List.{length_push, set-get_or}
use Rattle.std.proofs.lemmas.Option.{slice_get-get_or, get_or_from_slice_get}
use Rattle.ios_acl.specs.Block.{empty_list}
use Rattle.ios_acl.specs.List.{AccessList}
use Rattle.ios_lists.specs.Holding.{has_name, name_of, place_named, HasNames, IsBegun}
use Rattle.ios_lists.specs.Lists.{list_named, with_list, kind_named, name_at}
use Rattle.ios_lists.proofs.DifferentNames.{names_with}
use Rattle.ios_lists.proofs.Found.{IsFound, past_all}
use Rattle.ios_lists.proofs.Places.{present, absent, name_of_named}
use Rattle.ios_names.proofs.AddedNames.{any_map, map_push, pushed}
use Rattle.ios_names.specs.Names.{with_name}

none_named : (lists : List AccessList) (name : List ℕ) → kind_named lists name ≡ None → list_any (has_name name) lists ≡ false
none_named [] name none = refl
none_named (list ∷ lists) name none = by (none_named lists name) (bytes_eq name list.name) refl
  where
    by : (kind_named lists name ≡ None → list_any (has_name name) lists ≡ false) → (b : Bool) → b ≡ bytes_eq name list.name → list_any (has_name name) (list ∷ lists) ≡ false
    by later true is = let some = rw (← is) at none in absurd (cc some)
    by later false is = rw (← is) (later (rw (← is) at none))

-- a list of a new name comes behind the others
pub put_behind : (lists : List AccessList) (list : AccessList) → kind_named lists list.name ≡ None → lists ++ list ∷ [] ≡ with_list lists list
put_behind lists list none = (absent lists list.name false (past_all lists list.name none)).put list refl

-- its name is new in the index
pub new_name : (lists : List AccessList) (names : List (List ℕ)) (list : AccessList) → HasNames lists names → kind_named lists list.name ≡ None → with_name names list.name ≡ names ++ list.name ∷ []
new_name lists names list has none =
    pushed names list.name (ap (list_any (bytes_eq list.name)) (sym has.names_are) ∙ any_map (bytes_eq list.name) name_of lists ∙ none_named lists list.name none)

pub names_pushed : (lists new : List AccessList) (names new_names : List (List ℕ)) (list : AccessList) → HasNames lists names → kind_named lists list.name ≡ None
    → new ≡ lists ++ list ∷ [] → new_names ≡ with_name names list.name → HasNames new new_names
names_pushed lists new names new_names list has none more named =
    rw (more, named)
    (record {
      names_are = map_push name_of lists list ∙ ap (λ (front : List (List ℕ)). front ++ list.name ∷ []) has.names_are ∙ sym (new_name lists names list has none);
      different = rw (put_behind lists list none) (names_with lists list has.different);
    })

found_there : (lists : List AccessList) (name : List ℕ) (extended : Bool) (place : ℕ) → IsFound lists name place → slice_get lists place ≡ Some (list_named lists name extended)
found_there lists name extended place found = rw found.at (present lists name extended (rw found.at at found.inside)).there

pub named_there : (lists : List AccessList) (name : List ℕ) (place : ℕ) → IsFound lists name place → name_at lists place ≡ Some name
named_there lists name place found = ap (option_map name_of) (found_there lists name true place found) ∙ ap Some (name_of_named lists name true)

-- a list that is there is the one of its name
pub begun_found : (lists : List AccessList) (name : List ℕ) (extended : Bool) (place : ℕ) → IsFound lists name place → IsBegun lists name extended lists place
begun_found lists name extended place found =
    let list : AccessList = list_named lists name extended in
    let there : slice_get lists place ≡ Some list = found_there lists name extended place found in
    let put : set lists (place_named lists name) list ≡ with_list lists list = (present lists name extended (rw found.at at found.inside)).put list (name_of_named lists name extended) in
    record {
      put = sym (set-get_or lists place list) ∙ ap (set lists place) (get_or_from_slice_get lists place list list there) ∙ ap (λ (i : ℕ). set lists i list) found.at ∙ put;
      at = named_there lists name place found;
    }

pub fresh : (lists : List AccessList) (name : List ℕ) (extended : Bool) → kind_named lists name ≡ None → list_named lists name extended ≡ empty_list name extended
fresh lists name extended none = (absent lists name extended (past_all lists name none)).fresh

-- and where there is none, the new one behind all
pub begun_new : (lists new : List AccessList) (name : List ℕ) (extended : Bool) (place : ℕ) → kind_named lists name ≡ None → new ≡ with_list lists (empty_list name extended)
    → place ≡ length lists → IsBegun lists name extended new place
begun_new lists new name extended place none is end =
    let list : AccessList = empty_list name extended in
    let more : new ≡ lists ++ list ∷ [] = is ∙ sym (put_behind lists list none) in
    let there : slice_get (lists ++ list ∷ []) (length lists) ≡ Some list =
    slice_get-get_or (lists ++ list ∷ []) (length lists) list (omega (arith, length_push lists list)) ∙ ap Some (get_or-append_seam lists list [] list) in
    record {
      put = is ∙ ap (with_list lists) (sym (fresh lists name extended none));
      at = rw (more, end) (ap (option_map name_of) there);
    }
