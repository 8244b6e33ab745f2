-- Lines that are read into the list at a place.
use Rattle.std.proofs.Common.{◌≡◌, ℕ, ◌<◌, Bool, true, false, not, List, Some, Result, Ok, Err, OnOk, OnErr, option_map, slice_get, set, length, get_or, refl, sym, ap, ◌∙◌}
use Rattle.std.proofs.Math.Seq.{map-set_same}
use Rattle.std.proofs.lemmas.List.{get_or-set_same, length-set}
use Rattle.std.proofs.lemmas.Option.{slice_get-get_or}
use Rattle.ios_lex.specs.Phrases.{Words}
use Rattle.ios_acl.specs.declared.fault.AclFault.{AclFault}
use Rattle.ios_acl.specs.declared.fault.AclFault.TheVariants as acl
use Rattle.ios_acl.specs.List.{AccessList}
use Rattle.ios_acl.specs.Faults.{IsFault}
use Rattle.ios_acl.specs.Reading.{Reads}
use Rattle.ios_acl.specs.Reading as reading
use Rattle.ios_lists.specs.Entries.{ReadsEntryAt, FailsAt}
use Rattle.ios_lists.specs.Holding.{name_of, place_named, HasNames}
use Rattle.ios_lists.specs.Lists.{list_named, with_list, kind_named, FitsLists, HaveDifferentNames, name_at}
use Rattle.ios_lists.specs.Rules.{ReadsInto}
use Rattle.ios_lists.proofs.DifferentNames.{first_of_name, names_with}
use Rattle.ios_lists.proofs.Found.{IsFound}
use Rattle.ios_lists.proofs.Growing.{named_there}
use Rattle.ios_lists.proofs.Places.{IsPresent, present, list_there}

-- a list keeps its name and its kind
pub record KeepsKind (list new : AccessList) : Type 0 where
  pub name : new.name ≡ list.name
  pub kind : new.extended ≡ list.extended

pub reads_keeps : (list new : AccessList) (words : Words) → Reads list words new → KeepsKind list new
reads_keeps list new words (reading.remark number rest opened is same) = rw same (record { name = refl; kind = refl })
reads_keeps list new words (reading.entry number rest entry opened is numbered small room same) = rw same (record { name = refl; kind = refl })

-- the list at a place is that of its name
record IsAt (lists : List AccessList) (place : ℕ) (list : AccessList) : Type 0 where
  at : name_at lists place ≡ Some list.name
  kind : kind_named lists list.name ≡ Some list.extended
  named : (extended : Bool) → list_named lists list.name extended ≡ list
  put : (new : AccessList) → new.name ≡ list.name → set lists place new ≡ with_list lists new

list_at : (lists : List AccessList) (place : ℕ) (list : AccessList) → HaveDifferentNames lists → list ≡ get_or lists place list → place < length lists → IsAt lists place list
list_at lists place list differ is inside =
    let there : slice_get lists place ≡ Some list = slice_get-get_or lists place list inside ∙ ap Some (sym is) in
    let first : place_named lists list.name ≡ place = first_of_name lists place list differ there in
    let of : IsPresent lists list.name true = present lists list.name true (rw first inside) in
    let named : (extended : Bool) → list_named lists list.name extended ≡ list = λ extended. list_there lists list.name extended place list (sym first) there in
    record {
      at = ap (option_map name_of) there;
      kind = of.kind ∙ ap (λ (l : AccessList). Some l.extended) (named true);
      named = named;
      put = λ new same. rw first at (of.put new same);
    }

-- a list whose line is read or refused keeps its name
pub keeps_name : (list new : AccessList) (words : Words) (result : Result (Unit {0}) AclFault) → OnOk result (Reads list words new) → OnErr result (new ≡ list) → new.name ≡ list.name
keeps_name list new words (Ok value) reads unchanged = (reads_keeps list new words reads).name
keeps_name list new words (Err fault) reads unchanged = ap name_of unchanged

pub names_stay : (lists : List AccessList) (names : List (List ℕ)) (place : ℕ) (list new : AccessList) → HasNames lists names → list ≡ get_or lists place list
    → place < length lists → new.name ≡ list.name → HasNames (set lists place new) names
names_stay lists names place list new has is inside same = record {
  names_are = map-set_same name_of lists place new list (same ∙ ap name_of is) ∙ has.names_are;
  different = rw ((list_at lists place list has.different is inside).put new same) (names_with lists new has.different);
}

pub entry_taken : (lists : List AccessList) (names : List (List ℕ)) (place : ℕ) (words : Words) (list new : AccessList) → HasNames lists names → list ≡ get_or lists place list
    → place < length lists → Reads list words new → ReadsEntryAt lists place words (set lists place new)
entry_taken lists names place words list new has is inside reads =
    let of = list_at lists place list has.different is inside in
    let same : new.name ≡ list.name = (reads_keeps list new words reads).name in
    let stays : slice_get (set lists place new) place ≡ Some new =
    slice_get-get_or (set lists place new) place new (rw (length-set lists place new) inside) ∙ ap Some (get_or-set_same lists place new new inside) in
    record {
      name = list.name;
      at = of.at;
      reads = record {
        extended = list.extended;
        kind = of.kind;
        reads = record { made = new; reads = rw (of.named list.extended) reads; put = of.put new same };
      };
      stays = ap (option_map name_of) stays ∙ ap Some same;
    }

pub entry_fails : (lists : List AccessList) (names : List (List ℕ)) (place : ℕ) (words : Words) (list : AccessList) (fault : AclFault) → HasNames lists names → list ≡ get_or lists place list
    → place < length lists → IsFault list words fault → FailsAt lists place words fault
entry_fails lists names place words list (acl.Refused why) has is inside refused =
    let of = list_at lists place list has.different is inside in
    record {
      name = list.name;
      at = of.at;
      refused = record { extended = list.extended; kind = of.kind; refused = rw (of.named list.extended) refused };
    }
entry_fails lists names place words list acl.NoMemory has is inside refused = tt

kind_is : (extended other : Bool) → (Some extended ≡ Some (not other) → ⊥) → extended ≡ other
kind_is true true fits = refl
kind_is true false fits = absurd (fits refl)
kind_is false true fits = absurd (fits refl)
kind_is false false fits = refl

same_kind : (lists : List AccessList) (name : List ℕ) (extended other : Bool) → FitsLists lists name extended → kind_named lists name ≡ Some other → other ≡ extended
same_kind lists name extended other fits kind = kind_is other extended (λ same. fits (kind ∙ same))

-- what is read at the place of a name is read into the list of that name
pub read_found : (lists new : List AccessList) (name : List ℕ) (extended : Bool) (place : ℕ) (words : Words) → IsFound lists name place → FitsLists lists name extended
    → ReadsEntryAt lists place words new → ReadsInto lists name extended words new
read_found lists new name extended place words found fits entry =
    let at : name_at lists place ≡ Some name = named_there lists name place found in
    let same : entry.name ≡ name = cc (at, entry.at) in
    let kind : entry.reads.extended ≡ extended = same_kind lists name extended entry.reads.extended fits (rw same at entry.reads.kind) in
    rw (same, kind) at entry.reads.reads

pub fails_found : (lists : List AccessList) (name : List ℕ) (extended : Bool) (place : ℕ) (words : Words) (fault : AclFault) → IsFound lists name place → FitsLists lists name extended
    → FailsAt lists place words fault → IsFault (list_named lists name extended) words fault
fails_found lists name extended place words (acl.Refused why) found fits entry =
    let at : name_at lists place ≡ Some name = named_there lists name place found in
    let same : entry.name ≡ name = cc (at, entry.at) in
    let kind : entry.refused.extended ≡ extended = same_kind lists name extended entry.refused.extended fits (rw same at entry.refused.kind) in
    rw (same, kind) at entry.refused.refused
fails_found lists name extended place words acl.NoMemory found fits entry = tt
