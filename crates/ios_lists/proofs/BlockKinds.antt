-- The list whose block is open is there. Crates above cite it, where a block stays open from line to line.
use Rattle.std.proofs.Common.{◌≡◌, ℕ, Bool, true, false, List, [], ◌∷◌, Some, refl, ◌∙◌}
use Rattle.std.specs.Str.{bytes_eq}
use Rattle.std.proofs.lemmas.Slice.Eq.{bytes_eq-Decides}
use Rattle.ios_lex.specs.Phrases.{Words}
use Rattle.ios_acl.specs.List.{AccessList}
use Rattle.ios_lists.specs.Entries.{ReadsEntry}
use Rattle.ios_lists.specs.Heads.{OpensBlock}
use Rattle.ios_lists.specs.Lists.{list_named, with_list, kind_named}
use Rattle.ios_lists.proofs.BlockEntries.{reads_keeps}
use Rattle.ios_lists.proofs.Places.{name_of_named}

-- there is a list of this name
abbrev pub HasList : List AccessList → List ℕ → Type 0
HasList lists name = (extended : Bool) × (kind_named lists name ≡ Some extended)

kind_with : (lists : List AccessList) (new : AccessList) → kind_named (with_list lists new) new.name ≡ Some new.extended
kind_with [] new =
    let same : bytes_eq new.name new.name ≡ true = (bytes_eq-Decides new.name new.name).1 refl in
    rw same refl
kind_with (list ∷ lists) new = decide (kind_with lists new) (bytes_eq new.name list.name) refl
  where
    decide : kind_named (with_list lists new) new.name ≡ Some new.extended → (b : Bool) → b ≡ bytes_eq new.name list.name → kind_named (with_list (list ∷ lists) new) new.name ≡ Some new.extended
    decide behind true is =
        let same : bytes_eq new.name new.name ≡ true = (bytes_eq-Decides new.name new.name).1 refl in
        rw (← is) (rw same refl)
    decide behind false is = rw (← is) (rw (← is) behind)

list_with : (lists new : List AccessList) (list : AccessList) (name : List ℕ) → list.name ≡ name → new ≡ with_list lists list → HasList new name
list_with lists new list name named put = (list.extended, rw (put, ← named) (kind_with lists list))

pub head_list : (lists : List AccessList) (name : List ℕ) (extended : Bool) → HasList (with_list lists (list_named lists name extended)) name
head_list lists name extended =
    list_with lists (with_list lists (list_named lists name extended)) (list_named lists name extended) name (name_of_named lists name extended) refl

pub opened_list : (lists : List AccessList) (words : Words) (new : List AccessList) (place : ℕ) (opens : OpensBlock lists words new place) → HasList new opens.name
opened_list lists words new place opens =
    list_with lists new (list_named lists opens.name opens.extended) opens.name (name_of_named lists opens.name opens.extended) opens.put

pub entry_list : (lists : List AccessList) (name : List ℕ) (words : Words) (new : List AccessList) → ReadsEntry lists name words new → HasList new name
entry_list lists name words new entry =
    let list : AccessList = list_named lists name entry.extended in
    let kept = (reads_keeps list entry.reads.made words entry.reads.reads).name in
    list_with lists new entry.reads.made name (kept ∙ name_of_named lists name entry.extended) entry.reads.put
