-- The list of a name stands at its place among the lists.
use Rattle.std.proofs.Common.{◌≡◌, ℕ, suc, ◌+◌, ◌<◌, ◌≤◌, Bool, true, false, not, nat_lt, IsTrue, List, [], ◌∷◌, ◌++◌, length, Some, None, slice_get, set, ⊎_elim, refl, sym, ap, arith}
use Rattle.std.specs.Bool.{beq}
use Rattle.std.specs.Str.{bytes_eq}
use Rattle.std.proofs.lemmas.Option.{slice_get_within}
use Rattle.std.proofs.lemmas.Bool.{cases_lt}
use Rattle.std.proofs.lemmas.Bool.Decides.{nat_tests}
use Rattle.std.proofs.lemmas.Slice.Eq.{bytes_eq-Decides}
use Rattle.ios_acl.specs.List.{AccessList}
use Rattle.ios_acl.specs.Block.{empty_list}
use Rattle.ios_lists.specs.Holding.{place_named}
use Rattle.ios_lists.specs.Lists.{list_named, with_list, kind_named}

pub record IsPresent (lists : List AccessList) (name : List ℕ) (extended : Bool) : Type 0 where
  pub there : slice_get lists (place_named lists name) ≡ Some (list_named lists name extended)
  pub kind : kind_named lists name ≡ Some (list_named lists name extended).extended
  pub named : (list_named lists name extended).name ≡ name
  pub put : (new : AccessList) → new.name ≡ name → set lists (place_named lists name) new ≡ with_list lists new

pub record IsAbsent (lists : List AccessList) (name : List ℕ) (extended : Bool) : Type 0 where
  pub fresh : list_named lists name extended ≡ empty_list name extended
  pub kind : kind_named lists name ≡ None
  pub put : (new : AccessList) → new.name ≡ name → lists ++ new ∷ [] ≡ with_list lists new

pub present : (lists : List AccessList) (name : List ℕ) (extended : Bool) → place_named lists name < length lists → IsPresent lists name extended
present [] name extended inside = absurd (omega arith)
present (list ∷ lists) name extended inside = decide (present lists name extended) (bytes_eq name list.name) refl
  where
    decide : (place_named lists name < length lists → IsPresent lists name extended) → (b : Bool) → b ≡ bytes_eq name list.name → IsPresent (list ∷ lists) name extended
    decide behind true is = record {
      there = rw (← is) refl;
      kind = rw (← is) refl;
      named = rw (← is) (sym ((bytes_eq-Decides name list.name).0 (sym is)));
      put = λ new same.
          let test : bytes_eq new.name list.name ≡ true = rw same (sym is) in
          rw (← is, test) refl;
    }
    decide behind false is =
        let step : 1 + place_named lists name ≡ suc (place_named lists name) = omega arith in
        let later : 1 + place_named lists name < suc (length lists) = rw (← is) at inside in
        let more = behind (omega (arith, later)) in
        record {
          there = rw (← is) (rw step more.there);
          kind = rw (← is) more.kind;
          named = rw (← is) more.named;
          put = λ new same.
              let test : bytes_eq new.name list.name ≡ false = rw same (sym is) in
              rw (← is, test, step) (ap (λ rest. list ∷ rest) (more.put new same));
        }

pub absent : (lists : List AccessList) (name : List ℕ) (extended : Bool) → length lists ≤ place_named lists name → IsAbsent lists name extended
absent [] name extended past = record { fresh = refl; kind = refl; put = λ new same. refl }
absent (list ∷ lists) name extended past = decide (absent lists name extended) (bytes_eq name list.name) refl
  where
    decide : (length lists ≤ place_named lists name → IsAbsent lists name extended) → (b : Bool) → b ≡ bytes_eq name list.name → IsAbsent (list ∷ lists) name extended
    decide behind true is = absurd (omega (arith, rw (← is) at past))
    decide behind false is =
        let later : suc (length lists) ≤ 1 + place_named lists name = rw (← is) at past in
        let more = behind (omega (arith, later)) in
        record {
          fresh = rw (← is) more.fresh;
          kind = rw (← is) more.kind;
          put = λ new same.
              let test : bytes_eq new.name list.name ≡ false = rw same (sym is) in
              rw test (ap (λ rest. list ∷ rest) (more.put new same));
        }

-- the list at the place of its name is that of its name
pub list_there : (lists : List AccessList) (name : List ℕ) (extended : Bool) (place : ℕ) (list : AccessList) → place ≡ place_named lists name → slice_get lists place ≡ Some list
    → list_named lists name extended ≡ list
list_there lists name extended place list is there =
    let at : IsPresent lists name extended = present lists name extended (rw is at (slice_get_within lists place list there)) in
    let same : slice_get lists place ≡ Some (list_named lists name extended) = rw is at.there in
    cc (same, there)

differs : (extended other : Bool) → (IsTrue (not (beq extended other)) → Some extended ≡ Some (not other)) × (Some extended ≡ Some (not other) → IsTrue (not (beq extended other)))
differs true true = (λ no. absurd (cc no), λ same. absurd (cc same))
differs true false = (λ _. refl, λ _. refl)
differs false true = (λ _. refl, λ _. refl)
differs false false = (λ no. absurd (cc no), λ same. absurd (cc same))

pub other_kind_there : (lists : List AccessList) (name : List ℕ) (extended : Bool) (place : ℕ) (list : AccessList) → place ≡ place_named lists name → place < length lists
    → slice_get lists place ≡ Some list
    → (IsTrue (not (beq list.extended extended)) → kind_named lists name ≡ Some (not extended)) × (kind_named lists name ≡ Some (not extended) → IsTrue (not (beq list.extended extended)))
other_kind_there lists name extended place list is inside there =
    let at : IsPresent lists name extended = present lists name extended (rw is at inside) in
    let kind : kind_named lists name ≡ Some list.extended = rw (list_there lists name extended place list is there) at at.kind in
    rw kind (differs list.extended extended)

pub other_kind_nowhere : (lists : List AccessList) (name : List ℕ) (extended : Bool) (place : ℕ) → place ≡ place_named lists name → length lists ≤ place
    → (IsTrue (nat_lt place (length lists)) → kind_named lists name ≡ Some (not extended)) × (kind_named lists name ≡ Some (not extended) → IsTrue (nat_lt place (length lists)))
other_kind_nowhere lists name extended place is past =
    let none : IsAbsent lists name extended = absent lists name extended (rw is at past) in
    (λ inside. absurd (grind (arith, nat_tests)), λ kind. absurd (cc (kind, none.kind)))

-- the list of a name has that name
pub name_of_named : (lists : List AccessList) (name : List ℕ) (extended : Bool) → (list_named lists name extended).name ≡ name
name_of_named lists name extended =
    ⊎_elim (λ inside. (present lists name extended inside).named) (λ past. ap (λ (l : AccessList). l.name) (absent lists name extended past).fresh)
    (cases_lt (place_named lists name) (length lists))
