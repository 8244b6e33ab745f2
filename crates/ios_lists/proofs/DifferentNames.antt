-- No two of the lists have one name.
use Rattle.std.proofs.Common.{◌≡◌, ◌≢◌, ℕ, zero, suc, Bool, true, false, List, [], ◌∷◌, Some, slice_get, refl, sym, ap, arith}
use Rattle.std.specs.List.{AllByRecursion}
use Rattle.std.specs.Str.{bytes_eq}
use Rattle.std.proofs.lemmas.Slice.Eq.{bytes_eq-Decides}
use Rattle.ios_acl.specs.List.{AccessList}
use Rattle.ios_lists.specs.Holding.{place_named}
use Rattle.ios_lists.specs.Lists.{HaveDifferentNames, with_list}

abbrev HasOtherName : List ℕ → AccessList → Type 0
HasOtherName name list = list.name ≢ name

others_with : (name : List ℕ) (lists : List AccessList) (new : AccessList) → AllByRecursion (HasOtherName name) lists → HasOtherName name new → AllByRecursion (HasOtherName name) (with_list lists new)
others_with name [] new others differs = (differs, tt)
others_with name (list ∷ lists) new others differs = decide (others_with name lists new others.1 differs) (bytes_eq new.name list.name) refl
  where
    decide : AllByRecursion (HasOtherName name) (with_list lists new) → (b : Bool) → b ≡ bytes_eq new.name list.name → AllByRecursion (HasOtherName name) (with_list (list ∷ lists) new)
    decide behind true is = rw (← is) (differs, others.1)
    decide behind false is = rw (← is) (others.0, behind)

others_same : (name other : List ℕ) (lists : List AccessList) → name ≡ other → AllByRecursion (HasOtherName name) lists → AllByRecursion (HasOtherName other) lists
others_same name other lists same others = rw same at others

-- a list in place of that of its name, or at the end, leaves them so
pub names_with : (lists : List AccessList) (new : AccessList) → HaveDifferentNames lists → HaveDifferentNames (with_list lists new)
names_with [] new names = (tt, tt)
names_with (list ∷ lists) new names = decide (names_with lists new names.1) (bytes_eq new.name list.name) refl
  where
    decide : HaveDifferentNames (with_list lists new) → (b : Bool) → b ≡ bytes_eq new.name list.name → HaveDifferentNames (with_list (list ∷ lists) new)
    decide behind true is =
        let same : list.name ≡ new.name = sym ((bytes_eq-Decides new.name list.name).0 (sym is)) in
        rw (← is) (others_same list.name new.name lists same names.0, names.1)
    decide behind false is =
        let differs : new.name ≢ list.name = λ same. let equal : bytes_eq new.name list.name ≡ true = (bytes_eq-Decides new.name list.name).1 same in cc in
        rw (← is) (others_with list.name lists new names.0 differs, behind)

other_at : (name : List ℕ) (lists : List AccessList) (place : ℕ) (list : AccessList) → AllByRecursion (HasOtherName name) lists → slice_get lists place ≡ Some list → HasOtherName name list
other_at name [] place list others there = absurd (cc there)
other_at name (first ∷ lists) zero list others there = let same : first ≡ list = cc there in rw (← same) others.0
other_at name (first ∷ lists) (suc place) list others there = other_at name lists place list others.1 there

-- so each list is the first of its name
pub first_of_name : (lists : List AccessList) (place : ℕ) (list : AccessList) → HaveDifferentNames lists → slice_get lists place ≡ Some list → place_named lists list.name ≡ place
first_of_name [] place list names there = absurd (cc there)
first_of_name (first ∷ lists) zero list names there =
    let same : first ≡ list = cc there in
    let equal : bytes_eq list.name first.name ≡ true = (bytes_eq-Decides list.name first.name).1 (ap (λ (l : AccessList). l.name) (sym same)) in
    rw equal refl
first_of_name (first ∷ lists) (suc place) list names there = by (first_of_name lists place list names.1 there) (bytes_eq list.name first.name) refl
  where
    by : place_named lists list.name ≡ place → (b : Bool) → b ≡ bytes_eq list.name first.name → place_named (first ∷ lists) list.name ≡ suc place
    by later true is = absurd (other_at first.name lists place list names.0 there ((bytes_eq-Decides list.name first.name).0 (sym is)))
    by later false is = rw (← is) (omega (arith, later))
