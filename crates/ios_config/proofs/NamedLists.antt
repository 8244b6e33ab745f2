-- The lists of the names, where one of them is put.
use Rattle.std.proofs.Common.{◌≡◌, ℕ, Bool, true, false, List, [], ◌∷◌, Some, refl, sym, ap}
use Rattle.std.specs.Str.{bytes_eq}
use Rattle.std.proofs.lemmas.Slice.Eq.{bytes_eq-Decides}
use Rattle.ios_acl.specs.Block.{empty_list}
use Rattle.ios_acl.specs.List.{AccessList}
use Rattle.ios_lists.specs.Lists.{kind_named, list_named, with_list}

pub same_name : (name : List ℕ) → bytes_eq name name ≡ true
same_name name = (bytes_eq-Decides name name).1 refl

pub apart_names : (name other : List ℕ) → bytes_eq name other ≡ false → name ≡ other → ⊥
apart_names name other apart same =
    let equal : bytes_eq name other ≡ true = (bytes_eq-Decides name other).1 same in
    cc

-- the list that is put is that of its name
pub named_with : (lists : List AccessList) (made : AccessList) (extended : Bool) → list_named (with_list lists made) made.name extended ≡ made
named_with [] made extended = rw (same_name made.name) refl
named_with (list ∷ lists) made extended = decide (named_with lists made extended) (bytes_eq made.name list.name) refl
  where
    decide : list_named (with_list lists made) made.name extended ≡ made → (b : Bool) → b ≡ bytes_eq made.name list.name → list_named (with_list (list ∷ lists) made) made.name extended ≡ made
    decide behind true is = rw (← is) (rw (same_name made.name) refl)
    decide behind false is = rw (← is) (rw (← is) behind)

pub kind_with : (lists : List AccessList) (made : AccessList) → kind_named (with_list lists made) made.name ≡ Some made.extended
kind_with [] made = rw (same_name made.name) refl
kind_with (list ∷ lists) made = decide (kind_with lists made) (bytes_eq made.name list.name) refl
  where
    decide : kind_named (with_list lists made) made.name ≡ Some made.extended → (b : Bool) → b ≡ bytes_eq made.name list.name
        → kind_named (with_list (list ∷ lists) made) made.name ≡ Some made.extended
    decide behind true is = rw (← is) (rw (same_name made.name) refl)
    decide behind false is = rw (← is) (rw (← is) behind)

-- and those of other names stay
pub record Stays (old new : List AccessList) (name : List ℕ) (extended : Bool) : Type 0 where
  pub named : list_named new name extended ≡ list_named old name extended
  pub kind : kind_named new name ≡ kind_named old name

pub others_with : (lists : List AccessList) (made : AccessList) (name : List ℕ) (extended : Bool) → bytes_eq name made.name ≡ false → Stays lists (with_list lists made) name extended
others_with [] made name extended other = record { named = rw other refl; kind = rw other refl }
others_with (list ∷ lists) made name extended other = decide (others_with lists made name extended other) (bytes_eq made.name list.name) (bytes_eq name list.name) refl refl
  where
    decide : Stays lists (with_list lists made) name extended → (here own : Bool) → here ≡ bytes_eq made.name list.name → own ≡ bytes_eq name list.name
        → Stays (list ∷ lists) (with_list (list ∷ lists) made) name extended
    decide behind true own is own_is =
        let made_is : made.name ≡ list.name = (bytes_eq-Decides made.name list.name).0 (sym is) in
        let apart : bytes_eq name list.name ≡ false = rw (← made_is) other in
        rw (← is) (record { named = rw (other, apart) refl; kind = rw (other, apart) refl })
    decide behind false true is own_is = rw (← is) (record { named = rw (← own_is) refl; kind = rw (← own_is) refl })
    decide behind false false is own_is = rw (← is) (record { named = rw (← own_is) behind.named; kind = rw (← own_is) behind.kind })

-- a list that is there does not depend on the kind it is asked for
pub same_named : (lists : List AccessList) (name : List ℕ) (asked extended : Bool) → (list_named lists name asked).extended ≡ extended → list_named lists name asked ≡ list_named lists name extended
same_named [] name asked extended is = ap (empty_list name) is
same_named (list ∷ lists) name asked extended is = decide (same_named lists name asked extended) (bytes_eq name list.name) refl
  where
    decide : ((list_named lists name asked).extended ≡ extended → list_named lists name asked ≡ list_named lists name extended) → (b : Bool) → b ≡ bytes_eq name list.name
        → list_named (list ∷ lists) name asked ≡ list_named (list ∷ lists) name extended
    decide behind true here = rw (← here) refl
    decide behind false here = rw (← here) (behind (rw (← here) at is))

pub kind_there : (lists : List AccessList) (name : List ℕ) (asked other : Bool) → kind_named lists name ≡ Some other → (list_named lists name asked).extended ≡ other
kind_there [] name asked other kind = absurd (cc kind)
kind_there (list ∷ lists) name asked other kind = decide (kind_there lists name asked other) (bytes_eq name list.name) refl
  where
    decide : (kind_named lists name ≡ Some other → (list_named lists name asked).extended ≡ other) → (b : Bool) → b ≡ bytes_eq name list.name
        → (list_named (list ∷ lists) name asked).extended ≡ other
    decide behind true here = rw (← here) (cc (rw (← here) at kind))
    decide behind false here = rw (← here) (behind (rw (← here) at kind))
