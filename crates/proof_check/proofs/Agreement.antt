-- Values for all variables that agree with a table of some.
use Rattle.std.proofs.Common.{◌≡◌, ◌⊎◌, inl, inr, Option, Some, None, replicate, set, get_or, ℕ, zero, suc, Bool, true, false, not, List, [], ◌∷◌, ap, ◌∙◌, refl}
use Rattle.std.specs.Option.{option_map}
use Rattle.cnf.specs.declared.lit.Lit.{Lit}
use Rattle.cnf.specs.Clauses.{signed, lit_holds}
use Rattle.proof_check.specs.Values.{value_of, with_true, with_false}

-- where the table has a value it is this one
pub record IsWithin (values : List Bool) (table : List (Option Bool)) : Type 0 where
  pub same : (var : ℕ) (b : Bool) → get_or table var None ≡ Some b → get_or values var false ≡ b

blank_reads : (n var : ℕ) (b : Bool) → get_or (replicate n None) var None ≡ Some b → ⊥
blank_reads zero var b e = cc
blank_reads (suc n) zero b e = cc
blank_reads (suc n) (suc var) b e = blank_reads n var b e

pub IsWithin-blank : (values : List Bool) (n : ℕ) → IsWithin values (replicate n None)
IsWithin-blank values n = record { same = λ var b e. absurd (blank_reads n var b e) }

signed_reads : (negative : Bool) (o : Option Bool) (v b : Bool) → ((x : Bool) → o ≡ Some x → v ≡ x) → option_map (signed negative) o ≡ Some b → signed negative v ≡ b
signed_reads negative None v b h e = absurd (cc)
signed_reads negative (Some x) v b h e = ap (signed negative) (h x refl) ∙ (cc)

pub lit_holds_by : (values : List Bool) (table : List (Option Bool)) (l : Lit) (b : Bool) → IsWithin values table → value_of table l ≡ Some b → lit_holds values l ≡ b
lit_holds_by values table l b h e =
    signed_reads l.negative (get_or table l.var None) (get_or values l.var false) b (h.same l.var) e

pub reads_set : (table : List (Option Bool)) (i var : ℕ) (v b : Bool) → get_or (set table i (Some v)) var None ≡ Some b → ((var ≡ i) × (v ≡ b)) ⊎ (get_or table var None ≡ Some b)
reads_set [] i var v b e = inr e
reads_set (x ∷ xs) zero zero v b e = inl (refl, cc)
reads_set (x ∷ xs) zero (suc var) v b e = inr e
reads_set (x ∷ xs) (suc i) zero v b e = inr e
reads_set (x ∷ xs) (suc i) (suc var) v b e =
    elim (reads_set xs i var v b e) [ inl w ↦ inl (ap suc w.0, w.1) | inr w ↦ inr w ]

IsWithin-set : (values : List Bool) (table : List (Option Bool)) (i : ℕ) (v : Bool) → IsWithin values table → get_or values i false ≡ v → IsWithin values (set table i (Some v))
IsWithin-set values table i v h is = record {
  same = λ var b e. elim (reads_set table i var v b e) [
    | inl w ↦ ap (λ k. get_or values k false) w.0 ∙ is ∙ w.1
    | inr w ↦ h.same var b w
  ];
}

pub signed-true : (negative v : Bool) → signed negative v ≡ true → v ≡ not negative
signed-true true true e = absurd (cc)
signed-true true false e = refl
signed-true false true e = refl
signed-true false false e = absurd (cc)

signed-false : (negative v : Bool) → signed negative v ≡ false → v ≡ negative
signed-false true true e = refl
signed-false true false e = absurd (cc)
signed-false false true e = absurd (cc)
signed-false false false e = refl

pub IsWithin-with_true : (values : List Bool) (table : List (Option Bool)) (l : Lit) → IsWithin values table → lit_holds values l ≡ true → IsWithin values (with_true table l)
IsWithin-with_true values table l h e =
    IsWithin-set values table l.var (not l.negative) h (signed-true l.negative (get_or values l.var false) e)

pub IsWithin-with_false : (values : List Bool) (table : List (Option Bool)) (l : Lit) → IsWithin values table → lit_holds values l ≡ false → IsWithin values (with_false table l)
IsWithin-with_false values table l h e =
    IsWithin-set values table l.var l.negative h (signed-false l.negative (get_or values l.var false) e)
