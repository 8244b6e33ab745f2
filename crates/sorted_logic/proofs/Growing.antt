-- A signature where one more is declared is one.
use Rattle.std.specs.Prelude.{◌≡◌, ℕ, suc, ◌+◌, ◌<◌, ◌≤◌, ◌⊎◌, Bool, true, false, ◌||◌, List, [], ◌∷◌, ◌++◌, Option, Some, None, length, slice_get, option_map, option_and_then, refl}
use Rattle.std.specs.List.{AllByRecursion, IsDistinct}
use Rattle.std.specs.Str.{bytes_eq}
use Rattle.std.specs.Option.{option_map_or}
use Rattle.std.proofs.Common.{inl, inr, ap, sym, subst, ◌∙◌, arith}
use Rattle.std.proofs.lemmas.List.{length-append}
use Rattle.std.proofs.lemmas.Option.{slice_get_past}
use Rattle.sorted_logic.specs.declared.declarations.FuncDecl.{FuncDecl}
use Rattle.sorted_logic.specs.declared.declarations.RelDecl.{RelDecl}
use Rattle.sorted_logic.specs.declared.declarations.SortDecl.{SortDecl}
use Rattle.sorted_logic.specs.declared.declarations.Symbol.TheVariants as symbol
use Rattle.sorted_logic.specs.declared.term.Sort.{Sort}
use Rattle.sorted_logic.specs.Adding.{is_taken, any_taken, with_sorts, with_function, with_relation, with_disjoint}
use Rattle.sorted_logic.specs.Inside.Kept.{Meant, IsKept, is_known, any_known, meant_sort, meant_sorts}
use Rattle.sorted_logic.specs.Signature.{Signature, IsSignature, IsHierarchy, AreSorts, AreBits, names, parent, climbed}
use Rattle.sorted_logic.proofs.Declaring.{AreFree, free_sorts, free_function, free_relation, means_sorts, means_function, means_relation, known_is_taken, any_known_is_taken, length_push}
use Rattle.sorted_logic.proofs.Filtered.{get_behind}
use Rattle.sorted_logic.proofs.JoinedHierarchy.{at_root, front_parent, climbs_front, climbs_within, stays}
use Rattle.sorted_logic.proofs.JoinedPlaces.{under_of}

pub all_more : {A : Type 0} (P Q : A → Type 0) (xs : List A) → ((x : A) → P x → Q x) → AllByRecursion P xs → AllByRecursion Q xs
all_more P Q [] h all = tt
all_more P Q (x ∷ xs) h all = (h x all.0, all_more P Q xs h all.1)

pub all_append : {A : Type 0} (P : A → Type 0) (xs ys : List A) → AllByRecursion P xs → AllByRecursion P ys → AllByRecursion P (xs ++ ys)
all_append P [] ys h k = k
all_append P (x ∷ xs) ys h k = (h.0, all_append P xs ys h.1 k)

-- Hierarchies.

module _ (sorts : List SortDecl) (d : SortDecl) (h : IsHierarchy sorts) (under : (p : Sort) → d.under ≡ Some p → p.0 < length sorts) where
  All : List SortDecl
  All = sorts ++ d ∷ []

  last_parent : parent (sorts ++ d ∷ []) (length sorts) ≡ option_map (λ p. p.0) d.under
  last_parent = under_of (sorts ++ d ∷ []) (length sorts) d
      (ap (slice_get (sorts ++ d ∷ [])) (plus_none (length sorts)) ∙ get_behind sorts (d ∷ []) 0)
    where
      plus_none : (n : ℕ) → n ≡ n + 0
      plus_none n = omega arith

  past_parent : (s : ℕ) → suc (length sorts) ≤ s → parent (sorts ++ d ∷ []) s ≡ None
  past_parent s l = ap (λ d. option_map (λ p. p.0) (option_and_then (λ d. d.under) d))
      (slice_get_past (sorts ++ d ∷ []) s (omega (arith, l, length_push sorts d)))

  -- which of the three a place is
  where_is : (s : ℕ) → (s < length sorts) ⊎ ((s ≡ length sorts) ⊎ (suc (length sorts) ≤ s))
  where_is s = grind arith

  last_declared : (o : Option Sort) → d.under ≡ o → (p : ℕ) → option_map (λ p. p.0) o ≡ Some p → p < length sorts
  last_declared None e p q = cc
  last_declared (Some x) e p q = let z : x.0 ≡ p = cc in subst (λ n. n < length sorts) z (under x e)

  pushed_declared : (s p : ℕ) → parent (sorts ++ d ∷ []) s ≡ Some p → p < length (sorts ++ d ∷ [])
  pushed_declared s p e = let more : _ = length_push sorts d in elim (where_is s) [
    | inl l ↦ omega (arith, more, h.declared s p (sym (front_parent sorts (d ∷ []) s l) ∙ e))
    | inr (inl q) ↦ omega (arith, more, last_declared d.under refl p (sym last_parent ∙ ap (parent (sorts ++ d ∷ [])) (sym q) ∙ e))
    | inr (inr l) ↦ let none : None ≡ Some p = sym (past_parent s l) ∙ e in cc
  ]

  front_rooted : (s : ℕ) → s < length sorts → parent (sorts ++ d ∷ []) (climbed (sorts ++ d ∷ []) (length sorts) s) ≡ None
  front_rooted s l = ap (parent (sorts ++ d ∷ [])) (climbs_front sorts (d ∷ []) h (length sorts) s l)
      ∙ front_parent sorts (d ∷ []) (climbed sorts (length sorts) s) (climbs_within sorts h (length sorts) s l) ∙ h.rooted s

  one_more : (s : ℕ) → s < length sorts → parent (sorts ++ d ∷ []) (climbed (sorts ++ d ∷ []) (suc (length sorts)) s) ≡ None
  one_more s l = ap (parent (sorts ++ d ∷ [])) (ap (λ n. climbed (sorts ++ d ∷ []) n s) (plus_one (length sorts))
      ∙ stays (sorts ++ d ∷ []) (length sorts) 1 s (front_rooted s l)) ∙ front_rooted s l
    where
      plus_one : (n : ℕ) → suc n ≡ n + 1
      plus_one n = omega arith

  last_rooted : (o : Option Sort) → d.under ≡ o → parent (sorts ++ d ∷ []) (length sorts) ≡ option_map (λ p. p.0) o
      → parent (sorts ++ d ∷ []) (climbed (sorts ++ d ∷ []) (suc (length sorts)) (length sorts)) ≡ None
  last_rooted None e q = ap (parent (sorts ++ d ∷ [])) (at_root (sorts ++ d ∷ []) (suc (length sorts)) (length sorts) q) ∙ q
  last_rooted (Some p) e q = ap (λ o. parent (sorts ++ d ∷ []) (option_map_or (climbed (sorts ++ d ∷ []) (length sorts)) o (length sorts))) q
      ∙ front_rooted p.0 (under p e)

  pushed_rooted : (s : ℕ) → parent (sorts ++ d ∷ []) (climbed (sorts ++ d ∷ []) (suc (length sorts)) s) ≡ None
  pushed_rooted s = elim (where_is s) [
    | inl l ↦ one_more s l
    | inr (inl q) ↦ subst (λ x. parent (sorts ++ d ∷ []) (climbed (sorts ++ d ∷ []) (suc (length sorts)) x) ≡ None) (sym q)
        (last_rooted d.under refl last_parent)
    | inr (inr l) ↦ ap (parent (sorts ++ d ∷ [])) (at_root (sorts ++ d ∷ []) (suc (length sorts)) s (past_parent s l)) ∙ past_parent s l
  ]

  -- a sort under one that is there, behind the others
  pub hierarchy_push : IsHierarchy (sorts ++ d ∷ [])
  hierarchy_push = record {
    declared = pushed_declared;
    rooted = λ s. ap (λ n. parent (sorts ++ d ∷ []) (climbed (sorts ++ d ∷ []) n s)) (length_push sorts d) ∙ pushed_rooted s;
  }

-- Signatures.

free_of : (sig : Signature) → IsSignature sig → AreFree (names sig)
free_of sig h = record { differ = h.names_differ; free = h.names_free }

more_sorts : (sorts more : List SortDecl) (places : List Sort) → AreSorts sorts places → AreSorts (sorts ++ more) places
more_sorts sorts more places = all_more (λ s. s.0 < length sorts) (λ s. s.0 < length (sorts ++ more)) places
    (λ s l. omega (arith, l, length-append sorts more))

further : (sorts more : List SortDecl) (n : ℕ) → n < length sorts → n < length (sorts ++ more)
further sorts more n l = omega (arith, l, length-append sorts more)

signature_with_sorts : (sig : Signature) (decls : List SortDecl) → IsSignature sig → any_taken sig decls ≡ false
    → IsHierarchy (sig.sorts ++ decls) → AllByRecursion AreBits decls → IsSignature (with_sorts sig decls)
signature_with_sorts sig decls h free hierarchy bits = let f : AreFree (names (with_sorts sig decls)) = free_sorts sig decls (free_of sig h) free in record {
  names_differ = f.differ;
  names_free = f.free;
  hierarchy = hierarchy;
  bits = all_append AreBits sig.sorts decls h.bits bits;
  functions = all_more (λ d. AreSorts sig.sorts d.args × (d.result.0 < length sig.sorts)) _ sig.functions
      (λ d all. (more_sorts sig.sorts decls d.args all.0, further sig.sorts decls d.result.0 all.1)) h.functions;
  relations = all_more (λ d. AreSorts sig.sorts d.args) _ sig.relations (λ d all. more_sorts sig.sorts decls d.args all) h.relations;
  disjoint = all_more (λ pair. (pair.0.0 < length sig.sorts) × (pair.1.0 < length sig.sorts)) _ sig.disjoint
      (λ pair all. (further sig.sorts decls pair.0.0 all.0, further sig.sorts decls pair.1.0 all.1)) h.disjoint;
}

signature_with_function : (sig : Signature) (d : FuncDecl) → IsSignature sig → is_taken sig d.name ≡ false
    → AreSorts sig.sorts d.args → d.result.0 < length sig.sorts → IsSignature (with_function sig d)
signature_with_function sig d h free args result = let f : AreFree (names (with_function sig d)) = free_function sig d (free_of sig h) free in
    record {
      names_differ = f.differ;
      names_free = f.free;
      hierarchy = h.hierarchy;
      bits = h.bits;
      functions = all_append (λ d. AreSorts sig.sorts d.args × (d.result.0 < length sig.sorts)) sig.functions (d ∷ []) h.functions ((args, result), tt);
      relations = h.relations;
      disjoint = h.disjoint;
    }

signature_with_relation : (sig : Signature) (d : RelDecl) → IsSignature sig → is_taken sig d.name ≡ false
    → AreSorts sig.sorts d.args → IsSignature (with_relation sig d)
signature_with_relation sig d h free args = let f : AreFree (names (with_relation sig d)) = free_relation sig d (free_of sig h) free in
    record {
      names_differ = f.differ;
      names_free = f.free;
      hierarchy = h.hierarchy;
      bits = h.bits;
      functions = h.functions;
      relations = all_append (λ d. AreSorts sig.sorts d.args) sig.relations (d ∷ []) h.relations (args, tt);
      disjoint = h.disjoint;
    }

-- What is kept.

pub kept_with_sorts : (map : List Meant) (sig : Signature) (decls : List SortDecl) → IsKept map sig → any_taken sig decls ≡ false
    → IsHierarchy (sig.sorts ++ decls) → AllByRecursion AreBits decls → IsKept (map ++ meant_sorts (length sig.sorts) decls) (with_sorts sig decls)
kept_with_sorts map sig decls h free hierarchy bits = record {
  signature = signature_with_sorts sig decls h.signature free hierarchy bits;
  meant = means_sorts map sig decls h.meant free;
}

pub kept_with_sort : (map : List Meant) (sig : Signature) (d : SortDecl) → IsKept map sig → is_taken sig d.name ≡ false
    → IsHierarchy (sig.sorts ++ d ∷ []) → AreBits d → IsKept (map ++ meant_sort (length sig.sorts) d ∷ []) (with_sorts sig (d ∷ []))
kept_with_sort map sig d h free hierarchy bits = kept_with_sorts map sig (d ∷ []) h (one_only (is_taken sig d.name) free) hierarchy (bits, tt)
  where
    one_only : (b : Bool) → b ≡ false → (b || false) ≡ false
    one_only true h = h
    one_only false h = refl

pub kept_with_function : (map : List Meant) (sig : Signature) (d : FuncDecl) → IsKept map sig → is_taken sig d.name ≡ false
    → AreSorts sig.sorts d.args → d.result.0 < length sig.sorts
    → IsKept (map ++ (record { name = d.name; symbol = symbol.Func (record { 0 = length sig.functions }) }) ∷ []) (with_function sig d)
kept_with_function map sig d h free args result = record {
  signature = signature_with_function sig d h.signature free args result;
  meant = means_function map sig d h.meant free;
}

pub kept_with_relation : (map : List Meant) (sig : Signature) (d : RelDecl) → IsKept map sig → is_taken sig d.name ≡ false
    → AreSorts sig.sorts d.args
    → IsKept (map ++ (record { name = d.name; symbol = symbol.Rel (record { 0 = length sig.relations }) }) ∷ []) (with_relation sig d)
kept_with_relation map sig d h free args = record {
  signature = signature_with_relation sig d h.signature free args;
  meant = means_relation map sig d h.meant;
}

pub kept_with_disjoint : (map : List Meant) (sig : Signature) (pair : Sort × Sort) → IsKept map sig → pair.0.0 < length sig.sorts
    → pair.1.0 < length sig.sorts → IsKept map (with_disjoint sig pair)
kept_with_disjoint map sig pair h left right = record {
  signature = record {
    names_differ = h.signature.names_differ;
    names_free = h.signature.names_free;
    hierarchy = h.signature.hierarchy;
    bits = h.signature.bits;
    functions = h.signature.functions;
    relations = h.signature.relations;
    disjoint = all_append (λ pair. (pair.0.0 < length sig.sorts) × (pair.1.0 < length sig.sorts)) sig.disjoint (pair ∷ []) h.signature.disjoint
        ((left, right), tt);
  };
  meant = h.meant;
}

pub taken_as_known : (map : List Meant) (sig now : Signature) → IsKept map sig → sig ≡ now → (name : List ℕ) → is_known map name ≡ is_taken now name
taken_as_known map sig now h same name = known_is_taken map sig h.meant name ∙ ap (λ s. is_taken s name) same

pub any_taken_as_known : (map : List Meant) (sig now : Signature) → IsKept map sig → sig ≡ now → (decls : List SortDecl)
    → any_known map (length sig.sorts) decls ≡ any_taken now decls
any_taken_as_known map sig now h same decls = any_known_is_taken map sig decls h.meant ∙ ap (λ s. any_taken s decls) same

pub hierarchy_under : (sig now : Signature) → IsSignature sig → sig ≡ now → (d : SortDecl)
    → ((p : Sort) → d.under ≡ Some p → p.0 < length now.sorts) → IsHierarchy (now.sorts ++ d ∷ [])
hierarchy_under sig now h same d under = hierarchy_push now.sorts d (subst (λ s. IsHierarchy s.sorts) same h.hierarchy) under

-- The signature that declares nothing.

none_distinct : IsDistinct bytes_eq []
unfolding IsDistinct
none_distinct = tt

pub nothing_kept : IsKept [] (record { sorts = []; functions = []; relations = []; disjoint = [] })
nothing_kept = record {
  signature = record {
    names_differ = none_distinct;
    names_free = tt;
    hierarchy = record { declared = λ s p h. cc; rooted = λ s. refl };
    bits = tt;
    functions = tt;
    relations = tt;
    disjoint = tt;
  };
  meant = λ name. refl;
}
