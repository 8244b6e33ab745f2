-- The tests that are shown, one more at a time.
use Rattle.std.proofs.Common.{◌≡◌, ℕ, ◌+◌, ◌<◌, ◌==◌, ◌||◌, not, Bool, true, false, List, [], ◌∷◌, ◌++◌, length, take, get_or, refl, sym, ap, ap₂, ◌∙◌, if◌then◌else◌, append-nil, subst, ◌↔◌}
use Rattle.std.specs.List.{filter, list_any}
use Rattle.std.proofs.lemmas.Bool.{and_from, and_parts, eq-eqb, eqb-true, false_from_ne_true, false≢true}
use Rattle.std.proofs.lemmas.List.{take_more}
use Rattle.std.proofs.lemmas.List.Elements.{filter-append}
use Rattle.std.proofs.lemmas.Map.Views.{any-filter_same}
use Rattle.sorted_logic.specs.declared.request.Field.{Field}
use Rattle.sorted_logic.specs.declared.request.Field.TheVariants as field
use Rattle.sorted_logic.specs.Field.{fields, place}
use Rattle.frame.specs.declared.question.Pattern.{Pattern}
use Rattle.frame.specs.declared.question.Pattern.TheVariants as pattern
use Rattle.frame.specs.declared.question.Test.{Test}
use Rattle.frame.specs.Scenario.{same_pattern, same_test, visible}

same_field : (a b : Field) → place a ≡ place b → a ≡ b
same_field a b same = sym (from_place a) ∙ ap at_place same ∙ from_place b
  where
    at_place : ℕ → Field
    at_place n = get_or fields n field.Entry

    from_place : (f : Field) → at_place (place f) ≡ f
    from_place field.Entry = refl
    from_place field.SrcIn = refl
    from_place field.DstIn = refl
    from_place field.SportIn = refl
    from_place field.DportIn = refl
    from_place field.Proto = refl
    from_place field.Flags = refl
    from_place field.IcmpType = refl
    from_place field.IcmpCode = refl
    from_place field.SrcOut = refl
    from_place field.DstOut = refl
    from_place field.SportOut = refl
    from_place field.DportOut = refl
    from_place field.NextHop = refl
    from_place field.Exit = refl

patterns_are_one : (a b : Pattern) → same_pattern a b ≡ true → a ≡ b
patterns_are_one (pattern.Masked value wildcard) (pattern.Masked v w) same =
    let parts = and_parts (value == v) (wildcard == w) same in
    ap₂ (λ x y. pattern.Masked x y) (eqb-true value v parts.0) (eqb-true wildcard w parts.1)
patterns_are_one (pattern.Masked value wildcard) (pattern.Range low high) same = absurd (false≢true same)
patterns_are_one (pattern.Range low high) (pattern.Masked value wildcard) same = absurd (false≢true same)
patterns_are_one (pattern.Range low high) (pattern.Range l h) same =
    let parts = and_parts (low == l) (high == h) same in
    ap₂ (λ x y. pattern.Range x y) (eqb-true low l parts.0) (eqb-true high h parts.1)

same_pattern-refl : (a : Pattern) → same_pattern a a ≡ true
same_pattern-refl (pattern.Masked value wildcard) = and_from (value == value) (wildcard == wildcard) (eq-eqb value value refl) (eq-eqb wildcard wildcard refl)
same_pattern-refl (pattern.Range low high) = and_from (low == low) (high == high) (eq-eqb low low refl) (eq-eqb high high refl)

tests_are_one : (a b : Test) → same_test a b ≡ true → a ≡ b
tests_are_one a b same =
    let parts = and_parts (place a.field == place b.field) (same_pattern a.pattern b.pattern) same in
    let test : Field → Pattern → Test = λ x y. record { field = x; pattern = y } in
    ap₂ test (same_field a.field b.field (eqb-true (place a.field) (place b.field) parts.0)) (patterns_are_one a.pattern b.pattern parts.1)

-- two tests are the same where they have the same field and pattern
pub same_tests : (a b : Test) → (same_test a b ≡ true) ↔ (a ≡ b)
same_tests a b = (tests_are_one a b, same)
  where
    same : a ≡ b → same_test a b ≡ true
    same is =
        let itself : same_test a a ≡ true = and_from (place a.field == place a.field) (same_pattern a.pattern a.pattern) (eq-eqb (place a.field) (place a.field) refl) (same_pattern-refl a.pattern) in
        subst (λ t. same_test a t ≡ true) is itself

same_test-trans : (a b c : Test) → same_test a b ≡ true → same_test b c ≡ true → same_test a c ≡ true
same_test-trans a b c first second = subst (λ t. same_test t c ≡ true) (sym (tests_are_one a b first)) second

-- the tests that are not the same as this one
abbrev others : Test → List Test → List Test
others test tests = filter (λ other. not (same_test test other)) tests

abbrev is_among : Test → List Test → Bool
is_among test tests = list_any (λ other. same_test other test) tests

-- behind these a test that is new among them
abbrev with_test : List Test → Test → List Test
with_test tests test = if is_among test tests then tests else tests ++ test ∷ []

among_others : (first test : Test) (tests : List Test) → same_test first test ≡ false → is_among test (others first tests) ≡ is_among test tests
among_others first test tests apart =
    any-filter_same (λ other. same_test other test) (λ other. not (same_test first other)) true
    (λ other same. ap not (false_from_ne_true (same_test first other) (λ other_same. false≢true (sym apart ∙ same_test-trans first other test other_same same))))
    tests

others_push : (first test : Test) (tests : List Test) (b : Bool) → same_test first test ≡ b → others first (tests ++ test ∷ []) ≡ others first tests ++ (if b then [] else test ∷ [])
others_push first test tests b is = filter-append (λ other. not (same_test first other)) tests (test ∷ []) ∙ ap (λ t. others first tests ++ (if not t then test ∷ [] else [])) is ∙ last b
  where
    last : (b : Bool) → others first tests ++ (if not b then test ∷ [] else []) ≡ others first tests ++ (if b then [] else test ∷ [])
    last true = refl
    last false = refl

-- of a test more and those that are not the same as the first
others_with : (first test : Test) (tests : List Test) (b : Bool) → same_test first test ≡ b → first ∷ others first (with_test tests test) ≡ (if b || is_among test (others first tests) then first ∷ others first tests else first ∷ (others first tests ++ test ∷ []))
others_with first test tests true is = ap (λ ts. first ∷ ts) (whether (is_among test tests))
  where
    whether : (t : Bool) → others first (if t then tests else tests ++ test ∷ []) ≡ others first tests
    whether true = refl
    whether false = others_push first test tests true is ∙ append-nil (others first tests)
others_with first test tests false is =
    whether (is_among test tests) ∙ ap (λ t. if t then first ∷ others first tests else first ∷ (others first tests ++ test ∷ [])) (sym (among_others first test tests is))
  where
    whether : (t : Bool) → first ∷ others first (if t then tests else tests ++ test ∷ []) ≡ (if t then first ∷ others first tests else first ∷ (others first tests ++ test ∷ []))
    whether true = refl
    whether false = ap (λ ts. first ∷ ts) (others_push first test tests false is)

pub visible_push : (tests : List Test) (test : Test) → visible (tests ++ test ∷ []) ≡ with_test (visible tests) test
visible_push [] test = refl
visible_push (first ∷ tests) test = ap (λ ts. first ∷ others first ts) (visible_push tests test) ∙ others_with first test (visible tests) (same_test first test) refl

pub visible_more : (tests : List Test) (i : ℕ) (d : Test) → i < length tests →
    visible (take (i + 1) tests) ≡ (if list_any (λ other. same_test other (get_or tests i d)) (visible (take i tests)) then visible (take i tests) else visible (take i tests) ++ get_or tests i d ∷ [])
visible_more tests i d inside = ap visible (take_more tests i d inside) ∙ visible_push (take i tests) (get_or tests i d)

pub shown_new : (tests : List Test) (i : ℕ) (d : Test) (shown : List Test) → i < length tests → shown ≡ visible (take i tests) → list_any (λ other. same_test other (get_or tests i d)) shown ≡ false →
    shown ++ get_or tests i d ∷ [] ≡ visible (take (i + 1) tests)
shown_new tests i d shown inside are new =
    let rest = visible_more tests i d inside in
    sym (rw (← are, new) at rest)

pub shown_before : (tests : List Test) (i : ℕ) (d : Test) (shown : List Test) → i < length tests → shown ≡ visible (take i tests) → list_any (λ other. same_test other (get_or tests i d)) shown ≡ true →
    shown ≡ visible (take (i + 1) tests)
shown_before tests i d shown inside are old =
    let rest = visible_more tests i d inside in
    sym (rw (← are, old) at rest)
