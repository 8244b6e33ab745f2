-- What is read off formulas are their tests.
use Rattle.std.proofs.Common.{◌≡◌, ◌<◌, ◌+◌, ℕ, List, [], ◌∷◌, ◌++◌, Option, Some, None, length, get_or, drop, ap, refl, subst, append_assoc, arith}
use Rattle.std.proofs.lemmas.Grind.{common_steps}
use Rattle.sorted_logic.specs.declared.request.Field.{Field}
use Rattle.query_lang.specs.declared.formula.Named.{Named}
use Rattle.query_lang.specs.declared.formula.Named.TheVariants as named
use Rattle.query_lang.specs.declared.literal.Literal.{Literal}
use Rattle.query_lang.specs.declared.literal.Literal.TheVariants as literal
use Rattle.query_lang.specs.declared.term.NamedTerm.{NamedTerm}
use Rattle.query_lang.specs.declared.term.NamedTerm.TheVariants as term
use Rattle.list_questions.specs.declared.field_test.FieldTest.{FieldTest}
use Rattle.list_questions.specs.declared.field_test.FieldTest.TheVariants as test_of
use Rattle.list_questions.specs.Questions.{AreTests, IsTest}
use Rattle.list_questions.specs.Shapes.{packet_field, field_of, number_of, masked_test, range_test, read_test, read_tests, one_more}
use Rattle.list_questions.proofs.PacketFields.{named_packet_field, packet_field_named}

pub test_is_read : (part : Named) (test : FieldTest) → IsTest part test → read_test part ≡ Some test
test_is_read _ _ (IsTest.masked name f value wildcard is) = rw (named_packet_field name f is) refl
test_is_read _ _ (IsTest.range name f lo hi is) = rw (named_packet_field name f is) refl

masked_at : (name : List ℕ) (o : Option Field) (v w : Literal) (test : FieldTest) → packet_field name ≡ o → masked_test o (number_of v) (number_of w) ≡ Some test → IsTest (named.Masked (term.Name name) v w) test
masked_at name (Some f) (literal.Number v) (literal.Number w) test found is =
    let e : test_of.Masked f v w ≡ test = cc in
    subst (IsTest (named.Masked (term.Name name) (literal.Number v) (literal.Number w))) e (IsTest.masked name f v w (packet_field_named name f found))
masked_at name (Some f) (literal.Number v) (literal.Interface w) test _ is = absurd cc
masked_at name (Some f) (literal.Interface v) w test _ is = absurd cc
masked_at name None v w test _ is = absurd cc

masked_from : (t : NamedTerm) (v w : Literal) (test : FieldTest) → masked_test (field_of t) (number_of v) (number_of w) ≡ Some test → IsTest (named.Masked t v w) test
masked_from (term.Name name) v w test is = masked_at name (packet_field name) v w test refl is
masked_from t v w test is = absurd cc

range_at : (name : List ℕ) (o : Option Field) (lo hi : Literal) (test : FieldTest) → packet_field name ≡ o → range_test o (number_of lo) (number_of hi) ≡ Some test → IsTest (named.Range (term.Name name) lo hi) test
range_at name (Some f) (literal.Number lo) (literal.Number hi) test found is =
    let e : test_of.Range f lo hi ≡ test = cc in
    subst (IsTest (named.Range (term.Name name) (literal.Number lo) (literal.Number hi))) e (IsTest.range name f lo hi (packet_field_named name f found))
range_at name (Some f) (literal.Number lo) (literal.Interface hi) test _ is = absurd cc
range_at name (Some f) (literal.Interface lo) hi test _ is = absurd cc
range_at name None lo hi test _ is = absurd cc

range_from : (t : NamedTerm) (lo hi : Literal) (test : FieldTest) → range_test (field_of t) (number_of lo) (number_of hi) ≡ Some test → IsTest (named.Range t lo hi) test
range_from (term.Name name) lo hi test is = range_at name (packet_field name) lo hi test refl is
range_from t lo hi test is = absurd cc

pub read_is_test : (part : Named) (test : FieldTest) → read_test part ≡ Some test → IsTest part test
read_is_test (named.Masked t v w) test is = masked_from t v w test is
read_is_test (named.Range t lo hi) test is = range_from t lo hi test is
read_is_test other test is = absurd cc

pub tests_are_read : (parts : List Named) (tests : List FieldTest) → AreTests parts tests → read_tests parts ≡ Some tests
tests_are_read [] [] are = refl
tests_are_read [] (test ∷ tests) are = absurd are
tests_are_read (part ∷ parts) [] are = absurd are
tests_are_read (part ∷ parts) (test ∷ tests) are = rw (test_is_read part test are.0, tests_are_read parts tests are.1) refl

pub read_are_tests : (parts : List Named) (tests : List FieldTest) → read_tests parts ≡ Some tests → AreTests parts tests
read_are_tests [] [] is = tt
read_are_tests [] (test ∷ tests) is = cc
read_are_tests (part ∷ parts) tests is =
    let Reads : Option FieldTest → Option (List FieldTest) → Type 0 = λ o p. read_test part ≡ o → read_tests parts ≡ p → one_more o p ≡ Some tests → AreTests (part ∷ parts) tests in
    let cases = elim (read_test part) as (λ o. Reads o (read_tests parts)) [
      | Some test ↦ elim (read_tests parts) as (λ p. Reads (Some test) p) [
        | Some others ↦ λ first rest same.
            let e : test ∷ others ≡ tests = cc in
            subst (AreTests (part ∷ parts)) e (read_is_test part test first, read_are_tests parts others rest)
        | None ↦ λ first rest same. cc
      ]
      | None ↦ λ first rest same. cc
    ] in
    cases refl refl is

pub one_list : (parts : List Named) (tests others : List FieldTest) → AreTests parts tests → AreTests parts others → tests ≡ others
one_list parts tests others are were =
    let one = tests_are_read parts tests are in
    let two = tests_are_read parts others were in
    cc

-- these tests, and then the others where they are tests
abbrev pub before : List FieldTest → Option (List FieldTest) → Option (List FieldTest)
before tests (Some others) = Some (tests ++ others)
before tests None = None

pub before_none : (o : Option (List FieldTest)) → before [] o ≡ o
before_none (Some tests) = refl
before_none None = refl

grow : (tests : List FieldTest) (test : FieldTest) (o : Option (List FieldTest)) → before (tests ++ test ∷ []) o ≡ before tests (one_more (Some test) o)
grow tests test (Some others) = ap Some (append_assoc tests (test ∷ []) others)
grow tests test None = refl

pub before_more : (tests : List FieldTest) (test : FieldTest) (parts : List Named) (i : ℕ) (d : Named) → i < length parts → read_test (get_or parts i d) ≡ Some test
    → before (tests ++ test ∷ []) (read_tests (drop (i + 1) parts)) ≡ before tests (read_tests (drop i parts))
before_more tests test parts i d h is =
    let e : drop i parts ≡ get_or parts i d ∷ drop (i + 1) parts = grind (arith, common_steps) in
    rw (e, is) (grow tests test (read_tests (drop (i + 1) parts)))

pub before_stop : (tests : List FieldTest) (parts : List Named) (i : ℕ) (d : Named) → i < length parts → read_test (get_or parts i d) ≡ None
    → before tests (read_tests (drop i parts)) ≡ None
before_stop tests parts i d h is =
    let e : drop i parts ≡ get_or parts i d ∷ drop (i + 1) parts = grind (arith, common_steps) in
    rw (e, is) refl
