-- The parts of a formula that asks about a list, as far as they can be read off. No public call is stated by this.
use Rattle.std.specs.Prelude.{◌≡◌, ℕ, List, [], ◌∷◌, Option, Some, None, find}
use Rattle.std.specs.Str.{bytes_eq}
use Rattle.ios_acl.specs.declared.entry.Verdict.{Verdict}
use Rattle.sorted_logic.specs.declared.request.Field.{Field}
use Rattle.sorted_logic.specs.Field.{field_name, packet_fields}
use Rattle.query_lang.specs.declared.formula.Named.{Named}
use Rattle.query_lang.specs.declared.formula.Named.TheVariants as named
use Rattle.query_lang.specs.declared.literal.Literal.{Literal}
use Rattle.query_lang.specs.declared.literal.Literal.TheVariants as literal
use Rattle.query_lang.specs.declared.term.NamedTerm.{NamedTerm}
use Rattle.query_lang.specs.declared.term.NamedTerm.TheVariants as term
use Rattle.list_questions.specs.declared.field_test.FieldTest.{FieldTest}
use Rattle.list_questions.specs.declared.field_test.FieldTest.TheVariants as test_of
use Rattle.list_questions.specs.declared.question.ListQuestion.{ListQuestion}
use Rattle.list_questions.specs.Questions.{Asks, decided}

-- the formula asks no question about a list
abbrev pub IsNoQuestion : Named → Type 0
IsNoQuestion formula = (question : ListQuestion) → Asks formula question → ⊥

-- the formula does not say alone how a list decides
abbrev pub IsNoAtom : Named → Type 0
IsNoAtom formula = (router list : List ℕ) (verdict : Verdict) → formula ≡ decided router list verdict → ⊥

abbrev pub packet_field : List ℕ → Option Field
packet_field name = find (λ f. bytes_eq name (field_name f)) packet_fields

-- the field of the packet that a term names, where it is a name alone
abbrev pub field_of : NamedTerm → Option Field
field_of (term.Name name) = packet_field name
field_of other = None

abbrev pub number_of : Literal → Option ℕ
number_of (literal.Number number) = Some number
number_of (literal.Interface name) = None

abbrev pub masked_test : Option Field → Option ℕ → Option ℕ → Option FieldTest
masked_test (Some f) (Some value) (Some wildcard) = Some (test_of.Masked f value wildcard)
masked_test f value wildcard = None

abbrev pub range_test : Option Field → Option ℕ → Option ℕ → Option FieldTest
range_test (Some f) (Some lo) (Some hi) = Some (test_of.Range f lo hi)
range_test f lo hi = None

-- the test that a formula is
abbrev pub read_test : Named → Option FieldTest
read_test (named.Masked t value wildcard) = masked_test (field_of t) (number_of value) (number_of wildcard)
read_test (named.Range t lo hi) = range_test (field_of t) (number_of lo) (number_of hi)
read_test other = None

abbrev pub one_more : Option FieldTest → Option (List FieldTest) → Option (List FieldTest)
one_more (Some test) (Some tests) = Some (test ∷ tests)
one_more test tests = None

-- the tests that formulas are
abbrev pub read_tests : List Named → Option (List FieldTest)
read_tests [] = Some []
read_tests (part ∷ parts) = one_more (read_test part) (read_tests parts)
