-- Which formulas ask what one access list decides of the packet that comes in.
use Rattle.std.specs.Prelude.{◌≡◌, ℕ, List, [], ◌∷◌, codes}
use Rattle.std.specs.List.{AllZip}
use Rattle.ios_acl.specs.declared.entry.Verdict.{Verdict}
use Rattle.ios_acl.specs.declared.entry.Verdict.TheVariants as verdict
use Rattle.sorted_logic.specs.declared.request.Field.{Field}
use Rattle.sorted_logic.specs.Field.{IsNamed}
use Rattle.query_lang.specs.declared.formula.Named.{Named}
use Rattle.query_lang.specs.declared.formula.Named.TheVariants as named
use Rattle.query_lang.specs.declared.literal.Literal.TheVariants as literal
use Rattle.query_lang.specs.declared.script.Explore.{Explore}
use Rattle.query_lang.specs.declared.term.Arg.TheVariants as arg
use Rattle.query_lang.specs.declared.term.NamedTerm.TheVariants as term
use Rattle.list_questions.specs.declared.field_test.FieldTest.{FieldTest}
use Rattle.list_questions.specs.declared.field_test.FieldTest.TheVariants as test_of
use Rattle.list_questions.specs.declared.question.ListQuestion.{ListQuestion}

-- the formula tests a field of the packet: `F IN v w`, or `F IN lo TO hi`
pub data IsTest : Named → FieldTest → Type 0 where
  masked : (name : List ℕ) (f : Field) (value wildcard : ℕ) → IsNamed name f
      → IsTest (named.Masked (term.Name name) (literal.Number value) (literal.Number wildcard)) (test_of.Masked f value wildcard)
  range : (name : List ℕ) (f : Field) (lo hi : ℕ) → IsNamed name f
      → IsTest (named.Range (term.Name name) (literal.Number lo) (literal.Number hi)) (test_of.Range f lo hi)

abbrev pub AreTests : List Named → List FieldTest → Type 0
AreTests = AllZip IsTest

abbrev pub verdict_word : Verdict → List ℕ
verdict_word verdict.Permit = codes "permit"
verdict_word verdict.Deny = codes "deny"

-- `router.acl.list:permit(<req>)`, or with `deny`
abbrev pub decided : List ℕ → List ℕ → Verdict → Named
decided router list verdict = named.AtPath (record { parts = router ∷ codes "acl" ∷ list ∷ [] }) (verdict_word verdict) (arg.Req ∷ [])

-- the formula asks for the requests that the list decides so: for all of them, or for those that pass tests
pub data Asks : Named → ListQuestion → Type 0 where
  alone : (router list : List ℕ) (verdict : Verdict)
      → Asks (decided router list verdict) (record { router = router; list = list; verdict = verdict; tests = [] })
  tested : (router list : List ℕ) (verdict : Verdict) (parts : List Named) (test : FieldTest) (tests : List FieldTest) → AreTests parts (test ∷ tests)
      → Asks (named.And (decided router list verdict ∷ parts)) (record { router = router; list = list; verdict = verdict; tests = test ∷ tests })

-- an EXPLORE asks so with no variables, under nothing and with nothing shown beside
pub record IsAsked (explore : Explore) (question : ListQuestion) : Type 0 where
  pub vars : explore.vars ≡ []
  pub under : explore.under ≡ []
  pub include : explore.include ≡ []
  pub asks : Asks explore.formula question

-- an EXPLORE asks no such question
abbrev pub AsksNone : Explore → Type 0
AsksNone explore = (question : ListQuestion) → IsAsked explore question → ⊥
