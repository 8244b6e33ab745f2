-- A formula asks one question about a list at most, and it shows which.
use Rattle.std.proofs.Common.{◌≡◌, ℕ, suc, length, List, [], ◌∷◌, Option, Some, None, ◌⊎◌, inl, inr, ⊎_elim, sym, ap, ◌∙◌, refl, subst, codes}
use Rattle.ios_acl.specs.declared.entry.Verdict.{Verdict}
use Rattle.ios_acl.specs.declared.entry.Verdict.TheVariants as verdict
use Rattle.query_lang.specs.declared.formula.Named.{Named, out-Named, out-roll-Named}
use Rattle.query_lang.specs.declared.formula.Named.TheOpen.{Named-F}
use Rattle.query_lang.specs.declared.formula.Named.TheVariants as named
use Rattle.query_lang.specs.declared.literal.Path.{Path}
use Rattle.list_questions.specs.declared.field_test.FieldTest.{FieldTest}
use Rattle.list_questions.specs.declared.question.ListQuestion.{ListQuestion}
use Rattle.list_questions.specs.Questions.{AreTests, Asks, decided, verdict_word}
use Rattle.list_questions.specs.Shapes.{IsNoAtom, read_tests}
use Rattle.list_questions.proofs.TestShapes.{one_list, read_are_tests, tests_are_read}

-- it is this question without tests
pub record IsAlone (formula : Named) (question : ListQuestion) : Type 0 where
  pub is : formula ≡ decided question.router question.list question.verdict
  pub tests : question.tests ≡ []

-- it is this question with tests
pub record IsTested (formula : Named) (question : ListQuestion) : Type 0 where
  pub parts : List Named
  pub is : formula ≡ named.And (decided question.router question.list question.verdict ∷ parts)
  pub are : AreTests parts question.tests
  pub some : question.tests ≡ [] → ⊥

pub alone_or_tested : (formula : Named) (question : ListQuestion) → Asks formula question → IsAlone formula question ⊎ IsTested formula question
alone_or_tested _ _ (Asks.alone router list v) = inl (record { is = refl; tests = refl })
alone_or_tested _ _ (Asks.tested router list v parts test tests are) = inr (record { parts = parts; is = refl; are = are; some = λ e. absurd cc })

pub asks_alone : (formula : Named) (question : ListQuestion) → IsAlone formula question → Asks formula question
asks_alone formula question is =
    let e : record { router = question.router; list = question.list; verdict = question.verdict; tests = [] } ≡ question = ap (λ (ts : List FieldTest). let q : ListQuestion = record { router = question.router; list = question.list; verdict = question.verdict; tests = ts } in q) (sym is.tests) in
    let a = subst (Asks (decided question.router question.list question.verdict)) e (Asks.alone question.router question.list question.verdict) in
    subst (λ (f : Named). Asks f question) (sym is.is) a

tested_with : (router list : List ℕ) (v : Verdict) (parts : List Named) (tests : List FieldTest) → AreTests parts tests → (tests ≡ [] → ⊥)
    → Asks (named.And (decided router list v ∷ parts)) (record { router = router; list = list; verdict = v; tests = tests })
tested_with router list v parts [] are some = absurd (some refl)
tested_with router list v parts (test ∷ tests) are some = Asks.tested router list v parts test tests are

pub asks_tested : (formula : Named) (question : ListQuestion) → IsTested formula question → Asks formula question
asks_tested formula question is =
    subst (λ (f : Named). Asks f question) (sym is.is) (tested_with question.router question.list question.verdict is.parts question.tests is.are is.some)

pub and_is_no_atom : (parts : List Named) (router list : List ℕ) (v : Verdict) → named.And parts ≡ decided router list v → ⊥
and_is_no_atom parts router list v e = cc

layer : (parts : List Named) → out-Named (named.And parts) ≡ Named-F.And parts
layer parts = ap out-Named (sym (named.rolls-And parts)) ∙ out-roll-Named (Named-F.And parts)

pub same_parts : (parts others : List Named) → named.And parts ≡ named.And others → parts ≡ others
same_parts parts others e =
    let h : Named-F.And parts ≡ Named-F.And others = sym (layer parts) ∙ ap out-Named e ∙ layer others in
    cc

verdict_of_word : (v w : Verdict) → verdict_word v ≡ verdict_word w → v ≡ w
verdict_of_word verdict.Permit verdict.Permit e = refl
verdict_of_word verdict.Permit verdict.Deny e = absurd cc
verdict_of_word verdict.Deny verdict.Permit e = absurd cc
verdict_of_word verdict.Deny verdict.Deny e = refl

abbrev made : List ℕ → List ℕ → Verdict → List FieldTest → ListQuestion
made router list v tests = record { router = router; list = list; verdict = v; tests = tests }

-- a question is what its parts are
same_records : (question other : ListQuestion) → question.router ≡ other.router → question.list ≡ other.list → question.verdict ≡ other.verdict → question.tests ≡ other.tests → question ≡ other
same_records question other router list v tests =
    ap (λ (r : List ℕ). made r question.list question.verdict question.tests) router
    ∙ ap (λ (l : List ℕ). made other.router l question.verdict question.tests) list
    ∙ ap (λ (w : Verdict). made other.router other.list w question.tests) v
    ∙ ap (λ (ts : List FieldTest). made other.router other.list other.verdict ts) tests

abbrev path_to : List ℕ → List ℕ → Path
path_to router list = record { parts = router ∷ codes "acl" ∷ list ∷ [] }

-- what an atom is about
record IsSame (router list : List ℕ) (v : Verdict) (router' list' : List ℕ) (v' : Verdict) : Type 0 where
  router_is : router ≡ router'
  list_is : list ≡ list'
  verdict_is : v ≡ v'

same_atom : (router list : List ℕ) (v : Verdict) (router' list' : List ℕ) (v' : Verdict) → decided router list v ≡ decided router' list' v' → IsSame router list v router' list' v'
same_atom router list v router' list' v' e =
    let path : path_to router list ≡ path_to router' list' = cc in
    let parts : router ∷ codes "acl" ∷ list ∷ [] ≡ router' ∷ codes "acl" ∷ list' ∷ [] = ap (λ (p : Path). p.parts) path in
    record { router_is = cc; list_is = cc; verdict_is = verdict_of_word v v' cc }

both : (formula : Named) (question other : ListQuestion) → IsTested formula question → IsTested formula other → question ≡ other
both formula question other one two =
    let parts = same_parts _ _ (sym one.is ∙ two.is) in
    let first : decided question.router question.list question.verdict ≡ decided other.router other.list other.verdict = cc in
    let rest : one.parts ≡ two.parts = cc in
    let atom = same_atom _ _ _ _ _ _ first in
    same_records question other atom.router_is atom.list_is atom.verdict_is
    (one_list two.parts question.tests other.tests (subst (λ (p : List Named). AreTests p question.tests) rest one.are) two.are)

pub one_question : (formula : Named) (question other : ListQuestion) → Asks formula question → Asks formula other → question ≡ other
one_question formula question other asks asked =
    ⊎_elim (λ (one : IsAlone formula question). ⊎_elim
    (λ (two : IsAlone formula other).
    let atom = same_atom _ _ _ _ _ _ (sym one.is ∙ two.is) in
    same_records question other atom.router_is atom.list_is atom.verdict_is (one.tests ∙ sym two.tests))
    (λ (two : IsTested formula other). absurd (and_is_no_atom _ _ _ _ (sym two.is ∙ one.is)))
    (alone_or_tested formula other asked))
    (λ (one : IsTested formula question). ⊎_elim
    (λ (two : IsAlone formula other). absurd (and_is_no_atom _ _ _ _ (sym one.is ∙ two.is)))
    (λ (two : IsTested formula other). both formula question other one two)
    (alone_or_tested formula other asked))
    (alone_or_tested formula question asks)

-- the parts are an atom and tests
pub record IsJoined (parts : List Named) (question : ListQuestion) : Type 0 where
  pub rest : List Named
  pub is : parts ≡ decided question.router question.list question.verdict ∷ rest
  pub are : AreTests rest question.tests
  pub some : question.tests ≡ [] → ⊥

pub joined : (parts : List Named) (question : ListQuestion) → Asks (named.And parts) question → IsJoined parts question
joined parts question asks =
    ⊎_elim
    (λ (alone : IsAlone (named.And parts) question). absurd (and_is_no_atom _ _ _ _ alone.is))
    (λ (tested : IsTested (named.And parts) question). record { rest = tested.parts; is = same_parts _ _ tested.is; are = tested.are; some = tested.some })
    (alone_or_tested (named.And parts) question asks)

pub no_parts : (parts : List Named) (question : ListQuestion) → length parts ≡ 0 → Asks (named.And parts) question → ⊥
no_parts parts question e asks =
    let all = joined parts question asks in
    let some : length parts ≡ suc (length all.rest) = ap length all.is in
    cc

pub no_atom_first : (parts others : List Named) (first : Named) (question : ListQuestion) → parts ≡ first ∷ others
    → IsNoAtom first → Asks (named.And parts) question → ⊥
no_atom_first parts others first question e none asks =
    let all = joined parts question asks in
    let same : first ≡ decided question.router question.list question.verdict = cc in
    none question.router question.list question.verdict same

pub tests_behind : (parts others : List Named) (first : Named) (question : ListQuestion) → parts ≡ first ∷ others → Asks (named.And parts) question → read_tests others ≡ Some question.tests
tests_behind parts others first question e asks =
    let all = joined parts question asks in
    let same : all.rest ≡ others = cc in
    ap read_tests (sym same) ∙ tests_are_read all.rest question.tests all.are

pub no_tests_behind : (parts others : List Named) (first : Named) (question : ListQuestion) → parts ≡ first ∷ others → read_tests others ≡ None → Asks (named.And parts) question → ⊥
no_tests_behind parts others first question e none asks =
    let is = tests_behind parts others first question e asks in
    cc

pub nothing_behind : (parts others : List Named) (first : Named) (question : ListQuestion) → parts ≡ first ∷ others → read_tests others ≡ Some [] → Asks (named.And parts) question → ⊥
nothing_behind parts others first question e none asks =
    let is = tests_behind parts others first question e asks in
    let all = joined parts question asks in
    let empty : question.tests ≡ [] = cc in
    all.some empty

pub asks_joined : (parts others : List Named) (first : Named) (tests : List FieldTest) (question : ListQuestion) → parts ≡ first ∷ others
    → first ≡ decided question.router question.list question.verdict → read_tests others ≡ Some tests → (tests ≡ [] → ⊥) → question.tests ≡ tests → Asks (named.And parts) question
asks_joined parts others first tests question e atom are some same =
    asks_tested (named.And parts) question (record {
      parts = others;
      is = ap (λ (p : List Named). named.And p) (e ∙ ap (λ (f : Named). f ∷ others) atom);
      are = read_are_tests others question.tests (are ∙ ap (λ (ts : List FieldTest). let o : Option (List FieldTest) = Some ts in o) (sym same));
      some = λ none. some (sym same ∙ none);
    })

pub asks_no_shape : (formula : Named) (question : ListQuestion) → ((parts : List Named) → formula ≡ named.And parts → ⊥)
    → IsNoAtom formula → Asks formula question → ⊥
asks_no_shape formula question no_and no_atom asks =
    ⊎_elim
    (λ (alone : IsAlone formula question). no_atom question.router question.list question.verdict alone.is)
    (λ (tested : IsTested formula question). no_and _ tested.is)
    (alone_or_tested formula question asks)
