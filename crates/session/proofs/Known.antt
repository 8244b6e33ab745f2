-- An EXPLORE whose policies are known, and which asks of a list, asks of one that is loaded.
use Rattle.std.proofs.Common.{◌≡◌, ℕ, List, [], ◌∷◌, Option, Some, None, codes, refl, sym, ap, map, ◌∙◌}
use Rattle.std.specs.List.{AllByRecursion, flat_map}
use Rattle.std.specs.Option.{option_map, option_or}
use Rattle.ios_acl.specs.declared.entry.Verdict.{Verdict}
use Rattle.ios_acl.specs.declared.entry.Verdict.TheVariants as verdict
use Rattle.ios_acl.specs.List.{AccessList}
use Rattle.query_lang.specs.declared.formula.Named.{Named}
use Rattle.query_lang.specs.declared.formula.Named.TheOpen.{Named-F}
use Rattle.query_lang.specs.declared.formula.Named.TheFolds.{fold-roll-Named}
use Rattle.query_lang.specs.declared.formula.Named.TheVariants as named
use Rattle.query_lang.specs.declared.term.Arg.TheVariants as arg
use Rattle.query_lang.specs.declared.script.Explore.{Explore}
use Rattle.frame.specs.Question.{IsOfPacket}
use Rattle.list_questions.specs.declared.field_test.FieldTest.{FieldTest}
use Rattle.list_questions.specs.declared.question.ListQuestion.{ListQuestion}
use Rattle.list_questions.specs.Mentions.{PolicyAtom, mentions, mentions_step}
use Rattle.list_questions.specs.Questions.{AreTests, Asks, IsAsked, IsTest, decided, masked, range, verdict_word}
use Rattle.list_questions.specs.Ranges.{test_of}
use Rattle.list_questions.proofs.MentionEquations.{mentions_and}
use Rattle.session.specs.declared.ended.Reason.{Reason}
use Rattle.session.specs.Library.{Loaded, list_of}
use Rattle.session.specs.Policies.{PolicyNames, atom_fault, decision_fault, explore_fault, first_fault, list_names}

or_none : {A : Type 0} (found : Option A) → option_or found None ≡ found
or_none (Some one) = refl
or_none None = refl

first_known : (one other : Option Reason) → option_or one other ≡ None → one ≡ None
first_known None other known = refl
first_known (Some why) other known = absurd cc

-- the list that the atom names
list_known : (found : Option AccessList) (word : List ℕ) → decision_fault (option_map list_names found) word ≡ None → (list : AccessList) × (found ≡ Some list)
list_known None word known = absurd cc
list_known (Some list) word known = (list, refl)

-- what a question about a list asks of it
abbrev policy_atom : List ℕ → List ℕ → Verdict → PolicyAtom
policy_atom router list v = record { path = record { parts = router ∷ codes "acl" ∷ list ∷ [] }; word = verdict_word v }

decided_fault : (library : List Loaded) (router list : List ℕ) (v : Verdict) → atom_fault library (policy_atom router list v) ≡ decision_fault (option_map list_names (list_of library router list)) (verdict_word v)
decided_fault library router list verdict.Permit = ap (λ (policy : Option PolicyNames). decision_fault policy (codes "permit")) (or_none (option_map list_names (list_of library router list)))
decided_fault library router list verdict.Deny = ap (λ (policy : Option PolicyNames). decision_fault policy (codes "deny")) (or_none (option_map list_names (list_of library router list)))

decided_known : (library : List Loaded) (router list : List ℕ) (v : Verdict) (others : List PolicyAtom) → first_fault library (policy_atom router list v ∷ others) ≡ None → (found : AccessList) × (list_of library router list ≡ Some found)
decided_known library router list v others known =
    list_known (list_of library router list) (verdict_word v) (sym (decided_fault library router list v) ∙ first_known (atom_fault library (policy_atom router list v)) (first_fault library others) known)

decided_mentions : (router list : List ℕ) (v : Verdict) → mentions (decided router list v) ≡ policy_atom router list v ∷ []
decided_mentions router list v =
    ap mentions (sym (named.rolls-AtPath _ _ _)) ∙ fold-roll-Named (List PolicyAtom) mentions_step (Named-F.AtPath (record { parts = router ∷ codes "acl" ∷ list ∷ [] }) (verdict_word v) (arg.Req ∷ []))

asks_known : (library : List Loaded) (formula : Named) (question : ListQuestion) → Asks formula question → first_fault library (mentions formula) ≡ None → (found : AccessList) × (list_of library question.router question.list ≡ Some found)
asks_known library _ _ (Asks.alone router list v) known = decided_known library router list v [] (rw (decided_mentions router list v) at known)
asks_known library _ _ (Asks.tested router list v parts test tests are) known =
    decided_known library router list v (flat_map mentions parts) (rw (mentions_and (decided router list v ∷ parts), decided_mentions router list v) at known)

pub asked_is_found : (library : List Loaded) (explore : Explore) (question : ListQuestion) → explore_fault library explore ≡ None → IsAsked explore question → (found : AccessList) × (list_of library question.router question.list ≡ Some found)
asked_is_found library explore question known is_asked = asks_known library explore.formula question is_asked.asks (first_known (first_fault library (mentions explore.formula)) _ known)

test_of_packet : (part : Named) (test : FieldTest) → IsTest part test → IsOfPacket (test_of test)
test_of_packet _ _ (masked name f value wildcard named) = named.of_packet
test_of_packet _ _ (range name f lo hi named) = named.of_packet

tests_of_packet : (parts : List Named) (tests : List FieldTest) → AreTests parts tests → AllByRecursion IsOfPacket (map test_of tests)
tests_of_packet [] [] are = tt
tests_of_packet [] (test ∷ tests) are = absurd are
tests_of_packet (part ∷ parts) [] are = absurd are
tests_of_packet (part ∷ parts) (test ∷ tests) are = (test_of_packet part test are.0, tests_of_packet parts tests are.1)

asks_of_packet : (formula : Named) (question : ListQuestion) → Asks formula question → AllByRecursion IsOfPacket (map test_of question.tests)
asks_of_packet _ _ (Asks.alone router list v) = tt
asks_of_packet _ _ (Asks.tested router list v parts test tests are) = tests_of_packet parts (test ∷ tests) are

-- its tests are of fields of the packet that comes in
pub asked_of_packet : (explore : Explore) (question : ListQuestion) → IsAsked explore question → AllByRecursion IsOfPacket (map test_of question.tests)
asked_of_packet explore question is_asked = asks_of_packet explore.formula question is_asked.asks
