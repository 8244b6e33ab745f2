-- A line of a numbered list has one reading or one refusal.
use Rattle.std.proofs.Common.{◌≡◌, ℕ, inl, inr, Bool, true, false, List, [], ◌∷◌, Ok, Err, codes, refl, ap, arith}
use Rattle.std.proofs.lemmas.Bool.Decides.{nat_tests}
use Rattle.ios_lex.specs.declared.reason.IosReason.{IosReason}
use Rattle.ios_lex.specs.declared.reason.IosReason.TheVariants as ios
use Rattle.ios_lex.specs.Phrases.{Words}
use Rattle.ios_lex.specs.Refusal.{is_among}
use Rattle.ios_lex.specs.ListNames.{has_kind, is_standard, is_extended, is_foreign}
use Rattle.ios_lex.proofs.DecimalTexts.{decimal_is_one}
use Rattle.ios_lex.proofs.Among.{among_cases}
use Rattle.ios_acl.specs.List.{AccessList}
use Rattle.ios_acl.proofs.OneReading.{no_refused_reading, lists_are_one, reasons_are_one}
use Rattle.ios_lex.specs.declared.taken.Taken.{Taken}
use Rattle.ios_lex.specs.declared.taken.Taken.TheVariants as taken
use Rattle.ios_lists.specs.Lists.{list_named, with_list}
use Rattle.ios_lists.specs.Numbered.{ReadsNumbered, IsNumberedRefused}
use Rattle.ios_lists.specs.Rules.{rule_words, unmodelled_words, BeginsRule, IsNoRule}
use Rattle.ios_lists.specs.Rules as rule
use Rattle.ios_lists.proofs.NumberedOutcomes.{Outcome, RuleOutcome, KindOutcome, foreign_outcome, NumberOutcome, NumberedOutcome}

-- no word that begins a rule is one that is not modelled
rule_is_modelled : (word : List ℕ) → is_among rule_words word ≡ true → is_among unmodelled_words word ≡ true → ⊥
rule_is_modelled word rule other =
    elim (among_cases (codes "permit") (codes "deny" ∷ codes "remark" ∷ []) word rule) [
      | inl same ↦ absurd (cc (rw same at other))
      | inr later ↦ elim (among_cases (codes "deny") (codes "remark" ∷ []) word later) [
        | inl same ↦ absurd (cc (rw same at other))
        | inr last ↦ elim (among_cases (codes "remark") [] word last) [
          | inl same ↦ absurd (cc (rw same at other))
          | inr never ↦ absurd (cc never)
        ]
      ]
    ]

pub not_true_and_false : (b : Bool) → b ≡ true → b ≡ false → ⊥
not_true_and_false b is_true is_false = cc

no_rule_is_one : (words : Words) (why other : IosReason) → IsNoRule words why → IsNoRule words other → why ≡ other
no_rule_is_one words why other rule.none rule.none = refl
no_rule_is_one words why other (rule.not_modelled first rest among) (rule.not_modelled first' rest' among') = refl
no_rule_is_one words why other (rule.not_modelled first rest among) (rule.other first' rest' modelled not_rule) = absurd (not_true_and_false _ among modelled)
no_rule_is_one words why other (rule.other first rest modelled not_rule) (rule.not_modelled first' rest' among) = absurd (not_true_and_false _ among modelled)
no_rule_is_one words why other (rule.other first rest modelled not_rule) (rule.other first' rest' modelled' not_rule') = refl

no_rule_begins : (words : Words) (why : IosReason) → IsNoRule words why → BeginsRule words → ⊥
no_rule_begins words why rule.none begins = absurd (cc begins.whole)
no_rule_begins words why (rule.not_modelled first rest among) begins =
    let same : first ≡ begins.first = cc begins.whole in
    rule_is_modelled begins.first begins.among (rw same at among)
no_rule_begins words why (rule.other first rest modelled not_rule) begins =
    let same : first ≡ begins.first = cc begins.whole in
    not_true_and_false (is_among rule_words begins.first) begins.among (rw same at not_rule)

rule_is_one : (of : AccessList) (lists : List AccessList) (words : Words) (o p : Outcome) → RuleOutcome of lists words o → RuleOutcome of lists words p → o ≡ p
rule_is_one of lists words o p (RuleOutcome.no_rule why bad) (RuleOutcome.no_rule other bad') = ap Err (no_rule_is_one words why other bad bad')
rule_is_one of lists words o p (RuleOutcome.no_rule why bad) (RuleOutcome.read made begins reads) = absurd (no_rule_begins words why bad begins)
rule_is_one of lists words o p (RuleOutcome.no_rule why bad) (RuleOutcome.refused other begins refused) = absurd (no_rule_begins words why bad begins)
rule_is_one of lists words o p (RuleOutcome.read made begins reads) (RuleOutcome.no_rule why bad) = absurd (no_rule_begins words why bad begins)
rule_is_one of lists words o p (RuleOutcome.read made begins reads) (RuleOutcome.read made' begins' reads') =
    ap (λ (new : AccessList). Ok (with_list lists new, taken.Modelled)) (lists_are_one of made made' words reads reads')
rule_is_one of lists words o p (RuleOutcome.read made begins reads) (RuleOutcome.refused why begins' refused) = absurd (no_refused_reading of made words why reads refused)
rule_is_one of lists words o p (RuleOutcome.refused why begins refused) (RuleOutcome.no_rule other bad) = absurd (no_rule_begins words other bad begins)
rule_is_one of lists words o p (RuleOutcome.refused why begins refused) (RuleOutcome.read made begins' reads) = absurd (no_refused_reading of made words why reads refused)
rule_is_one of lists words o p (RuleOutcome.refused why begins refused) (RuleOutcome.refused other begins' refused') = ap Err (reasons_are_one of words why other refused refused')

kind_is_one : (lists : List AccessList) (name : List ℕ) (extended : Bool) (words : Words) (o p : Outcome) → KindOutcome lists name extended words o → KindOutcome lists name extended words p → o ≡ p
kind_is_one lists name extended words o p (KindOutcome.begun other) (KindOutcome.begun other') = refl
kind_is_one lists name extended words o p (KindOutcome.begun other) (KindOutcome.fits p' fit comes) = absurd (fit other)
kind_is_one lists name extended words o p (KindOutcome.fits o' fit comes) (KindOutcome.begun other) = absurd (fit other)
kind_is_one lists name extended words o p (KindOutcome.fits o' fit comes) (KindOutcome.fits p' fit' comes') = rule_is_one (list_named lists name extended) lists words o p comes comes'

kinds_apart : (n : ℕ) → is_standard n ≡ true → is_extended n ≡ true → ⊥
kinds_apart n standard extended = absurd (grind (arith, nat_tests))

foreign_apart : (n : ℕ) → is_foreign n ≡ true → (is_standard n ≡ false) × (is_extended n ≡ false)
foreign_apart n foreign = (grind (arith, nat_tests), grind (arith, nat_tests))

one_kind : (n : ℕ) (extended other : Bool) → has_kind extended n ≡ true → has_kind other n ≡ true → extended ≡ other
one_kind n true true is is' = refl
one_kind n true false is is' = absurd (kinds_apart n is' is)
one_kind n false true is is' = absurd (kinds_apart n is is')
one_kind n false false is is' = refl

no_kind_of : (n : ℕ) (extended : Bool) → has_kind extended n ≡ true → is_standard n ≡ false → is_extended n ≡ false → ⊥
no_kind_of n true is not_standard not_extended = not_true_and_false _ is not_extended
no_kind_of n false is not_standard not_extended = not_true_and_false _ is not_standard

number_is_one : (lists : List AccessList) (name : List ℕ) (n : ℕ) (words : Words) (o p : Outcome) → NumberOutcome lists name n words o → NumberOutcome lists name n words p → o ≡ p
number_is_one lists name n words o p (NumberOutcome.no_kind standard extended) (NumberOutcome.no_kind standard' extended') = refl
number_is_one lists name n words o p (NumberOutcome.no_kind not_standard not_extended) (NumberOutcome.kind extended p' is comes) = absurd (no_kind_of n extended is not_standard not_extended)
number_is_one lists name n words o p (NumberOutcome.kind extended o' is comes) (NumberOutcome.no_kind not_standard not_extended) = absurd (no_kind_of n extended is not_standard not_extended)
number_is_one lists name n words o p (NumberOutcome.kind extended o' is comes) (NumberOutcome.kind other p' is' comes') =
    kind_is_one lists name extended words o p comes (rw (one_kind n extended other is is') comes')

numbered_is_one : (lists : List AccessList) (words : Words) (o p : Outcome) → NumberedOutcome lists words o → NumberedOutcome lists words p → o ≡ p
numbered_is_one lists words o p NumberedOutcome.short NumberedOutcome.short = refl
numbered_is_one lists words o p (NumberedOutcome.unnumbered name rule none) (NumberedOutcome.unnumbered name' rule' none') = refl
numbered_is_one lists words o p (NumberedOutcome.unnumbered name rule none) (NumberedOutcome.number name' rule' n p' is comes) = absurd (none n is)
numbered_is_one lists words o p (NumberedOutcome.number name rule n o' is comes) (NumberedOutcome.unnumbered name' rule' none) = absurd (none n is)
numbered_is_one lists words o p (NumberedOutcome.number name rule n o' is comes) (NumberedOutcome.number name' rule' m p' is' comes') =
    number_is_one lists name n rule o p comes (rw (decimal_is_one 10 name n m is is') comes')

read_outcome : (lists : List AccessList) (words : Words) (new : List AccessList) (answer : Taken) → ReadsNumbered lists words new answer → NumberedOutcome lists words (Ok (new, answer))
read_outcome lists words new answer (ReadsNumbered.modelled name extended rule whole numbered begins reads) =
    rw (whole, reads.put)
    (let outcome : Outcome = Ok (with_list lists reads.made, taken.Modelled) in
    NumberedOutcome.number name rule numbered.n outcome numbered.number
    (NumberOutcome.kind extended outcome numbered.kind (KindOutcome.fits outcome numbered.fits (RuleOutcome.read reads.made begins reads.reads))))
read_outcome lists words new answer (ReadsNumbered.foreign name n rest whole number foreign same) =
    let apart = foreign_apart n foreign in
    let comes : NumberOutcome lists name n rest (foreign_outcome lists (is_foreign n)) = NumberOutcome.no_kind apart.0 apart.1 in
    rw (whole, same) (NumberedOutcome.number name rest n (Ok (lists, taken.Ignored)) number (rw foreign at comes))

refused_outcome : (lists : List AccessList) (words : Words) (why : IosReason) → IsNumberedRefused lists words why → NumberedOutcome lists words (Err why)
refused_outcome lists words why IsNumberedRefused.short = NumberedOutcome.short
refused_outcome lists words why (IsNumberedRefused.number name rule none) = NumberedOutcome.unnumbered name rule none
refused_outcome lists words why (IsNumberedRefused.kind name n rule number standard extended foreign) =
    let comes : NumberOutcome lists name n rule (foreign_outcome lists (is_foreign n)) = NumberOutcome.no_kind standard extended in
    NumberedOutcome.number name rule n (Err ios.WrongKind) number (rw foreign at comes)
refused_outcome lists words why (IsNumberedRefused.begun name n extended rule number kind other) =
    NumberedOutcome.number name rule n (Err ios.WrongKind) number (NumberOutcome.kind extended (Err ios.WrongKind) kind (KindOutcome.begun other))
refused_outcome lists words why (IsNumberedRefused.no_rule name extended rule why' numbered bad) =
    NumberedOutcome.number name rule numbered.n (Err why) numbered.number
    (NumberOutcome.kind extended (Err why) numbered.kind (KindOutcome.fits (Err why) numbered.fits (RuleOutcome.no_rule why' bad)))
refused_outcome lists words why (IsNumberedRefused.rule name extended rule why' numbered begins refused) =
    NumberedOutcome.number name rule numbered.n (Err why) numbered.number
    (NumberOutcome.kind extended (Err why) numbered.kind (KindOutcome.fits (Err why) numbered.fits (RuleOutcome.refused why' begins refused)))

pub numbered_same : (lists : List AccessList) (words : Words) (made other : List AccessList × Taken) → ReadsNumbered lists words made.0 made.1 → ReadsNumbered lists words other.0 other.1 → made ≡ other
numbered_same lists words made other first second =
    let same = numbered_is_one lists words (Ok (made.0, made.1)) (Ok (other.0, other.1)) (read_outcome lists words made.0 made.1 first) (read_outcome lists words other.0 other.1 second) in
    cc same

pub numbered_reason : (lists : List AccessList) (words : Words) (why other : IosReason) → IsNumberedRefused lists words why → IsNumberedRefused lists words other → why ≡ other
numbered_reason lists words why other first second =
    let same = numbered_is_one lists words (Err why) (Err other) (refused_outcome lists words why first) (refused_outcome lists words other second) in
    cc same

pub numbered_not_both : (lists : List AccessList) (words : Words) (made : List AccessList × Taken) (why : IosReason) → ReadsNumbered lists words made.0 made.1 → IsNumberedRefused lists words why → ⊥
numbered_not_both lists words made why reads refused =
    let same = numbered_is_one lists words (Ok (made.0, made.1)) (Err why) (read_outcome lists words made.0 made.1 reads) (refused_outcome lists words why refused) in
    absurd (cc same)
