use Rattle.std.proofs.Common.{◌≡◌, ◌∷◌, [], false, true, sym, ◌∙◌, rules}
use Rattle.std.proofs.lemmas.List.{nil_from_length}
use Rattle.ios_lex.specs.declared.reason.IosReason.TheVariants as ios
use Rattle.ios_lex.specs.Refusal.{is_among}
use Rattle.ios_lists.specs.Rules.{rule_words, unmodelled_words, IsNoRule}
use Rattle.ios_lists.specs.Rules as rule
use Rattle.ios_lists.proofs.AclFaults.{fault_for}
use Rattle.ios_lists.proofs.rules.check_rule.Goals as goal

pub returns-in_default-clause-refused : goal.returns-in_default-clause-refused
returns-in_default-clause-refused c =
    let none : c.args.words.now ≡ [] = nil_from_length c.args.words.now c.in_default.ensures.cases in
    rw none rule.none

pub returns-then-is_not_modelled-clause-refused : goal.returns-then-is_not_modelled-clause-refused
returns-then-is_not_modelled-clause-refused c =
    let whole : c.args.words.now ≡ c.in-Some.first.now ∷ c.in-Some.field-0-1.now = search rules in
    let among : is_among unmodelled_words c.in-Some.first.now ≡ true = sym c.is_not_modelled.ensures ∙ c.if-is_not_modelled.true in
    fault_for (IsNoRule c.args.words.now) (ios.Unmodelled c.in-Some.first.now) c.unmodelled.result (rw whole (rule.not_modelled c.in-Some.first.now c.in-Some.field-0-1.now among)) c.unmodelled.ensures

pub returns-else-is_rule_word-clause-refused : goal.returns-else-is_rule_word-clause-refused
returns-else-is_rule_word-clause-refused c =
    let whole : c.args.words.now ≡ c.in-Some.first.now ∷ c.in-Some.field-0-1.now = search rules in
    let modelled : is_among unmodelled_words c.in-Some.first.now ≡ false = sym c.is_not_modelled.ensures ∙ c.if-is_not_modelled.false in
    let no_rule_word : is_among rule_words c.in-Some.first.now ≡ false = sym c.is_rule_word.ensures ∙ c.if-is_rule_word.false in
    rw whole (rule.other c.in-Some.first.now c.in-Some.field-0-1.now modelled no_rule_word)
