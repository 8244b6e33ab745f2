use Rattle.std.proofs.Common.{◌≡◌, ◌∷◌, [], true, false, refl, sym, ◌∙◌, rules}
use Rattle.std.proofs.lemmas.Bool.{false≢true}
use Rattle.std.proofs.lemmas.List.{nil_from_length}
use Rattle.ios_lex.specs.ListNames.{is_foreign}
use Rattle.ios_lists.specs.Lists.{FitsLists}
use Rattle.ios_lists.specs.Numbered.{ReadsNumbered, IsNumberedRefused}
use Rattle.ios_lists.proofs.NumberedLines.{no_rule_fails, rule_fails}
use Rattle.ios_lists.proofs.lists.Lists.take_numbered.Goals as goal

pub returns-in_default-clause-refused : goal.returns-in_default-clause-refused
returns-in_default-clause-refused c =
    let none : c.args.words.now ≡ [] = nil_from_length c.args.words.now c.in_default.ensures.cases in
    rw none IsNumberedRefused.short

pub returns-in_default-list_number-clause-refused : goal.returns-in_default-list_number-clause-refused
returns-in_default-list_number-clause-refused c =
    let whole : c.args.words.now ≡ c.in-Some.name.now ∷ c.in-Some.rule.now = search rules in
    rw whole (IsNumberedRefused.number c.in-Some.name.now c.in-Some.rule.now (rw c.bytes.ensures at c.in_default-list_number.ensures.none))

pub returns-then-is_foreign-clause-read : goal.returns-then-is_foreign-clause-read
returns-then-is_foreign-clause-read c =
    let whole : c.args.words.now ≡ c.in-Some.name.now ∷ c.in-Some.rule.now = search rules in
    let foreign : is_foreign c.in-Some-list_number.n ≡ true = sym c.is_foreign.ensures ∙ c.if-is_foreign.true in
    ReadsNumbered.foreign c.in-Some.name.now c.in-Some-list_number.n c.in-Some.rule.now whole (rw c.bytes.ensures at c.in-Some-list_number.ensures.found) foreign refl

pub returns-in_default-kind_of-clause-refused : goal.returns-in_default-kind_of-clause-refused
returns-in_default-kind_of-clause-refused c =
    let whole : c.args.words.now ≡ c.in-Some.name.now ∷ c.in-Some.rule.now = search rules in
    let not_foreign : is_foreign c.in-Some-list_number.n ≡ false = sym c.is_foreign.ensures ∙ c.if-is_foreign.false in
    rw whole
    (IsNumberedRefused.kind c.in-Some.name.now c.in-Some-list_number.n c.in-Some.rule.now (rw c.bytes.ensures at c.in-Some-list_number.ensures.found)
    c.in_default-kind_of.ensures.none.0 c.in_default-kind_of.ensures.none.1 not_foreign)

pub returns-then-is_other_kind-clause-refused : goal.returns-then-is_other_kind-clause-refused
returns-then-is_other_kind-clause-refused c =
    let whole : c.args.words.now ≡ c.in-Some.name.now ∷ c.in-Some.rule.now = search rules in
    rw whole
    (IsNumberedRefused.begun c.in-Some.name.now c.in-Some-list_number.n c.in-Some-kind_of.extended c.in-Some.rule.now (rw c.bytes.ensures at c.in-Some-list_number.ensures.found)
    c.in-Some-kind_of.ensures.found (c.if-is_other_kind.ensures.0 refl))

pub add_rule-requires : goal.add_rule-requires
add_rule-requires c = λ other. false≢true (c.if-is_other_kind.ensures.1 other)

pub returns-in-Err-clause-refused : goal.returns-in-Err-clause-refused
returns-in-Err-clause-refused c =
    let whole : c.args.words.now ≡ c.in-Some.name.now ∷ c.in-Some.rule.now = search rules in
    let fits : FitsLists c.args.self.now c.in-Some.name.now c.in-Some-kind_of.extended = λ other. false≢true (c.if-is_other_kind.ensures.1 other) in
    no_rule_fails c.args.self.now c.in-Some.name.now c.in-Some-kind_of.extended c.in-Some.rule.now c.args.words.now c.in-Err.fault whole
    (record { n = c.in-Some-list_number.n; number = rw c.bytes.ensures at c.in-Some-list_number.ensures.found; kind = c.in-Some-kind_of.ensures.found; fits = fits })
    c.in-Err.ensures.refused

pub returns-in-Ok-clause-read : goal.returns-in-Ok-clause-read
returns-in-Ok-clause-read c =
    let whole : c.args.words.now ≡ c.in-Some.name.now ∷ c.in-Some.rule.now = search rules in
    let fits : FitsLists c.args.self.now c.in-Some.name.now c.in-Some-kind_of.extended = λ other. false≢true (c.if-is_other_kind.ensures.1 other) in
    ReadsNumbered.modelled c.in-Some.name.now c.in-Some-kind_of.extended c.in-Some.rule.now whole
    (record { n = c.in-Some-list_number.n; number = rw c.bytes.ensures at c.in-Some-list_number.ensures.found; kind = c.in-Some-kind_of.ensures.found; fits = fits })
    c.in_default-check_rule.ensures.begins c.in-Ok.ensures.read

pub returns-in-Err-add_rule-clause-refused : goal.returns-in-Err-add_rule-clause-refused
returns-in-Err-add_rule-clause-refused c =
    let whole : c.args.words.now ≡ c.in-Some.name.now ∷ c.in-Some.rule.now = search rules in
    let fits : FitsLists c.args.self.now c.in-Some.name.now c.in-Some-kind_of.extended = λ other. false≢true (c.if-is_other_kind.ensures.1 other) in
    rule_fails c.args.self.now c.in-Some.name.now c.in-Some-kind_of.extended c.in-Some.rule.now c.args.words.now c.in-Err-add_rule.fault whole
    (record { n = c.in-Some-list_number.n; number = rw c.bytes.ensures at c.in-Some-list_number.ensures.found; kind = c.in-Some-kind_of.ensures.found; fits = fits })
    c.in_default-check_rule.ensures.begins c.in-Err-add_rule.ensures.refused
