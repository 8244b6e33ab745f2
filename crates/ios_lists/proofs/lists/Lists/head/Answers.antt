use Rattle.std.proofs.Common.{◌≡◌, ◌∷◌, [], refl, sym, ◌∙◌, rules}
use Rattle.std.proofs.lemmas.Bool.{false≢true}
use Rattle.std.proofs.lemmas.List.{nil_from_length}
use Rattle.ios_lex.specs.declared.reason.IosReason.TheVariants as ios
use Rattle.ios_lists.specs.Heads.{IsBlockRefused}
use Rattle.ios_lists.proofs.AclFaults.{fault_for}
use Rattle.ios_lists.proofs.Heads.{more_words, no_more}
use Rattle.ios_lists.proofs.lists.Lists.head.Goals as goal

pub returns-in_default-clause-refused : goal.returns-in_default-clause-refused
returns-in_default-clause-refused c =
    let none : c.args.words.now ≡ [] = nil_from_length c.args.words.now c.in_default.ensures.cases in
    rw none IsBlockRefused.short

pub returns-in_default-kind-clause-refused : goal.returns-in_default-kind-clause-refused
returns-in_default-kind-clause-refused c =
    let whole : c.args.words.now ≡ c.in-Some.first.now ∷ c.in-Some.rest.now = search rules in
    fault_for (IsBlockRefused c.args.self.now c.args.words.now) (ios.Unmodelled c.in-Some.first.now) c.unmodelled.result
    (rw whole (IsBlockRefused.not_modelled c.in-Some.first.now c.in-Some.rest.now c.in_default-kind.ensures.none)) c.unmodelled.ensures

pub returns-in_default-split_first-clause-refused : goal.returns-in_default-split_first-clause-refused
returns-in_default-split_first-clause-refused c =
    let whole : c.args.words.now ≡ c.in-Some.first.now ∷ c.in-Some.rest.now = search rules in
    let none : c.in-Some.rest.now ≡ [] = nil_from_length c.in-Some.rest.now c.in_default-split_first.ensures.cases in
    rw (whole, c.in-Some-kind.ensures.found, none) (IsBlockRefused.nameless c.in-Some-kind.extended)

pub returns-then-is_number_of-clause-refused : goal.returns-then-is_number_of-clause-refused
returns-then-is_number_of-clause-refused c =
    let whole : c.args.words.now ≡ c.in-Some.first.now ∷ c.in-Some.rest.now = search rules in
    let more : c.in-Some.rest.now ≡ c.in-Some-split_first.name.now ∷ c.in-Some-split_first.more.now = search rules in
    let number = rw c.bytes.ensures at (c.if-is_number_of.ensures.0 refl) in
    rw (whole, c.in-Some-kind.ensures.found, more)
    (IsBlockRefused.kind c.in-Some-kind.extended c.in-Some-split_first.name.now number.0 c.in-Some-split_first.more.now number.1 number.2)

pub returns-then-is_other_kind-clause-refused : goal.returns-then-is_other_kind-clause-refused
returns-then-is_other_kind-clause-refused c =
    let whole : c.args.words.now ≡ c.in-Some.first.now ∷ c.in-Some.rest.now = search rules in
    let more : c.in-Some.rest.now ≡ c.in-Some-split_first.name.now ∷ c.in-Some-split_first.more.now = search rules in
    let other = c.if-is_other_kind.ensures.0 refl in
    rw (whole, c.in-Some-kind.ensures.found, more)
    (IsBlockRefused.begun c.in-Some-kind.extended c.in-Some-split_first.name.now c.in-Some-split_first.more.now
    (λ n number kind. false≢true (c.if-is_number_of.ensures.1 (n, rw c.bytes.ensures number, kind))) other)

pub returns-then-not-is_empty-clause-refused : goal.returns-then-not-is_empty-clause-refused
returns-then-not-is_empty-clause-refused c =
    let whole : c.args.words.now ≡ c.in-Some.first.now ∷ c.in-Some.rest.now = search rules in
    let more : c.in-Some.rest.now ≡ c.in-Some-split_first.name.now ∷ c.in-Some-split_first.more.now = search rules in
    let some = rw c.is_empty.ensures at c.if-not-is_empty.true in
    (more_words c.args.self.now c.args.words.now c.in-Some-split_first.more.now c.in-Some-kind.extended c.in-Some-split_first.name.now (rw (whole, c.in-Some-kind.ensures.found, more) refl) some
    (λ n number kind. false≢true (c.if-is_number_of.ensures.1 (n, rw c.bytes.ensures number, kind)))
    (λ other. false≢true (c.if-is_other_kind.ensures.1 other)))

pub returns-else-is_name-clause-refused : goal.returns-else-is_name-clause-refused
returns-else-is_name-clause-refused c =
    let whole : c.args.words.now ≡ c.in-Some.first.now ∷ c.in-Some.rest.now = search rules in
    let more : c.in-Some.rest.now ≡ c.in-Some-split_first.name.now ∷ c.in-Some-split_first.more.now = search rules in
    let none : c.in-Some-split_first.more.now ≡ [] = no_more c.in-Some-split_first.more.now (rw c.is_empty.ensures at c.if-not-is_empty.false) in
    let bytes = rw c.bytes-2.ensures at (sym c.is_name.ensures ∙ c.if-is_name.false) in
    rw (whole, c.in-Some-kind.ensures.found, more, none)
    (IsBlockRefused.bytes c.in-Some-kind.extended c.in-Some-split_first.name.now (λ n number kind. false≢true (c.if-is_number_of.ensures.1 (n, rw c.bytes.ensures number, kind)))
    (λ other. false≢true (c.if-is_other_kind.ensures.1 other)) bytes)
