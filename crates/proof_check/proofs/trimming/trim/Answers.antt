use Rattle.std.proofs.Common.{◌≡◌, ◌+◌, length, map, ap, sym, ◌∙◌, subst}
use Rattle.std.proofs.lemmas.List.{with_items_is}
use Rattle.certificates.specs.Writable.{IsWritable}
use Rattle.proof_check.specs.Derivations.{IsAccepted}
use Rattle.proof_check.specs.Trimming as specs
use Rattle.proof_check.specs.Trimming.{needed_items, trimmed}
use Rattle.proof_check.specs.Inside.Trim.{pointed, looked_up, AreNamed, AreNewNumbers}
use Rattle.proof_check.proofs.Counting.{trimmed_is}
use Rattle.proof_check.proofs.Trimmed.{trimmed_are_accepted}
use Rattle.proof_check.proofs.Writing.{trimmed_is_writable}
use Rattle.proof_check.proofs.trimming.trim.Goals as goal

pub returns-clause-trimmed : goal.returns-clause-trimmed
returns-clause-trimmed c =
    let clauses = c.args.cnf.now.clauses in
    let old = c.args.derivation.now in
    let given = length clauses in
    let named = c.needed_items.new.named in
    let counted : length c.clauses-given.result.now ≡ given = ap length c.clauses-given.ensures.clauses in
    let refs : c.as_slice.result.now ≡ c.in_ok-steps.steps.items = c.as_slice.ensures.value in
    let steps : pointed c.as_slice.result.now ≡ specs.steps_to_empty old = ap pointed refs ∙ c.in_ok-steps.ensures ∙ ap specs.steps_to_empty c.items.ensures in
    let flags : c.as_slice-2.result.now ≡ named = c.as_slice-2.ensures.value ∙ with_items_is c.in_ok-named.named named (c.needed_items.auto.named ∙ c.as_mut_slice.ensures.len) in
    let numbers : c.as_slice-3.result.now ≡ c.in_ok-numbers.numbers.items = c.as_slice-3.ensures.value in
    let items : c.as_slice-4.result.now ≡ c.in_ok-items.items.items = c.as_slice-4.ensures.value in
    let are_named : AreNamed given (pointed c.as_slice.result.now) named = subst (λ n. AreNamed n (pointed c.as_slice.result.now) named) counted c.in_ok-items.ensures.named in
    let needed : c.as_slice-4.result.now ≡ needed_items given (given + 1) (pointed c.as_slice.result.now) = items ∙ c.in_ok-items.ensures.items ∙ ap (λ n. needed_items n (n + 1) (pointed c.as_slice.result.now)) counted in
    let counts : AreNewNumbers given named c.as_slice-3.result.now = subst (λ ns. AreNewNumbers given named ns) (sym numbers) (subst (λ fs. AreNewNumbers given fs c.in_ok-numbers.numbers.items) flags (subst (λ n. AreNewNumbers n c.as_slice-2.result.now c.in_ok-numbers.numbers.items) counted c.in_ok-numbers.ensures)) in
    let written : c.of.result ≡ map (specs.renumbered (looked_up given c.as_slice-3.result.now)) c.as_slice-4.result.now = c.of.ensures ∙ c.in_ok-answer.ensures ∙ ap (λ n. map (specs.renumbered (looked_up n c.as_slice-3.result.now)) c.as_slice-4.result.now) counted in
    trimmed_is given old (pointed c.as_slice.result.now) named c.as_slice-3.result.now c.as_slice-4.result.now c.of.result steps are_named needed counts written

pub returns-clause-accepted : goal.returns-clause-accepted
returns-clause-accepted c =
    subst (λ items. IsAccepted c.args.cnf.now.vars c.args.cnf.now.clauses items) (sym (returns-clause-trimmed c)) (trimmed_are_accepted c.args.cnf.now.vars c.args.cnf.now.clauses c.args.derivation.now c.requires)

pub returns-clause-writable : goal.returns-clause-writable
returns-clause-writable c = λ writable.
    subst (λ items. IsWritable items) (sym (returns-clause-trimmed c)) (trimmed_is_writable c.args.cnf.now.vars c.args.cnf.now.clauses c.args.derivation.now c.requires writable)
