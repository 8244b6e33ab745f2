use Rattle.std.proofs.Common.{◌≡◌, ◌≤◌, length, rules, sym, subst, not, nat_lt, All, take, None, replicate, Bool, Option}
use Rattle.std.specs.List.{filter}
use Rattle.std.proofs.lemmas.Fn.{filter_same, All-from_retain}
use Rattle.std.proofs.lemmas.List.Elements.{All-filter}
use Rattle.cnf.specs.Clauses.{Formula}
use Rattle.sat_core.specs.declared.store.Learned.{Learned}
use Rattle.sat_core.specs.Inside.Learning.{IsLearned}
use Rattle.sat_core.proofs.Learning.{stays_on_going_back}
use Rattle.sat_core.proofs.store.Store.back_to.Goals as goal

pub invariant_of-self-else-is_empty : goal.invariant_of-self-else-is_empty
invariant_of-self-else-is_empty c =
    let inside = c.self.inside in
    let kept = c.retain.new.self.items in
    let test : Learned → Bool = λ one. not (nat_lt c.args.count one.needs) in
    let within : c.args.count ≤ length inside.cnf.clauses = subst (λ (f : Formula). c.args.count ≤ length f.clauses) (sym c.self.view_is) c.requires in
    let few : All (λ (one : Learned). one.needs ≤ c.args.count) kept = All-from_retain _ (λ (one : Learned). one.needs ≤ c.args.count) _ (λ x b f' k. search rules) _ _ c.retain.ensures.filtered in
    let same : kept ≡ filter test inside.learned.items = filter_same _ test _ (λ x b f' k. search rules) _ _ c.retain.ensures.filtered in
    let known : All (IsLearned inside.cnf.vars inside.cnf.clauses) kept = subst (All (IsLearned inside.cnf.vars inside.cnf.clauses)) (sym same) (All-filter test (IsLearned inside.cnf.vars inside.cnf.clauses) inside.learned.items c.self.invariant.0) in
    let after : All (IsLearned inside.cnf.vars (take c.args.count inside.cnf.clauses)) kept = stays_on_going_back inside.cnf.vars inside.cnf.clauses c.args.count kept within few known in (
      subst (λ (f : Formula). All (IsLearned f.vars f.clauses) kept) (sym c.truncate.ensures) after,
      subst (λ (f : Formula). inside.table ≡ replicate {A = Option Bool} f.vars None) (sym c.truncate.ensures) c.self.invariant.1,
    )
