-- What hints show of a clause, and what stays of learned clauses when given ones come and go.
use Rattle.std.proofs.Common.{◌≡◌, ℕ, zero, suc, ◌+◌, ◌<◌, ◌≤◌, Bool, true, false, Option, Some, None, List, [], ◌∷◌, ◌++◌, length, take, replicate, get_or, arith, ap, ◌∙◌, refl, subst, sym}
use Rattle.std.specs.List.{All}
use Rattle.std.proofs.lemmas.Bool.{and_parts, both_ways}
use Rattle.std.proofs.lemmas.List.{take-append-le, take-take, length-append, length-take-le}
use Rattle.cnf.specs.declared.lit.Lit.{Lit}
use Rattle.cnf.specs.Clauses.{IsInRange, IsModel, Follows, all_hold, clause_holds}
use Rattle.proof_check.specs.declared.table.Outcome.TheVariants as outcome
use Rattle.proof_check.specs.Values.{with_true}
use Rattle.proof_check.specs.Propagation.{assumed, propagates}
use Rattle.proof_check.specs.Tables.{IsAssumed}
use Rattle.proof_check.proofs.Agreement.{IsWithin, IsWithin-blank, IsWithin-with_true}
use Rattle.proof_check.proofs.Sound.{assumed_agrees, conflict_fails, unit_holds}
use Rattle.sat_core.specs.declared.store.Learned.{Learned}
use Rattle.sat_core.specs.Inside.Learning.{FollowsFirst, IsLearned}

-- FEWER AND MORE GIVEN CLAUSES

pub fewer_hold : (values : List Bool) (given : List (List Lit)) (m n : ℕ) → m ≤ n → all_hold values (take n given) ≡ true → all_hold values (take m given) ≡ true
fewer_hold values given zero n h k = refl
fewer_hold values given (suc m) zero h k = absurd (omega arith)
fewer_hold values [] (suc m) (suc n) h k = refl
fewer_hold values (c ∷ cs) (suc m) (suc n) h k =
    let parts = and_parts (clause_holds values c) (all_hold values (take n cs)) k in
    let rest = fewer_hold values cs m n (omega arith) parts.1 in
    rw (parts.0, rest) refl

pub first_hold : (values : List Bool) (given : List (List Lit)) (n : ℕ) → all_hold values given ≡ true → all_hold values (take n given) ≡ true
first_hold values given zero k = refl
first_hold values [] (suc n) k = refl
first_hold values (c ∷ cs) (suc n) k =
    let parts = and_parts (clause_holds values c) (all_hold values cs) k in
    let rest = first_hold values cs n parts.1 in
    rw (parts.0, rest) refl

last_holds : (values : List Bool) (given : List (List Lit)) (k : ℕ) → k < length given → all_hold values (take (suc k) given) ≡ true → clause_holds values (get_or given k []) ≡ true
last_holds values [] k h e = absurd (omega arith)
last_holds values (c ∷ cs) zero h e = (and_parts (clause_holds values c) true e).0
last_holds values (c ∷ cs) (suc k) h e =
    last_holds values cs k (omega arith) (and_parts (clause_holds values c) (all_hold values (take (suc k) cs)) e).1

pub follows_all : (vars : ℕ) (given : List (List Lit)) (needs : ℕ) (lits : List Lit) → FollowsFirst vars given needs lits → Follows vars given lits
follows_all vars given needs lits h values model =
    h.follows values (record { count = model.count; holds = first_hold values given needs model.holds })

-- a given clause follows from those up to it
pub given_follows : (vars : ℕ) (given : List (List Lit)) (k : ℕ) (lits : List Lit) → All (IsInRange vars) given → k < length given → lits ≡ get_or given k [] → FollowsFirst vars given (k + 1) lits
given_follows vars given k lits ranges inside e = record {
  in_range = rw e (ranges k [] inside);
  there = omega arith;
  follows = λ values model.
      ap (clause_holds values) e ∙ last_holds values given k inside
      (let same : k + 1 ≡ suc k = omega arith in subst (λ n. all_hold values (take n given) ≡ true) same model.holds);
}

-- HINTS

-- a model of the first given clauses in which the clause fails has the values of the table
pub record Refuting (vars : ℕ) (given : List (List Lit)) (needs : ℕ) (lits : List Lit) (table : List (Option Bool)) : Type 0 where
  pub there : needs ≤ length given
  pub agrees : (values : List Bool) → IsModel vars (take needs given) values → clause_holds values lits ≡ false → IsWithin values table

all_assumed : (values : List Bool) (t u : List (Option Bool)) (lits : List Lit) → IsWithin values t → clause_holds values lits ≡ false → IsAssumed (assumed t lits) true u → IsWithin values u
all_assumed values t u lits h fails made =
    elim (assumed t lits) as (λ o. assumed t lits ≡ o → IsAssumed o true u → IsWithin values u) [
      | None ↦ λ is w. absurd (let wrong : true ≡ false = w in cc)
      | Some e ↦ λ is w. subst (IsWithin values) (sym w.1) (assumed_agrees values t e lits h fails is)
    ] refl made

pub begins : (vars : ℕ) (given : List (List Lit)) (lits : List Lit) (t u : List (Option Bool)) (answer : Bool) → t ≡ replicate vars None → answer ≡ true → IsAssumed (assumed t lits) answer u → Refuting vars given 0 lits u
begins vars given lits t u answer blank taken made = record {
  there = omega arith;
  agrees = λ values model fails. all_assumed values t u lits (subst (IsWithin values) (sym blank) (IsWithin-blank values vars)) fails
      (subst (λ b. IsAssumed (assumed t lits) b u) taken made);
}

first_model : (vars : ℕ) (given : List (List Lit)) (m n : ℕ) (values : List Bool) → m ≤ n → IsModel vars (take n given) values → IsModel vars (take m given) values
first_model vars given m n values h model = record { count = model.count; holds = fewer_hold values given m n h model.holds }

pub goes_on : (vars : ℕ) (given : List (List Lit)) (needs more most : ℕ) (lits hinted : List Lit) (table : List (Option Bool)) (l : Lit) → Refuting vars given needs lits table → FollowsFirst vars given more hinted
    → needs ≤ most → more ≤ most → most ≤ length given → propagates table hinted ≡ outcome.Unit l → Refuting vars given most lits (with_true table l)
goes_on vars given needs more most lits hinted table l h known a b c unit = record {
  there = c;
  agrees = λ values model fails.
      let agrees = h.agrees values (first_model vars given needs most values a model) fails in
      IsWithin-with_true values table l agrees (unit_holds values table hinted l agrees unit (known.follows values (first_model vars given more most values b model)));
}

pub ends : (vars : ℕ) (given : List (List Lit)) (needs more most : ℕ) (lits hinted : List Lit) (table : List (Option Bool)) → Refuting vars given needs lits table → FollowsFirst vars given more hinted
    → needs ≤ most → more ≤ most → most ≤ length given → IsInRange vars lits → propagates table hinted ≡ outcome.Conflict → FollowsFirst vars given most lits
ends vars given needs more most lits hinted table h known a b c ranged conflict = record {
  in_range = ranged;
  there = c;
  follows = λ values model.
      elim (clause_holds values lits) as (λ holds. clause_holds values lits ≡ holds → holds ≡ true) [
        | true ↦ λ is. refl
        | false ↦ λ is. absurd (both_ways (clause_holds values hinted)
            (conflict_fails values table hinted (h.agrees values (first_model vars given needs most values a model) is) conflict)
            (known.follows values (first_model vars given more most values b model)))
      ] refl;
}

-- CLAUSES THAT COME AND GO

pub stays_on_adding : (vars : ℕ) (given : List (List Lit)) (c : List Lit) (learned : List Learned) → All (IsLearned vars given) learned → All (IsLearned vars (given ++ c ∷ [])) learned
stays_on_adding vars given c learned h = λ k d inside.
    let one = get_or learned k d in
    let known = h k d inside in
    record {
      in_range = known.in_range;
      there = omega (arith, known.there, length-append given (c ∷ []));
      follows = subst (λ cs. Follows vars cs one.clause) (sym (take-append-le one.needs given (c ∷ []) known.there)) known.follows;
    }

stays_one : (vars : ℕ) (given : List (List Lit)) (count : ℕ) (one : Learned) → count ≤ length given → one.needs ≤ count → IsLearned vars given one → IsLearned vars (take count given) one
stays_one vars given count one within few known = record {
  in_range = known.in_range;
  there = omega (arith, few, length-take-le count given within);
  follows = subst (λ cs. Follows vars cs one.clause) (sym (take-take one.needs count given few)) known.follows;
}

pub stays_on_going_back : (vars : ℕ) (given : List (List Lit)) (count : ℕ) (learned : List Learned) → count ≤ length given → All (λ (one : Learned). one.needs ≤ count) learned → All (IsLearned vars given) learned → All (IsLearned vars (take count given)) learned
stays_on_going_back vars given count learned within few known = λ k d inside.
    stays_one vars given count (get_or learned k d) within (few k d inside) (known k d inside)
