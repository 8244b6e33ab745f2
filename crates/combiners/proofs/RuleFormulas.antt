-- The formulas of rules are right: of when they match, of what they decide, and of when they apply.
use Rattle.std.proofs.Common.{◌≡◌, ◌≢◌, ◌==◌, ℕ, zero, suc, Bool, true, false, cond, List, [], ◌∷◌, ◌++◌, ◌⊎◌, inl, inr, Option, Some, None, map, filter, take, slice_get, refl, sym, ap, ◌∙◌, subst, append_assoc, arith, eqb-true, eq-eqb, false-eqb}
use Rattle.std.proofs.lemmas.List.{append-nil}
use Rattle.sorted_logic.specs.declared.term.Sort.{Sort}
use Rattle.sorted_logic.specs.Syntax.{FormulaTree, negation}
use Rattle.sorted_logic.specs.Universe.{Universe, AreElements}
use Rattle.combiners.specs.declared.policy.Comb.{Comb}
use Rattle.combiners.specs.declared.policy.Comb.TheVariants as comb_of
use Rattle.combiners.specs.Combining.{Applies, EarlierMatches, Matches, OtherMatches, Preempts, RuleApplies, RuleMatches, RulesDecide, SomeMatches, is_before}
use Rattle.combiners.specs.Making.{any_of, applies_of, applies_to, both, decision_of_rules, either, first_rule, matches_of, matching, matching_before, matching_of, under}
use Rattle.combiners.specs.Tree.{PlainRule}
use Rattle.combiners.proofs.Connectives.{Truth, from_both, from_either, from_filter, from_neither, from_none, from_not_both, from_some, from_take, into_both, into_either, into_filter, into_neither, into_none, into_not_both, into_some, into_take, no_truth}

module _ (u : Universe) where
  -- A rule matches.

  from_under : (sorts : List Sort) (f : FormulaTree) (env : List ℕ) → Truth u (under sorts f) true env
      → (elements : List ℕ) × AreElements u sorts elements × Truth u f true (env ++ elements)
  from_under [] f env h = ([], tt, subst (λ e. Truth u f true e) (sym (append-nil env)) h)
  from_under (s ∷ sorts) f env (e, m, h) = let w = from_under sorts f (env ++ e ∷ []) h in
      (e ∷ w.0, (m, w.1), subst (λ x. Truth u f true x) (append_assoc env (e ∷ []) w.0) w.2)

  into_under : (sorts : List Sort) (f : FormulaTree) (env elements : List ℕ) → AreElements u sorts elements
      → Truth u f true (env ++ elements) → Truth u (under sorts f) true env
  into_under [] f env [] a h = subst (λ e. Truth u f true e) (append-nil env) h
  into_under [] f env (e ∷ elements) a h = absurd a
  into_under (s ∷ sorts) f env [] a h = absurd a
  into_under (s ∷ sorts) f env (e ∷ elements) a h = (
    e,
    a.0,
    into_under sorts f (env ++ e ∷ []) elements a.1 (subst (λ x. Truth u f true x) (sym (append_assoc env (e ∷ []) elements)) h),
  )

  from_none_under : (sorts : List Sort) (f : FormulaTree) (env elements : List ℕ) → AreElements u sorts elements
      → Truth u (under sorts f) false env → Truth u f false (env ++ elements)
  from_none_under [] f env [] a h = subst (λ e. Truth u f false e) (sym (append-nil env)) h
  from_none_under [] f env (e ∷ elements) a h = absurd a
  from_none_under (s ∷ sorts) f env [] a h = absurd a
  from_none_under (s ∷ sorts) f env (e ∷ elements) a h = subst (λ x. Truth u f false x) (append_assoc env (e ∷ []) elements)
      (from_none_under sorts f (env ++ e ∷ []) elements a.1 (h e a.0))

  into_none_under : (sorts : List Sort) (f : FormulaTree) (env : List ℕ)
      → ((elements : List ℕ) → AreElements u sorts elements → Truth u f false (env ++ elements))
      → Truth u (under sorts f) false env
  into_none_under [] f env h = subst (λ e. Truth u f false e) (append-nil env) (h [] tt)
  into_none_under (s ∷ sorts) f env h = λ e m. into_none_under sorts f (env ++ e ∷ []) (λ elements a.
      subst (λ x. Truth u f false x) (sym (append_assoc env (e ∷ []) elements)) (h (e ∷ elements) (m, a)))

  pub from_match : (rule : PlainRule) (value : Bool) (env : List ℕ) → Truth u (matching rule) value env → Matches u rule value env
  from_match rule true env h = from_under rule.locals rule.body env h
  from_match rule false env h = λ elements a. from_none_under rule.locals rule.body env elements a h

  pub into_match : (rule : PlainRule) (value : Bool) (env : List ℕ) → Matches u rule value env → Truth u (matching rule) value env
  into_match rule true env h = into_under rule.locals rule.body env h.0 h.1 h.2
  into_match rule false env h = into_none_under rule.locals rule.body env h

  -- Some rule of a decision matches.

  module _ (rules : List PlainRule) (d : ℕ) (env : List ℕ) where
    from_some_match : Truth u (any_of (matching_of d rules)) true env → SomeMatches u rules d true env
    from_some_match h =
        let w = from_some u matching (filter (λ rule. rule.decision == d) rules) env h in
        let v = from_filter (λ rule. rule.decision == d) rules w.0 w.1 in
        (v.0.0, w.0, v.0.1, eqb-true _ _ v.1, from_match w.0 true env w.2)

    into_some_match : SomeMatches u rules d true env → Truth u (any_of (matching_of d rules)) true env
    into_some_match w = into_some u matching (filter (λ rule. rule.decision == d) rules) w.1 env
        (into_filter (λ rule. rule.decision == d) rules w.1 w.0 w.2 (eq-eqb _ _ w.3)) (into_match w.1 true env w.4)

    from_no_match : Truth u (any_of (matching_of d rules)) false env → SomeMatches u rules d false env
    from_no_match h = λ k rule e n. from_match rule false env
        (from_none u matching (filter (λ rule. rule.decision == d) rules) rule env
        (into_filter (λ rule. rule.decision == d) rules rule k e (eq-eqb _ _ n)) h)

    into_no_match : SomeMatches u rules d false env → Truth u (any_of (matching_of d rules)) false env
    into_no_match h = into_none u matching (filter (λ rule. rule.decision == d) rules) env (λ rule w.
        let v = from_filter (λ rule. rule.decision == d) rules rule w in
        into_match rule false env (h v.0.0 rule v.0.1 (eqb-true _ _ v.1)))

  -- Some rule of a decision before one matches.

  module _ (order : List ℕ) (rules : List PlainRule) (d : ℕ) (env : List ℕ) where
    from_earlier : Truth u (any_of (matching_before order d rules)) true env → EarlierMatches u order rules d true env
    from_earlier h =
        let w = from_some u matching (filter (λ rule. is_before order rule.decision d) rules) env h in
        let v = from_filter (λ rule. is_before order rule.decision d) rules w.0 w.1 in
        (w.0.decision, v.1, (v.0.0, w.0, v.0.1, refl, from_match w.0 true env w.2))

    into_earlier : EarlierMatches u order rules d true env → Truth u (any_of (matching_before order d rules)) true env
    into_earlier (e, b, w) = into_some u matching (filter (λ rule. is_before order rule.decision d) rules) w.1 env
        (into_filter (λ rule. is_before order rule.decision d) rules w.1 w.0 w.2 (rw w.3 b)) (into_match w.1 true env w.4)

    from_no_earlier : Truth u (any_of (matching_before order d rules)) false env → EarlierMatches u order rules d false env
    from_no_earlier h = λ e b k rule q n. from_match rule false env
        (from_none u matching (filter (λ rule. is_before order rule.decision d) rules) rule env
        (into_filter (λ rule. is_before order rule.decision d) rules rule k q (rw n b)) h)

    into_no_earlier : EarlierMatches u order rules d false env → Truth u (any_of (matching_before order d rules)) false env
    into_no_earlier h = into_none u matching (filter (λ rule. is_before order rule.decision d) rules) env (λ rule w.
        let v = from_filter (λ rule. is_before order rule.decision d) rules rule w in
        into_match rule false env (h rule.decision v.1 v.0.0 rule v.0.1 refl))

-- The first rule that matches.

differ : (a b : ℕ) → (a == b) ≡ false → a ≢ b
differ a b h = false-eqb a b (sym h)

module _ (u : Universe) (d : ℕ) (env : List ℕ) where
  -- the first of the two formulas of a rule where its decision is the one, and else the second
  abbrev Chosen : PlainRule → List PlainRule → Bool → Bool → Type 0
  Chosen rule rules b value = Truth u (cond b (either (matching rule) (first_rule d rules))
      (both (negation (matching rule)) (first_rule d rules))) value env

  pub from_first : (rules : List PlainRule) → Truth u (first_rule d rules) true env → RulesDecide u comb_of.First rules d true env
  from_first [] h = no_truth h
  from_first (rule ∷ rules) h = go (rule.decision == d) refl h (from_first rules)
    where
      later : (rule.decision ≢ d → Matches u rule false env) → RulesDecide u comb_of.First rules d true env
          → RulesDecide u comb_of.First (rule ∷ rules) d true env
      later m w = (suc w.0, w.1, w.2, w.3, w.4, before)
        where
          before : OtherMatches u (rule ∷ rules) (suc w.0) d false env
          before zero q l e n = let v : rule ≡ q = cc in rw (sym v) (m (rw v n))
          before (suc j) q l e n = w.5 j q (omega arith) e n

      go : (b : Bool) → (rule.decision == d) ≡ b → Chosen rule rules b true
          → (Truth u (first_rule d rules) true env → RulesDecide u comb_of.First rules d true env)
          → RulesDecide u comb_of.First (rule ∷ rules) d true env
      go true e h rec = elim (from_either u (matching rule) (first_rule d rules) env h) [
        | inl p ↦ (0, rule, refl, eqb-true _ _ e, from_match u rule true env p, (λ j q l. absurd (omega arith)))
        | inr p ↦ later (λ n. absurd (n (eqb-true _ _ e))) (rec p)
      ]
      go false e h rec = let p = from_both u (negation (matching rule)) (first_rule d rules) env h in
          later (λ _. from_match u rule false env p.0) (rec p.1)

  pub into_first_rule : (rules : List PlainRule) → RulesDecide u comb_of.First rules d true env
      → Truth u (first_rule d rules) true env
  into_first_rule [] w = cc (w.2)
  into_first_rule (rule ∷ rules) (zero, q, e, n, m, b) = let same : rule ≡ q = cc in
      rw (eq-eqb rule.decision d (ap (λ x. x.decision) same ∙ n))
      (into_either u (matching rule) (first_rule d rules) env (inl (into_match u rule true env (rw same m))))
  into_first_rule (rule ∷ rules) (suc k, q, e, n, m, b) = go (rule.decision == d) refl
      (into_first_rule rules (k, q, e, n, m, (λ j x l i o. b (suc j) x (omega arith) i o)))
    where
      go : (v : Bool) → (rule.decision == d) ≡ v → Truth u (first_rule d rules) true env → Chosen rule rules v true
      go true t h = into_either u (matching rule) (first_rule d rules) env (inr h)
      go false t h = into_both u (negation (matching rule)) (first_rule d rules) env
          (into_match u rule false env (b 0 rule (omega arith) refl (differ _ _ t))) h

  -- the rule at the place does not match, or one before it of another decision does
  abbrev Yields : List PlainRule → ℕ → PlainRule → Type 0
  Yields rules k rule = Matches u rule false env ⊎ OtherMatches u rules k d true env

  after : (rule : PlainRule) (rules : List PlainRule) (k : ℕ) (q : PlainRule) → Yields rules k q → Yields (rule ∷ rules) (suc k) q
  after rule rules k q (inl m) = inl m
  after rule rules k q (inr w) = inr (suc w.0, w.1, omega (arith, w.2), w.3, w.4, w.5)

  pub from_not_first : (rules : List PlainRule) → Truth u (first_rule d rules) false env
      → RulesDecide u comb_of.First rules d false env
  from_not_first [] h k q e n = cc
  from_not_first (rule ∷ rules) h zero q e n = go (rule.decision == d) refl h
    where
      same : rule ≡ q
      same = cc

      go : (b : Bool) → (rule.decision == d) ≡ b → Chosen rule rules b false → Yields (rule ∷ rules) zero q
      go true v p = inl (rw (sym same)
          (from_match u rule false env (from_neither u (matching rule) (first_rule d rules) env p).0))
      go false v p = absurd (differ _ _ v (ap (λ x. x.decision) same ∙ n))
  from_not_first (rule ∷ rules) h (suc k) q e n = go (rule.decision == d) refl h (λ p. from_not_first rules p k q e n)
    where
      go : (b : Bool) → (rule.decision == d) ≡ b → Chosen rule rules b false
          → (Truth u (first_rule d rules) false env → Yields rules k q) → Yields (rule ∷ rules) (suc k) q
      go true v p rec = after rule rules k q (rec (from_neither u (matching rule) (first_rule d rules) env p).1)
      go false v p rec = elim (from_not_both u (negation (matching rule)) (first_rule d rules) env p) [
        | inl m ↦ inr (0, rule, omega arith, refl, differ _ _ v, from_match u rule true env m)
        | inr m ↦ after rule rules k q (rec m)
      ]

-- of rules of a decision at which something holds or else one thing: it holds at all, or that thing is so
scan : (rules : List PlainRule) (d : ℕ) (P : ℕ → PlainRule → Type 0) (A : Type 0)
    → ((k : ℕ) (q : PlainRule) → slice_get rules k ≡ Some q → q.decision ≡ d → P k q ⊎ A)
    → ((k : ℕ) (q : PlainRule) → slice_get rules k ≡ Some q → q.decision ≡ d → P k q) ⊎ A
scan [] d P A h = inl (λ k q e n. cc)
scan (rule ∷ rules) d P A h = go (rule.decision == d) refl (scan rules d (λ k q. P (suc k) q) A (λ k q e n. h (suc k) q e n))
  where
    All : Type 0
    All = (k : ℕ) (q : PlainRule) → slice_get (rule ∷ rules) k ≡ Some q → q.decision ≡ d → P k q

    Later : Type 0
    Later = (k : ℕ) (q : PlainRule) → slice_get rules k ≡ Some q → q.decision ≡ d → P (suc k) q

    joined : (rule.decision ≡ d → P 0 rule) → Later → All
    joined p l zero q e n = let v : rule ≡ q = cc in rw (sym v) (p (rw v n))
    joined p l (suc k) q e n = l k q e n

    go : (b : Bool) → (rule.decision == d) ≡ b → Later ⊎ A → All ⊎ A
    go b e (inr a) = inr a
    go true e (inl l) = elim (h 0 rule refl (eqb-true _ _ e)) [ inl p ↦ inl (joined (λ _. p) l) | inr a ↦ inr a ]
    go false e (inl l) = inl (joined (λ n. absurd (differ _ _ e n)) l)

module _ (u : Universe) (d : ℕ) (env : List ℕ) where
  earlier : (rule : PlainRule) (rules : List PlainRule) (k : ℕ) (q : PlainRule) → Yields u d env (rule ∷ rules) (suc k) q
      → Yields u d env rules k q ⊎ ((rule.decision ≢ d) × Matches u rule true env)
  earlier rule rules k q (inl m) = inl (inl m)
  earlier rule rules k q (inr (zero, x, l, e, n, m)) = let v : rule ≡ x = cc in inr (rw v (n, m))
  earlier rule rules k q (inr (suc j, x, l, e, n, m)) = inl (inr (j, x, omega arith, e, n, m))

  pub into_not_first : (rules : List PlainRule) → RulesDecide u comb_of.First rules d false env
      → Truth u (first_rule d rules) false env
  into_not_first [] h = refl
  into_not_first (rule ∷ rules) h = go (rule.decision == d) refl (into_not_first rules)
    where
      go : (b : Bool) → (rule.decision == d) ≡ b
          → (RulesDecide u comb_of.First rules d false env → Truth u (first_rule d rules) false env)
          → Chosen u d env rule rules b false
      go true e rec = into_neither u (matching rule) (first_rule d rules) env
          (elim (h 0 rule refl (eqb-true _ _ e)) [ inl m ↦ into_match u rule false env m | inr w ↦ absurd (omega (arith, w.2)) ])
          (rec (λ k q l n. elim (earlier rule rules k q (h (suc k) q l n)) [ inl m ↦ m | inr w ↦ absurd (w.0 (eqb-true _ _ e)) ]))
      go false e rec = into_not_both u (negation (matching rule)) (first_rule d rules) env
          (elim (scan rules d (Yields u d env rules) (Matches u rule true env) (λ k q l n.
          elim (earlier rule rules k q (h (suc k) q l n)) [ inl m ↦ inl m | inr w ↦ inr w.1 ])) [
            | inl l ↦ inr (rec l)
            | inr m ↦ inl (into_match u rule true env m)
          ])

-- What rules decide.

module _ (u : Universe) where
  pub from_rules : (comb : Comb) (rules : List PlainRule) (d : ℕ) (value : Bool) (env : List ℕ)
      → Truth u (decision_of_rules comb rules d) value env → RulesDecide u comb rules d value env
  from_rules comb_of.First rules d true env h = from_first u d env rules h
  from_rules comb_of.First rules d false env h = from_not_first u d env rules h
  from_rules (comb_of.Over order) rules d true env h =
      let p = from_both u (any_of (matching_of d rules)) (negation (any_of (matching_before order d rules))) env h in
      (from_some_match u rules d env p.0, from_no_earlier u order rules d env p.1)
  from_rules (comb_of.Over order) rules d false env h =
      elim (from_not_both u (any_of (matching_of d rules)) (negation (any_of (matching_before order d rules))) env h) [
        | inl p ↦ inl (from_no_match u rules d env p)
        | inr p ↦ inr (from_earlier u order rules d env p)
      ]
  from_rules comb_of.All rules d true env h = from_some_match u rules d env h
  from_rules comb_of.All rules d false env h = from_no_match u rules d env h

  pub into_rules : (comb : Comb) (rules : List PlainRule) (d : ℕ) (value : Bool) (env : List ℕ)
      → RulesDecide u comb rules d value env → Truth u (decision_of_rules comb rules d) value env
  into_rules comb_of.First rules d true env h = into_first_rule u d env rules h
  into_rules comb_of.First rules d false env h = into_not_first u d env rules h
  into_rules (comb_of.Over order) rules d true env h =
      into_both u (any_of (matching_of d rules)) (negation (any_of (matching_before order d rules))) env
      (into_some_match u rules d env h.0) (into_no_earlier u order rules d env h.1)
  into_rules (comb_of.Over order) rules d false env h =
      into_not_both u (any_of (matching_of d rules)) (negation (any_of (matching_before order d rules))) env
      (elim h [ inl p ↦ inl (into_no_match u rules d env p) | inr p ↦ inr (into_earlier u order rules d env p) ])
  into_rules comb_of.All rules d true env h = into_some_match u rules d env h
  into_rules comb_of.All rules d false env h = into_no_match u rules d env h

-- When a rule matches and applies.

module _ (u : Universe) where
  pub from_matches : (rule : Option PlainRule) (value : Bool) (env : List ℕ) → Truth u (matches_of rule) value env
      → RuleMatches u rule value env
  from_matches (Some rule) value env h = from_match u rule value env h
  from_matches None value env h = h

  pub into_matches : (rule : Option PlainRule) (value : Bool) (env : List ℕ) → RuleMatches u rule value env
      → Truth u (matches_of rule) value env
  into_matches (Some rule) value env h = into_match u rule value env h
  into_matches None value env h = h

  from_before : (rules : List PlainRule) (place : ℕ) (rule : PlainRule) (env : List ℕ)
      → Truth u (any_of (map matching (take place rules))) true env → Preempts u comb_of.First rules place rule true env
  from_before rules place rule env h =
      let w = from_some u matching (take place rules) env h in
      let v = from_take place rules w.0 w.1 in
      (v.0, w.0, v.1, v.2, from_match u w.0 true env w.2)

  into_before : (rules : List PlainRule) (place : ℕ) (rule : PlainRule) (env : List ℕ)
      → Preempts u comb_of.First rules place rule true env → Truth u (any_of (map matching (take place rules))) true env
  into_before rules place rule env w = into_some u matching (take place rules) w.1 env (into_take place rules w.1 w.0 w.2 w.3)
      (into_match u w.1 true env w.4)

  from_none_before : (rules : List PlainRule) (place : ℕ) (rule : PlainRule) (env : List ℕ)
      → Truth u (any_of (map matching (take place rules))) false env → Preempts u comb_of.First rules place rule false env
  from_none_before rules place rule env h = λ j before l e. from_match u before false env
      (from_none u matching (take place rules) before env (into_take place rules before j l e) h)

  into_none_before : (rules : List PlainRule) (place : ℕ) (rule : PlainRule) (env : List ℕ)
      → Preempts u comb_of.First rules place rule false env → Truth u (any_of (map matching (take place rules))) false env
  into_none_before rules place rule env h = into_none u matching (take place rules) env (λ before w.
      let v = from_take place rules before w in into_match u before false env (h v.0 before v.1 v.2))

  from_application : (comb : Comb) (rules : List PlainRule) (place : ℕ) (rule : PlainRule) (value : Bool) (env : List ℕ)
      → Truth u (applies_to comb rules place rule) value env → Applies u comb rules place rule value env
  from_application comb_of.First rules place rule true env h =
      let p = from_both u (matching rule) (negation (any_of (map matching (take place rules)))) env h in
      (from_match u rule true env p.0, from_none_before rules place rule env p.1)
  from_application comb_of.First rules place rule false env h =
      elim (from_not_both u (matching rule) (negation (any_of (map matching (take place rules)))) env h) [
        | inl p ↦ inl (from_match u rule false env p)
        | inr p ↦ inr (from_before rules place rule env p)
      ]
  from_application (comb_of.Over order) rules place rule true env h =
      let p = from_both u (matching rule) (negation (any_of (matching_before order rule.decision rules))) env h in
      (from_match u rule true env p.0, from_no_earlier u order rules rule.decision env p.1)
  from_application (comb_of.Over order) rules place rule false env h =
      elim (from_not_both u (matching rule) (negation (any_of (matching_before order rule.decision rules))) env h) [
        | inl p ↦ inl (from_match u rule false env p)
        | inr p ↦ inr (from_earlier u order rules rule.decision env p)
      ]
  from_application comb_of.All rules place rule true env h = (from_match u rule true env h, refl)
  from_application comb_of.All rules place rule false env h = inl (from_match u rule false env h)

  into_application : (comb : Comb) (rules : List PlainRule) (place : ℕ) (rule : PlainRule) (value : Bool) (env : List ℕ)
      → Applies u comb rules place rule value env → Truth u (applies_to comb rules place rule) value env
  into_application comb_of.First rules place rule true env h =
      into_both u (matching rule) (negation (any_of (map matching (take place rules)))) env
      (into_match u rule true env h.0) (into_none_before rules place rule env h.1)
  into_application comb_of.First rules place rule false env h =
      into_not_both u (matching rule) (negation (any_of (map matching (take place rules)))) env
      (elim h [ inl p ↦ inl (into_match u rule false env p) | inr p ↦ inr (into_before rules place rule env p) ])
  into_application (comb_of.Over order) rules place rule true env h =
      into_both u (matching rule) (negation (any_of (matching_before order rule.decision rules))) env
      (into_match u rule true env h.0) (into_no_earlier u order rules rule.decision env h.1)
  into_application (comb_of.Over order) rules place rule false env h =
      into_not_both u (matching rule) (negation (any_of (matching_before order rule.decision rules))) env
      (elim h [ inl p ↦ inl (into_match u rule false env p) | inr p ↦ inr (into_earlier u order rules rule.decision env p) ])
  into_application comb_of.All rules place rule true env h = into_match u rule true env h.0
  into_application comb_of.All rules place rule false env (inl p) = into_match u rule false env p
  into_application comb_of.All rules place rule false env (inr p) = no_truth p

  pub from_applies : (comb : Comb) (rules : List PlainRule) (place : ℕ) (rule : Option PlainRule) (value : Bool) (env : List ℕ)
      → Truth u (applies_of comb rules place rule) value env → RuleApplies u comb rules place rule value env
  from_applies comb rules place (Some rule) value env h = from_application comb rules place rule value env h
  from_applies comb rules place None value env h = h

  pub into_applies : (comb : Comb) (rules : List PlainRule) (place : ℕ) (rule : Option PlainRule) (value : Bool) (env : List ℕ)
      → RuleApplies u comb rules place rule value env → Truth u (applies_of comb rules place rule) value env
  into_applies comb rules place (Some rule) value env h = into_application comb rules place rule value env h
  into_applies comb rules place None value env h = h
