-- The formulas of policies are right, and what follows of policies.
use Rattle.std.proofs.Common.{◌<◌, ◌↔◌, ℕ, zero, suc, Bool, true, false, List, inl, inr, IsTrue, map, slice_get, refl, arith}
use Rattle.std.specs.List.{flat_map}
use Rattle.sorted_logic.specs.Syntax.{FormulaTree, negation, decides, matches, applies}
use Rattle.sorted_logic.specs.Trees.{disjunction}
use Rattle.sorted_logic.specs.Truth.{no_policies}
use Rattle.sorted_logic.specs.Universe.{Universe}
use Rattle.sorted_logic.proofs.Truths.{none_contradict, not_both}
use Rattle.combiners.specs.declared.policy.Comb.{Comb}
use Rattle.combiners.specs.declared.policy.Comb.TheVariants as comb_of
use Rattle.combiners.specs.Combining.{AppliesAt, ChildrenDecide, Decides, DecidesAny, EarlierDecides, MatchesAt, MemberDecides, SomeDecides, child_count, is_before}
use Rattle.combiners.specs.Laws.{IsApplicationRight, IsConsistent, IsDecisionRight, IsMatchRight}
use Rattle.combiners.specs.Making.{any_of, applies_tree, both, decision_of_children, decision_tree, decisions_before, decisions_below, first_child, matches_tree, member_trees}
use Rattle.combiners.specs.Tree.{PolicyTree, with_rules, with_children, PolicyChain, no_children, and_child, tree_of}
use Rattle.combiners.proofs.Connectives.{LiesIn, Truth, from_any, from_below, from_both, from_either, from_filter, from_joined, from_neither, from_none, from_none_joined, from_not_both, from_some, into_any, into_below, into_both, into_either, into_filter, into_first, into_neither, into_none, into_none_joined, into_not_both, into_second, into_some, no_truth}
use Rattle.combiners.proofs.RuleFormulas.{from_applies, from_matches, from_rules, into_applies, into_matches, into_rules}

module _ (u : Universe) where
  abbrev IsRight : PolicyTree → Type 0
  IsRight tree = (d : ℕ) (value : Bool) (env : List ℕ) → Truth u (decision_tree tree d) value env ↔ Decides u tree d value env

  abbrev AreRight : PolicyChain → Type 0
  AreRight no_children = Unit {0}
  AreRight (and_child tree chain) = IsRight tree × AreRight chain

  -- Some child makes a decision.

  module _ (d : ℕ) (env : List ℕ) where
    abbrev deciding : PolicyChain → List FormulaTree
    deciding chain = map (λ child. child d) (member_trees chain)

    from_deciding : (chain : PolicyChain) → AreRight chain → Truth u (disjunction (deciding chain)) true env
        → SomeDecides (MemberDecides u chain) (child_count chain) d true env
    from_deciding no_children r h = no_truth h
    from_deciding (and_child tree chain) r (inl h) = (0, omega arith, (r.0 d true env).0 h)
    from_deciding (and_child tree chain) r (inr h) = let w = from_deciding chain r.1 h in (suc w.0, omega (arith, w.1), w.2)

    into_deciding : (chain : PolicyChain) → AreRight chain → SomeDecides (MemberDecides u chain) (child_count chain) d true env
        → Truth u (disjunction (deciding chain)) true env
    into_deciding no_children r w = absurd (omega (arith, w.1))
    into_deciding (and_child tree chain) r (zero, l, h) = inl ((r.0 d true env).1 h)
    into_deciding (and_child tree chain) r (suc k, l, h) = inr (into_deciding chain r.1 (k, omega arith, h))

    from_none_deciding : (chain : PolicyChain) → AreRight chain → Truth u (disjunction (deciding chain)) false env
        → SomeDecides (MemberDecides u chain) (child_count chain) d false env
    from_none_deciding no_children r h k l = absurd (omega arith)
    from_none_deciding (and_child tree chain) r h zero l = (r.0 d false env).0 h.0
    from_none_deciding (and_child tree chain) r h (suc k) l = from_none_deciding chain r.1 h.1 k (omega arith)

    into_none_deciding : (chain : PolicyChain) → AreRight chain
        → SomeDecides (MemberDecides u chain) (child_count chain) d false env
        → Truth u (disjunction (deciding chain)) false env
    into_none_deciding no_children r h = refl
    into_none_deciding (and_child tree chain) r h =
        ((r.0 d false env).1 (h 0 (omega arith)), into_none_deciding chain r.1 (λ k l. h (suc k) (omega arith)))

  -- A policy makes one of some decisions.

  module _ (tree : PolicyTree) (r : IsRight tree) (n : ℕ) (env : List ℕ) where
    abbrev any : FormulaTree
    any = any_of (map (λ d. decision_tree tree d) (decisions_below n))

    from_any_decision : Truth u any true env → (e : ℕ) × (e < n) × Decides u tree e true env
    from_any_decision h = let w = from_some u (λ d. decision_tree tree d) (decisions_below n) env h in
        (w.0, from_below n w.0 w.1, (r w.0 true env).0 w.2)

    into_any_decision : (e : ℕ) → e < n → Decides u tree e true env → Truth u any true env
    into_any_decision e l h = into_some u (λ d. decision_tree tree d) (decisions_below n) e env (into_below n e l)
        ((r e true env).1 h)

    from_no_decision : Truth u any false env → (e : ℕ) → e < n → Decides u tree e false env
    from_no_decision h e l = (r e false env).0
        (from_none u (λ d. decision_tree tree d) (decisions_below n) e env (into_below n e l) h)

    into_no_decision : ((e : ℕ) → e < n → Decides u tree e false env) → Truth u any false env
    into_no_decision h = into_none u (λ d. decision_tree tree d) (decisions_below n) env
        (λ e w. (r e false env).1 (h e (from_below n e w)))

  -- The first child that decides anything.

  module _ (n d : ℕ) (env : List ℕ) where
    abbrev First : PolicyChain → Bool → Type 0
    First chain value = ChildrenDecide (MemberDecides u chain) comb_of.First n (child_count chain) d value env

    abbrev rest : PolicyChain → FormulaTree
    rest chain = first_child n d (member_trees chain)

    abbrev others : PolicyTree → PolicyChain → FormulaTree
    others tree chain = both (negation (any_of (map (λ e. decision_tree tree e) (decisions_below n)))) (rest chain)

    from_first_child : (chain : PolicyChain) → AreRight chain → Truth u (rest chain) true env → First chain true
    from_first_child no_children r h = no_truth h
    from_first_child (and_child tree chain) r h =
        elim (from_either u (decision_tree tree d) (others tree chain) env h) [
          | inl p ↦ (0, omega arith, (r.0 d true env).0 p, (λ j l. absurd (omega arith)))
          | inr p ↦ (let q = from_both u (negation (any tree r.0 n env)) (rest chain) env p in
              later (from_no_decision tree r.0 n env q.0) (from_first_child chain r.1 q.1))
        ]
      where
        later : ((e : ℕ) → e < n → Decides u tree e false env) → First chain true → First (and_child tree chain) true
        later m w = (suc w.0, omega (arith, w.1), w.2, before)
          where
            before : (j : ℕ) → j < suc w.0 → DecidesAny (MemberDecides u (and_child tree chain)) n j false env
            before zero l = m
            before (suc j) l = w.3 j (omega arith)

    into_first_child : (chain : PolicyChain) → AreRight chain → First chain true → Truth u (rest chain) true env
    into_first_child no_children r w = absurd (omega (arith, w.1))
    into_first_child (and_child tree chain) r (zero, l, h, b) =
        into_either u (decision_tree tree d) (others tree chain) env (inl ((r.0 d true env).1 h))
    into_first_child (and_child tree chain) r (suc k, l, h, b) =
        into_either u (decision_tree tree d) (others tree chain) env (inr
        (into_both u (negation (any tree r.0 n env)) (rest chain) env (into_no_decision tree r.0 n env (b 0 (omega arith)))
        (into_first_child chain r.1 (k, omega arith, h, (λ j m. b (suc j) (omega arith))))))

    from_no_first_child : (chain : PolicyChain) → AreRight chain → Truth u (rest chain) false env → First chain false
    from_no_first_child no_children r h = inl (λ k l. absurd (omega arith))
    from_no_first_child (and_child tree chain) r h =
        go (from_neither u (decision_tree tree d) (others tree chain) env h) (from_no_first_child chain r.1)
      where
        none : SomeDecides (MemberDecides u chain) (child_count chain) d false env → Decides u tree d false env
            → SomeDecides (MemberDecides u (and_child tree chain)) (suc (child_count chain)) d false env
        none s p zero l = p
        none s p (suc k) l = s k (omega arith)

        up_to : (k : ℕ) → SomeDecides (MemberDecides u chain) (suc k) d false env → Decides u tree d false env
            → SomeDecides (MemberDecides u (and_child tree chain)) (suc (suc k)) d false env
        up_to k s p zero l = p
        up_to k s p (suc j) l = s j (omega arith)

        later : Decides u tree d false env → First chain false → First (and_child tree chain) false
        later p (inl s) = inl (none s p)
        later p (inr (k, l, a, s)) = inr (suc k, omega arith, a, up_to k s p)

        alone : Decides u tree d false env → SomeDecides (MemberDecides u (and_child tree chain)) 1 d false env
        alone p zero l = p
        alone p (suc k) l = absurd (omega arith)

        go : Truth u (decision_tree tree d) false env × Truth u (others tree chain) false env
            → (Truth u (rest chain) false env → First chain false) → First (and_child tree chain) false
        go (p, q) rec = elim (from_not_both u (negation (any tree r.0 n env)) (rest chain) env q) [
          | inl a ↦ inr (0, omega arith, from_any_decision tree r.0 n env a, alone ((r.0 d false env).0 p))
          | inr s ↦ later ((r.0 d false env).0 p) (rec s)
        ]

    into_no_first_child : (chain : PolicyChain) → AreRight chain → First chain false → Truth u (rest chain) false env
    into_no_first_child no_children r h = refl
    into_no_first_child (and_child tree chain) r (inl s) =
        into_neither u (decision_tree tree d) (others tree chain) env ((r.0 d false env).1 (s 0 (omega arith)))
        (into_not_both u (negation (any tree r.0 n env)) (rest chain) env
        (inr (into_no_first_child chain r.1 (inl (λ k l. s (suc k) (omega arith))))))
    into_no_first_child (and_child tree chain) r (inr (zero, l, a, s)) =
        into_neither u (decision_tree tree d) (others tree chain) env ((r.0 d false env).1 (s 0 (omega arith)))
        (into_not_both u (negation (any tree r.0 n env)) (rest chain) env (inl (into_any_decision tree r.0 n env a.0 a.1 a.2)))
    into_no_first_child (and_child tree chain) r (inr (suc k, l, a, s)) =
        into_neither u (decision_tree tree d) (others tree chain) env ((r.0 d false env).1 (s 0 (omega arith)))
        (into_not_both u (negation (any tree r.0 n env)) (rest chain) env
        (inr (into_no_first_child chain r.1 (inr (k, omega arith, a, (λ j m. s (suc j) (omega arith)))))))

  -- Some child makes an earlier decision.

  module _ (order : List ℕ) (n d : ℕ) (env : List ℕ) where
    abbrev earlier : PolicyChain → List FormulaTree
    earlier chain = flat_map (λ child. map child (decisions_before order n d)) (member_trees chain)

    abbrev Earlier : PolicyChain → Bool → Type 0
    Earlier chain value = EarlierDecides (MemberDecides u chain) order n (child_count chain) d value env

    abbrev of : PolicyTree → List FormulaTree
    of tree = map (λ e. decision_tree tree e) (decisions_before order n d)

    from_before : (e : ℕ) → LiesIn (decisions_before order n d) e → (e < n) × IsTrue (is_before order e d)
    from_before e w = let v = from_filter (λ e. is_before order e d) (decisions_below n) e w in (from_below n e v.0, v.1)

    into_before : (e : ℕ) → e < n → IsTrue (is_before order e d) → LiesIn (decisions_before order n d) e
    into_before e l b = let v = into_below n e l in into_filter (λ e. is_before order e d) (decisions_below n) e v.0 v.1 b

    from_earlier_decision : (chain : PolicyChain) → AreRight chain → Truth u (disjunction (earlier chain)) true env
        → Earlier chain true
    from_earlier_decision no_children r h = no_truth h
    from_earlier_decision (and_child tree chain) r h = elim (from_joined u (of tree) (earlier chain) env h) [
      | inl p ↦ (let w = from_some u (λ e. decision_tree tree e) (decisions_before order n d) env
          (into_any u (of tree) true env p) in
          let v = from_before w.0 w.1 in (w.0, v.0, v.1, (0, omega arith, (r.0 w.0 true env).0 w.2)))
      | inr p ↦ (let w = from_earlier_decision chain r.1 p in (w.0, w.1, w.2, (suc w.3.0, omega (arith, w.3.1), w.3.2)))
    ]

    into_earlier_decision : (chain : PolicyChain) → AreRight chain → Earlier chain true
        → Truth u (disjunction (earlier chain)) true env
    into_earlier_decision no_children r (e, l, b, w) = absurd (omega (arith, w.1))
    into_earlier_decision (and_child tree chain) r (e, l, b, (zero, m, h)) = into_first u (of tree) (earlier chain) env
        (from_any u (of tree) true env (into_some u (λ e. decision_tree tree e) (decisions_before order n d) e env
        (into_before e l b) ((r.0 e true env).1 h)))
    into_earlier_decision (and_child tree chain) r (e, l, b, (suc k, m, h)) = into_second u (of tree) (earlier chain) env
        (into_earlier_decision chain r.1 (e, l, b, (k, omega arith, h)))

    from_no_earlier_decision : (chain : PolicyChain) → AreRight chain → Truth u (disjunction (earlier chain)) false env
        → Earlier chain false
    from_no_earlier_decision no_children r h e l b k m = absurd (omega arith)
    from_no_earlier_decision (and_child tree chain) r h e l b zero m = (r.0 e false env).0
        (from_none u (λ e. decision_tree tree e) (decisions_before order n d) e env (into_before e l b)
        (into_any u (of tree) false env (from_none_joined u (of tree) (earlier chain) env h).0))
    from_no_earlier_decision (and_child tree chain) r h e l b (suc k) m = from_no_earlier_decision chain r.1
        (from_none_joined u (of tree) (earlier chain) env h).1 e l b k (omega arith)

    into_no_earlier_decision : (chain : PolicyChain) → AreRight chain → Earlier chain false
        → Truth u (disjunction (earlier chain)) false env
    into_no_earlier_decision no_children r h = refl
    into_no_earlier_decision (and_child tree chain) r h = into_none_joined u (of tree) (earlier chain) env
        (from_any u (of tree) false env (into_none u (λ e. decision_tree tree e) (decisions_before order n d) env
        (λ e w. let v = from_before e w in (r.0 e false env).1 (h e v.0 v.1 0 (omega arith)))))
        (into_no_earlier_decision chain r.1 (λ e l b k m. h e l b (suc k) (omega arith)))

  -- Policies.

  from_children : (comb : Comb) (n : ℕ) (chain : PolicyChain) (d : ℕ) (value : Bool) (env : List ℕ) → AreRight chain
      → Truth u (decision_of_children comb n (member_trees chain) d) value env
      → ChildrenDecide (MemberDecides u chain) comb n (child_count chain) d value env
  from_children comb_of.First n chain d true env r h = from_first_child n d env chain r h
  from_children comb_of.First n chain d false env r h = from_no_first_child n d env chain r h
  from_children (comb_of.Over order) n chain d true env r h =
      let p = from_both u (any_of (deciding d env chain)) (negation (any_of (earlier order n d env chain))) env h in (
        from_deciding d env chain r (from_any u (deciding d env chain) true env p.0),
        from_no_earlier_decision order n d env chain r (from_any u (earlier order n d env chain) false env p.1),
      )
  from_children (comb_of.Over order) n chain d false env r h =
      elim (from_not_both u (any_of (deciding d env chain)) (negation (any_of (earlier order n d env chain))) env h) [
        | inl p ↦ inl (from_none_deciding d env chain r (from_any u (deciding d env chain) false env p))
        | inr p ↦ inr (from_earlier_decision order n d env chain r (from_any u (earlier order n d env chain) true env p))
      ]
  from_children comb_of.All n chain d true env r h = from_deciding d env chain r (from_any u (deciding d env chain) true env h)
  from_children comb_of.All n chain d false env r h = from_none_deciding d env chain r
      (from_any u (deciding d env chain) false env h)

  into_children : (comb : Comb) (n : ℕ) (chain : PolicyChain) (d : ℕ) (value : Bool) (env : List ℕ) → AreRight chain
      → ChildrenDecide (MemberDecides u chain) comb n (child_count chain) d value env
      → Truth u (decision_of_children comb n (member_trees chain) d) value env
  into_children comb_of.First n chain d true env r h = into_first_child n d env chain r h
  into_children comb_of.First n chain d false env r h = into_no_first_child n d env chain r h
  into_children (comb_of.Over order) n chain d true env r h =
      into_both u (any_of (deciding d env chain)) (negation (any_of (earlier order n d env chain))) env
      (into_any u (deciding d env chain) true env (into_deciding d env chain r h.0))
      (into_any u (earlier order n d env chain) false env (into_no_earlier_decision order n d env chain r h.1))
  into_children (comb_of.Over order) n chain d false env r h =
      into_not_both u (any_of (deciding d env chain)) (negation (any_of (earlier order n d env chain))) env (elim h [
        | inl p ↦ inl (into_any u (deciding d env chain) false env (into_none_deciding d env chain r p))
        | inr p ↦ inr (into_any u (earlier order n d env chain) true env (into_earlier_decision order n d env chain r p))
      ])
  into_children comb_of.All n chain d true env r h = into_any u (deciding d env chain) true env (into_deciding d env chain r h)
  into_children comb_of.All n chain d false env r h = into_any u (deciding d env chain) false env
      (into_none_deciding d env chain r h)

  mutual
    pub right_tree : (tree : PolicyTree) → IsRight tree
    right_tree (with_rules comb rules) d value env = (from_rules u comb rules d value env, into_rules u comb rules d value env)
    right_tree (with_children comb n chain) d value env =
        (from_children comb n chain d value env (right_chain chain), into_children comb n chain d value env (right_chain chain))

    right_chain : (chain : PolicyChain) → AreRight chain
    right_chain no_children = tt
    right_chain (and_child tree chain) = (right_tree tree, right_chain chain)

  pub decision_right : IsDecisionRight u
  decision_right set policy d value env = right_tree (tree_of set policy) d value env

  match_right : (tree : PolicyTree) (rule : ℕ) (value : Bool) (env : List ℕ)
      → Truth u (matches_tree tree rule) value env ↔ MatchesAt u tree rule value env
  match_right (with_rules comb rules) rule value env =
      (from_matches u (slice_get rules rule) value env, into_matches u (slice_get rules rule) value env)
  match_right (with_children comb n chain) rule value env = ((λ h. h), (λ h. h))

  pub matches_right : IsMatchRight u
  matches_right set policy rule value env = match_right (tree_of set policy) rule value env

  application_right : (tree : PolicyTree) (rule : ℕ) (value : Bool) (env : List ℕ)
      → Truth u (applies_tree tree rule) value env ↔ AppliesAt u tree rule value env
  application_right (with_rules comb rules) rule value env = (
    from_applies u comb rules rule (slice_get rules rule) value env,
    into_applies u comb rules rule
        (slice_get rules rule) value env,
  )
  application_right (with_children comb n chain) rule value env = ((λ h. h), (λ h. h))

  pub applies_right : IsApplicationRight u
  applies_right set policy rule value env = application_right (tree_of set policy) rule value env

  once : (f : FormulaTree) (env : List ℕ) → Truth u f true env → Truth u f false env → ⊥
  once f env h k = not_both u no_policies none_contradict f env h k

  pub consistent : IsConsistent u
  consistent set (decides policy d) env h k = once (decision_tree (tree_of set policy) d) env
      ((decision_right set policy d true env).1 h) ((decision_right set policy d false env).1 k)
  consistent set (matches policy rule) env h k = once (matches_tree (tree_of set policy) rule) env
      ((matches_right set policy rule true env).1 h) ((matches_right set policy rule false env).1 k)
  consistent set (applies policy rule) env h k = once (applies_tree (tree_of set policy) rule) env
      ((applies_right set policy rule true env).1 h) ((applies_right set policy rule false env).1 k)
