-- The way up over a diagram's branches: each accepts where it is reached and its tree has the value true.
use Rattle.std.proofs.Common.{◌≡◌, ℕ, ◌+◌, ◌-◌, ◌<◌, ◌≤◌, ◌==◌, nat_lt, Bool, true, false, not, ◌&&◌, ◌||◌, List, [], ◌∷◌, ◌++◌, map, length, get_or, cond, if◌then◌else◌, refl, sym, ap, ap₂, subst, ◌∙◌, inl, inr, arith}
use Rattle.std.specs.List.{list_any}
use Rattle.std.proofs.lemmas.Bool.{cases_lt}
use Rattle.std.proofs.lemmas.Bool.Decides.{nat_tests}
use Rattle.std.proofs.lemmas.List.{length_push, get_or_append_left, get_or_push, get_or-map}
use Rattle.circuit.specs.declared.gate.Gate.{Gate}
use Rattle.circuit.specs.declared.gate.Gate.TheVariants as gate
use Rattle.circuit.specs.Value.{value as node_value, AreNodes, Extends, Grows, IsCircuit}
use Rattle.circuit.specs.Settled.{IsAmong}
use Rattle.circuit.specs.Sharing.{Made, made, found_or_added}
use Rattle.circuit.proofs.Below.{below_push}
use Rattle.circuit.proofs.Copies.{below_at}
use Rattle.circuit.proofs.Extend.{Grows-refl, Grows-trans, Grows-extends, Extends-refl, Extends-trans, AreNodes-extends}
use Rattle.decision_diagram.specs.declared.node.Node.{Node}
use Rattle.decision_diagram.specs.declared.node.Node.TheVariants as node
use Rattle.decision_diagram.specs.Tree.{Tree, leaf, value}
use Rattle.decision_diagram.specs.Table.{tree_at}
use Rattle.decision_diagram.specs.Guarded.{edges_into, Ascent, ascent, returned, ascend_at, ascend}
use Rattle.decision_diagram.specs.Inside.Passes.{ArePairs}
use Rattle.decision_diagram.proofs.Branches.{IsBranch, AreBranches}
use Rattle.decision_diagram.proofs.Made.{and_made, any_made, or_false}
use Rattle.decision_diagram.proofs.Passing.{IsTaken, AreTaken}

-- ---- an edge and what comes back by it
pub any_among : (w : ℕ → Bool) (edge : ℕ) (edges : List ℕ) → IsAmong edge edges → w edge ≡ true → list_any w edges ≡ true
any_among w edge [] is holds = absurd is
any_among w edge (first ∷ edges) (inl here) holds = ap (λ t. t || list_any w edges) (ap w (sym here) ∙ holds)
any_among w edge (first ∷ edges) (inr is) holds = by (w first) (any_among w edge edges is holds)
  where
    by : (t : Bool) → list_any w edges ≡ true → (t || list_any w edges) ≡ true
    by true any = refl
    by false any = any

guarded_by : (edge reached v : Bool) → (edge ≡ true → reached ≡ true) → (edge && (reached && v)) ≡ (edge && v)
guarded_by true reached v into = ap (λ t. t && v) (into refl)
guarded_by false reached v into = refl

-- what a branch accepts
pub record IsAscent (start : List Gate) (bits : List ℕ) (into : List (List ℕ)) (ts : List Tree) (place : ℕ) (a : Ascent) : Type 0 where
  pub circuit : IsCircuit a.gates
  pub grown : Grows start a.gates
  pub long : length a.accepted + 2 ≡ place
  pub within : AreNodes a.gates a.accepted
  pub value : (later : List Gate) (inputs : List Bool) → Extends a.gates later → (k : ℕ) → 2 ≤ k → k < place
      → node_value later inputs (get_or a.accepted (k - 2) 0) ≡ (list_any (node_value later inputs) (edges_into into k) && value (tree_at ts k) (map (node_value later inputs) bits))

pub record IsReturned (gates : List Gate) (bits : List ℕ) (into : List (List ℕ)) (tree : Tree) (edge place : ℕ) (m : Made) : Type 0 where
  pub circuit : IsCircuit m.gates
  pub grown : Grows gates m.gates
  pub within : m.node < length m.gates
  pub value : (place ≡ 0 → ⊥) → (later : List Gate) (inputs : List Bool) → Extends m.gates later → (2 ≤ place → IsAmong edge (edges_into into place))
      → node_value later inputs m.node ≡ (node_value later inputs edge && value tree (map (node_value later inputs) bits))

and_true : (a : Bool) → (a && true) ≡ a
and_true true = refl
and_true false = refl

module _ (start : List Gate) (bits : List ℕ) (into : List (List ℕ)) (ts : List Tree) (always : tree_at ts 1 ≡ leaf true) (never : tree_at ts 0 ≡ leaf false) where
  comes_back : (here place edge : ℕ) (a : Ascent) → IsAscent start bits into ts here a → place < here → edge < length a.gates → IsReturned a.gates bits into (tree_at ts place) edge place (returned a edge place)
  comes_back here place edge a so_far before inside = by (nat_lt place 2) refl
    where
      accepted : ℕ
      accepted = get_or a.accepted (place - 2) 0

      here_in : nat_lt place 2 ≡ false → accepted < length a.gates
      here_in is = let behind : 2 ≤ place = grind (arith, nat_tests) in below_at (length a.gates) a.accepted (place - 2) 0 so_far.within (omega (arith, so_far.long, before, behind))

      by : (t : Bool) → nat_lt place 2 ≡ t
          → IsReturned a.gates bits into (tree_at ts place) edge place (if t then made a.gates edge else found_or_added a.gates (gate.And (edge ∷ accepted ∷ [])))
      by true is = record {
        circuit = so_far.circuit;
        grown = Grows-refl a.gates;
        within = inside;
        value = λ some later inputs x among.
            let low : place < 2 = grind (arith, nat_tests) in
            let first : place ≡ 1 = omega (arith, some, low) in
            let holds : value (tree_at ts place) (map (node_value later inputs) bits) ≡ true = ap (λ p. value (tree_at ts p) (map (node_value later inputs) bits)) first ∙ ap (λ t. value t (map (node_value later inputs) bits)) always in
            sym (and_true (node_value later inputs edge)) ∙ ap (λ v. node_value later inputs edge && v) (sym holds);
      }
      by false is =
          let both = and_made a.gates edge accepted so_far.circuit inside (here_in is) in
          record {
            circuit = both.circuit;
            grown = both.grown;
            within = both.within;
            value = λ some later inputs x among.
                let behind : 2 ≤ place = grind (arith, nat_tests) in
                let w : ℕ → Bool = node_value later inputs in
                let v : Bool = value (tree_at ts place) (map (node_value later inputs) bits) in
                both.value later inputs x
                ∙ ap (λ r. w edge && r) (so_far.value later inputs (Extends-trans a.gates (found_or_added a.gates (gate.And (edge ∷ accepted ∷ []))).gates later (Grows-extends a.gates (found_or_added a.gates (gate.And (edge ∷ accepted ∷ []))).gates both.grown) x) place behind before)
                ∙ guarded_by (w edge) (list_any w (edges_into into place)) v (any_among w edge (edges_into into place) (among behind));
          }

  -- ---- one branch more
  ascent_later : (place : ℕ) (a : Ascent) (gates : List Gate) → IsAscent start bits into ts place a → IsCircuit gates → Grows a.gates gates → IsAscent start bits into ts place (ascent gates a.accepted)
  ascent_later place a gates so_far circuit grown = record {
    circuit = circuit;
    grown = Grows-trans start a.gates gates so_far.grown grown;
    long = so_far.long;
    within = AreNodes-extends a.gates gates (Grows-extends a.gates gates grown) a.accepted so_far.within;
    value = λ later inputs x. so_far.value later inputs (Extends-trans a.gates gates later (Grows-extends a.gates gates grown) x);
  }

  -- the node of the next branch
  with_accepted : (place one : ℕ) (a : Ascent) → IsAscent start bits into ts place a → one < length a.gates
      → ((later : List Gate) (inputs : List Bool) → Extends a.gates later → node_value later inputs one ≡ (list_any (node_value later inputs) (edges_into into place) && value (tree_at ts place) (map (node_value later inputs) bits)))
      → IsAscent start bits into ts (place + 1) (ascent a.gates (a.accepted ++ one ∷ []))
  with_accepted place one a so_far inside is = record {
    circuit = so_far.circuit;
    grown = so_far.grown;
    long = omega (arith, length_push a.accepted one, so_far.long);
    within = below_push (length a.gates) a.accepted one inside so_far.within;
    value = λ later inputs x k behind before.
        let w : ℕ → Bool = node_value later inputs in
        elim (cases_lt k place) [
          | inl less ↦
              ap w (get_or_append_left a.accepted (one ∷ []) 0 (k - 2) (omega (arith, less, behind, so_far.long))) ∙ so_far.value later inputs x k behind less
          | inr more ↦
              let last : place ≡ k = omega (arith, more, before) in
              ap w (get_or_push a.accepted one 0 (k - 2) (omega (arith, last, so_far.long)))
              ∙ is later inputs x
              ∙ ap (λ p. list_any w (edges_into into p) && value (tree_at ts p) (map w bits)) last
        ];
  }

  choose_low : (r b low high : Bool) → high ≡ false → ((r && not b) && low) ≡ (r && cond b high low)
  choose_low false b low high none = refl
  choose_low true true low high none = sym none
  choose_low true false low high none = refl

  choose_high : (r b low high : Bool) → low ≡ false → ((r && b) && high) ≡ (r && cond b high low)
  choose_high false b low high none = refl
  choose_high true true low high none = refl
  choose_high true false low high none = sym none

  choose_both : (r b low high : Bool) → (((r && not b) && low) || ((r && b) && high)) ≡ (r && cond b high low)
  choose_both false b low high = refl
  choose_both true true low high = refl
  choose_both true false low high = or_false low

  -- the tree of a branch, by its bit
  worth : (w : ℕ → Bool) (place bit low high : ℕ) → IsBranch ts (length bits) place bit low high
      → value (tree_at ts place) (map w bits) ≡ cond (w (get_or bits bit 0)) (value (tree_at ts high) (map w bits)) (value (tree_at ts low) (map w bits))
  worth w place bit low high is =
      ap (λ t. value t (map w bits)) is.tree
      ∙ ap (λ b. cond b (value (tree_at ts high) (map w bits)) (value (tree_at ts low) (map w bits))) (get_or-map w bits bit 0 false is.bit_within)

  false_at : (place : ℕ) (values : List Bool) → place ≡ 0 → value (tree_at ts place) values ≡ false
  false_at place values is = ap (λ p. value (tree_at ts p) values) is ∙ ap (λ t. value t values) never

  branch_up : (place bit low high : ℕ) (e : ℕ × ℕ) (a : Ascent) → IsBranch ts (length bits) place bit low high → e.0 < length start → e.1 < length start
      → ((later : List Gate) (inputs : List Bool) → Extends start later → IsTaken (node_value later inputs) bits into place bit low high e)
      → IsAscent start bits into ts place a → IsAscent start bits into ts (place + 1) (ascend_at a (node.Branch bit low high) e)
  branch_up place bit low high e a is in_low in_high taken so_far = by (low == 0) (high == 0) refl refl
    where
      bit_node : ℕ
      bit_node = get_or bits bit 0

      by_low : Made
      by_low = returned a e.0 low

      middle : Ascent
      middle = ascent by_low.gates a.accepted

      by_high : Made
      by_high = returned middle e.1 high

      parts : List ℕ
      parts = by_low.node ∷ by_high.node ∷ []

      either : Made
      either = found_or_added by_high.gates (gate.Or parts)

      x_0 : Extends start a.gates
      x_0 = Grows-extends start a.gates so_far.grown

      low_back : IsReturned a.gates bits into (tree_at ts low) e.0 low by_low
      low_back = comes_back place low e.0 a so_far is.low_before (omega (arith, in_low, x_0.longer))

      x_1 : Extends a.gates by_low.gates
      x_1 = Grows-extends a.gates by_low.gates low_back.grown

      to_middle : IsAscent start bits into ts place middle
      to_middle = ascent_later place a by_low.gates so_far low_back.circuit low_back.grown

      high_back : IsReturned by_low.gates bits into (tree_at ts high) e.1 high by_high
      high_back = comes_back place high e.1 middle to_middle is.high_before (omega (arith, in_high, x_0.longer, x_1.longer))

      x_2 : Extends by_low.gates by_high.gates
      x_2 = Grows-extends by_low.gates by_high.gates high_back.grown

      to_high : IsAscent start bits into ts place (ascent by_high.gates a.accepted)
      to_high = ascent_later place middle by_high.gates to_middle high_back.circuit high_back.grown

      low_in : by_low.node < length by_high.gates
      low_in = omega (arith, low_back.within, x_2.longer)

      from_start : (later : List Gate) → Extends by_high.gates later → Extends start later
      from_start later x = Extends-trans start a.gates later x_0 (Extends-trans a.gates by_low.gates later x_1 (Extends-trans by_low.gates by_high.gates later x_2 x))

      v : ℕ → (ℕ → Bool) → Bool
      v k w = value (tree_at ts k) (map w bits)

      reached : (ℕ → Bool) → Bool
      reached w = list_any w (edges_into into place)

      low_value : (low ≡ 0 → ⊥) → (later : List Gate) (inputs : List Bool) → Extends by_high.gates later
          → node_value later inputs by_low.node ≡ ((reached (node_value later inputs) && not (node_value later inputs bit_node)) && v low (node_value later inputs))
      low_value some later inputs x =
          let t = taken later inputs (from_start later x) in
          low_back.value some later inputs (Extends-trans by_low.gates by_high.gates later x_2 x) t.into_low ∙ ap (λ b. b && v low (node_value later inputs)) t.if_false

      high_value : (high ≡ 0 → ⊥) → (later : List Gate) (inputs : List Bool) → Extends by_high.gates later
          → node_value later inputs by_high.node ≡ ((reached (node_value later inputs) && node_value later inputs bit_node) && v high (node_value later inputs))
      high_value some later inputs x =
          let t = taken later inputs (from_start later x) in
          high_back.value some later inputs x t.into_high ∙ ap (λ b. b && v high (node_value later inputs)) t.if_true

      chosen : (w : ℕ → Bool) → (reached w && cond (w bit_node) (v high w) (v low w)) ≡ (reached w && v place w)
      chosen w = ap (λ b. reached w && b) (sym (worth w place bit low high is))

      by : (t s : Bool) → (low == 0) ≡ t → (high == 0) ≡ s → IsAscent start bits into ts (place + 1)
          (if t then ascent by_high.gates (a.accepted ++ by_high.node ∷ []) else if s then ascent by_high.gates (a.accepted ++ by_low.node ∷ []) else ascent either.gates (a.accepted ++ either.node ∷ []))
      by true s first second =
          let low_is : low ≡ 0 = grind (arith, nat_tests) in
          let some : high ≡ 0 → ⊥ = λ high_is. is.apart (low_is ∙ sym high_is) in
          with_accepted place by_high.node (ascent by_high.gates a.accepted) to_high high_back.within
          (λ later inputs x.
          let w : ℕ → Bool = node_value later inputs in
          high_value some later inputs x ∙ choose_high (reached w) (w bit_node) (v low w) (v high w) (false_at low (map w bits) low_is) ∙ chosen w)
      by false true first second =
          let high_is : high ≡ 0 = grind (arith, nat_tests) in
          let some : low ≡ 0 → ⊥ = λ low_is. is.apart (low_is ∙ sym high_is) in
          with_accepted place by_low.node (ascent by_high.gates a.accepted) to_high low_in
          (λ later inputs x.
          let w : ℕ → Bool = node_value later inputs in
          low_value some later inputs x ∙ choose_low (reached w) (w bit_node) (v low w) (v high w) (false_at high (map w bits) high_is) ∙ chosen w)
      by false false first second =
          let low_some : low ≡ 0 → ⊥ = λ low_is. (let test : (low == 0) ≡ true = grind (arith, nat_tests) in cc) in
          let high_some : high ≡ 0 → ⊥ = λ high_is. (let test : (high == 0) ≡ true = grind (arith, nat_tests) in cc) in
          let one = any_made by_high.gates parts high_back.circuit (low_in, (high_back.within, tt)) in
          let x_3 = Grows-extends by_high.gates either.gates one.grown in
          with_accepted place either.node (ascent either.gates a.accepted) (ascent_later place (ascent by_high.gates a.accepted) either.gates to_high one.circuit one.grown) one.within
          (λ later inputs x.
          let w : ℕ → Bool = node_value later inputs in
          let x_23 = Extends-trans by_high.gates either.gates later x_3 x in
          one.value later inputs x
          ∙ ap (λ b. w by_low.node || b) (or_false (w by_high.node))
          ∙ ap₂ (λ p q. p || q) (low_value low_some later inputs x_23) (high_value high_some later inputs x_23)
          ∙ choose_both (reached w) (w bit_node) (v low w) (v high w)
          ∙ chosen w)

  pub gone_up : (place : ℕ) (nodes : List Node) (edges : List (ℕ × ℕ)) (a : Ascent) → AreBranches ts (length bits) place nodes → ArePairs start edges
      → ((later : List Gate) (inputs : List Bool) → Extends start later → AreTaken (node_value later inputs) bits into place nodes edges)
      → IsAscent start bits into ts place a → IsAscent start bits into ts (place + length nodes) (ascend a nodes edges)
  gone_up place [] edges a is within taken so_far = subst (λ p. IsAscent start bits into ts p a) (let none : place ≡ place + 0 = omega arith in none) so_far
  gone_up place (node.Leaf constant ∷ nodes) edges a is within taken so_far = absurd is.0
  gone_up place (node.Branch bit low high ∷ nodes) [] a is within taken so_far = absurd (taken start [] (Extends-refl start))
  gone_up place (node.Branch bit low high ∷ nodes) (e ∷ edges) a is within taken so_far =
      let next : place + 1 + length nodes ≡ place + length (node.Branch bit low high ∷ nodes) = omega arith in
      let after = branch_up place bit low high e a is.0 within.0.0 within.0.1 (λ later inputs x. (taken later inputs x).0) so_far in
      subst (λ p. IsAscent start bits into ts p (ascend (ascend_at a (node.Branch bit low high) e) nodes edges)) next
      (gone_up (place + 1) nodes edges (ascend_at a (node.Branch bit low high) e) is.1 within.1 (λ later inputs x. (taken later inputs x).1) after)
