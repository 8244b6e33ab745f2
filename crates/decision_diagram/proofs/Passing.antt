-- The way down over a diagram's branches: what each edge is worth, and that it is among those into its end.
use Rattle.std.proofs.Common.{◌≡◌, ℕ, ◌+◌, ◌-◌, ◌<◌, ◌≤◌, zero, suc, nat_lt, Bool, true, false, not, ◌&&◌, List, [], ◌∷◌, ◌++◌, length, get_or, set, get_or-set_same, get_or-set_other, length-set, if◌then◌else◌, refl, sym, ap, ap₂, subst, ◌∙◌, inl, inr, arith}
use Rattle.std.specs.List.{list_any}
use Rattle.std.proofs.lemmas.Bool.{cases_eq}
use Rattle.std.proofs.lemmas.Bool.Decides.{nat_tests}
use Rattle.circuit.specs.declared.gate.Gate.{Gate}
use Rattle.circuit.specs.declared.gate.Gate.TheVariants as gate
use Rattle.circuit.specs.Value.{value as node_value, AreNodes, Extends, Grows, IsCircuit}
use Rattle.circuit.specs.Settled.{IsAmong}
use Rattle.circuit.specs.Sharing.{Made, found_or_added}
use Rattle.circuit.proofs.Below.{below_push}
use Rattle.circuit.proofs.Copies.{below_at}
use Rattle.circuit.proofs.Extend.{Grows-trans, Grows-extends, Extends-trans, AreNodes-extends}
use Rattle.decision_diagram.specs.declared.node.Node.{Node}
use Rattle.decision_diagram.specs.declared.node.Node.TheVariants as node
use Rattle.decision_diagram.specs.Tree.{Tree}
use Rattle.decision_diagram.specs.Guarded.{edges_into, with_edge, joined, Descent, descend_at, descend}
use Rattle.decision_diagram.specs.Inside.Passes.{AreEdges, ArePairs}
use Rattle.decision_diagram.proofs.Branches.{IsBranch, AreBranches}
use Rattle.decision_diagram.proofs.Made.{IsMade, not_made, and_made, joined_made}

-- ---- lists of nodes, one for each branch
pub edges_later : (old new : List Gate) (into : List (List ℕ)) → Extends old new → AreEdges old into → AreEdges new into
edges_later old new [] longer within = tt
edges_later old new (edges ∷ into) longer within = (AreNodes-extends old new longer edges within.0, edges_later old new into longer within.1)

pub pairs_later : (old new : List Gate) (pairs : List (ℕ × ℕ)) → Extends old new → ArePairs old pairs → ArePairs new pairs
pairs_later old new [] longer within = tt
pairs_later old new (e ∷ pairs) longer within = ((omega (arith, longer.longer, within.0.0), omega (arith, longer.longer, within.0.1)), pairs_later old new pairs longer within.1)

edges_at : (gates : List Gate) (into : List (List ℕ)) (k : ℕ) → AreEdges gates into → AreNodes gates (get_or into k [])
edges_at gates [] k within = tt
edges_at gates (edges ∷ into) zero within = within.0
edges_at gates (edges ∷ into) (suc k) within = edges_at gates into k within.1

pub into_within : (gates : List Gate) (into : List (List ℕ)) (place : ℕ) → AreEdges gates into → AreNodes gates (edges_into into place)
into_within gates into place within = edges_at gates into (place - 2) within

edges_set : (gates : List Gate) (into : List (List ℕ)) (k : ℕ) (edges : List ℕ) → AreEdges gates into → AreNodes gates edges → AreEdges gates (set into k edges)
edges_set gates [] k edges within more = tt
edges_set gates (first ∷ into) zero edges within more = (more, within.1)
edges_set gates (first ∷ into) (suc k) edges within more = (within.0, edges_set gates into k edges within.1 more)

-- ---- one edge more into a node
pub with_edge_within : (gates : List Gate) (into : List (List ℕ)) (place edge : ℕ) → AreEdges gates into → edge < length gates → AreEdges gates (with_edge into place edge)
with_edge_within gates into place edge within inside = by (nat_lt place 2)
  where
    by : (t : Bool) → AreEdges gates (if t then into else set into (place - 2) (edges_into into place ++ edge ∷ []))
    by true = within
    by false = edges_set gates into (place - 2) (edges_into into place ++ edge ∷ []) within (below_push (length gates) (edges_into into place) edge inside (into_within gates into place within))

pub length-with_edge : (into : List (List ℕ)) (place edge : ℕ) → length (with_edge into place edge) ≡ length into
length-with_edge into place edge = by (nat_lt place 2)
  where
    by : (t : Bool) → length (if t then into else set into (place - 2) (edges_into into place ++ edge ∷ [])) ≡ length into
    by true = refl
    by false = length-set into (place - 2) (edges_into into place ++ edge ∷ [])

-- edges that were there are there, and none came to a node at this place or behind it
pub record IsMore (from : ℕ) (old new : List (List ℕ)) : Type 0 where
  pub kept : (place : ℕ) → from ≤ place → edges_into new place ≡ edges_into old place
  pub stays : (place edge : ℕ) → IsAmong edge (edges_into old place) → IsAmong edge (edges_into new place)

more_both : (from : ℕ) (a b c : List (List ℕ)) → IsMore from a b → IsMore from b c → IsMore from a c
more_both from a b c x y = record {
  kept = λ place behind. y.kept place behind ∙ x.kept place behind;
  stays = λ place edge is. y.stays place edge (x.stays place edge is);
}

among_more : (edge last : ℕ) (edges : List ℕ) → IsAmong edge edges → IsAmong edge (edges ++ last ∷ [])
among_more edge last [] is = absurd is
among_more edge last (first ∷ edges) (inl here) = inl here
among_more edge last (first ∷ edges) (inr is) = inr (among_more edge last edges is)

among_end : (edge : ℕ) (edges : List ℕ) → IsAmong edge (edges ++ edge ∷ [])
among_end edge [] = inl refl
among_end edge (first ∷ edges) = inr (among_end edge edges)

pub among_one : (edge : ℕ) (into : List (List ℕ)) (place : ℕ) → 2 ≤ place → place - 2 < length into → IsAmong edge (edges_into (with_edge into place edge) place)
among_one edge into place branch within =
    let test : nat_lt place 2 ≡ false = grind (arith, nat_tests) in
    let all = edges_into into place ++ edge ∷ [] in
    let there : edges_into (set into (place - 2) all) place ≡ all = get_or-set_same into (place - 2) all [] within in
    rw (test) (subst (IsAmong edge) (sym there) (among_end edge (edges_into into place)))

one_more : (from : ℕ) (into : List (List ℕ)) (place edge : ℕ) → place < from → place - 2 < length into → IsMore from into (with_edge into place edge)
one_more from into place edge before within = by (nat_lt place 2) refl
  where
    all : List ℕ
    all = edges_into into place ++ edge ∷ []

    other : (k : ℕ) → (k - 2 ≡ place - 2 → ⊥) → edges_into (set into (place - 2) all) k ≡ edges_into into k
    other k apart = get_or-set_other into (place - 2) (k - 2) all [] apart

    by : (t : Bool) → nat_lt place 2 ≡ t → IsMore from into (if t then into else set into (place - 2) all)
    by true is = record { kept = λ k behind. refl; stays = λ k e is. is }
    by false is =
        let branch : 2 ≤ place = grind (arith, nat_tests) in
        record {
          kept = λ k behind. other k (λ same. omega (arith, same, behind, before, branch));
          stays = λ k e among. elim (cases_eq (k - 2) (place - 2)) [
            | inl same ↦
                let there : edges_into (set into (place - 2) all) k ≡ all = ap (λ i. get_or (set into (place - 2) all) i []) same ∙ get_or-set_same into (place - 2) all [] within in
                let before : IsAmong e (edges_into into place) = subst (λ i. IsAmong e (get_or into i [])) same among in
                subst (IsAmong e) (sym there) (among_more e edge (edges_into into place) before)
            | inr apart ↦ subst (IsAmong e) (sym (other k apart)) among
          ];
        }

-- ---- the edges of a branch
pub record IsTaken (w : ℕ → Bool) (bits : List ℕ) (into : List (List ℕ)) (place bit low high : ℕ) (e : ℕ × ℕ) : Type 0 where
  pub if_false : w e.0 ≡ (list_any w (edges_into into place) && not (w (get_or bits bit 0)))
  pub if_true : w e.1 ≡ (list_any w (edges_into into place) && w (get_or bits bit 0))
  pub into_low : 2 ≤ low → IsAmong e.0 (edges_into into low)
  pub into_high : 2 ≤ high → IsAmong e.1 (edges_into into high)

-- those of these nodes, the first of which stands at this place
abbrev pub AreTaken : (ℕ → Bool) → List ℕ → List (List ℕ) → ℕ → List Node → List (ℕ × ℕ) → Type 0
AreTaken w bits into place [] edges = Unit {0}
AreTaken w bits into place (node.Leaf constant ∷ nodes) edges = ⊥
AreTaken w bits into place (node.Branch bit low high ∷ nodes) [] = ⊥
AreTaken w bits into place (node.Branch bit low high ∷ nodes) (e ∷ edges) = IsTaken w bits into place bit low high e × AreTaken w bits into (place + 1) nodes edges

taken_more : (w : ℕ → Bool) (bits : List ℕ) (from : ℕ) (into more : List (List ℕ)) (place : ℕ) (nodes : List Node) (edges : List (ℕ × ℕ)) → from ≤ place → IsMore from into more → AreTaken w bits into place nodes edges → AreTaken w bits more place nodes edges
taken_more w bits from into more place [] edges behind is taken = tt
taken_more w bits from into more place (node.Leaf constant ∷ nodes) edges behind is taken = taken
taken_more w bits from into more place (node.Branch bit low high ∷ nodes) [] behind is taken = taken
taken_more w bits from into more place (node.Branch bit low high ∷ nodes) (e ∷ edges) behind is taken =
    let same = sym (is.kept place behind) in (
      record {
        if_false = subst (λ es. w e.0 ≡ (list_any w es && not (w (get_or bits bit 0)))) same taken.0.if_false;
        if_true = subst (λ es. w e.1 ≡ (list_any w es && w (get_or bits bit 0))) same taken.0.if_true;
        into_low = λ branch. is.stays low e.0 (taken.0.into_low branch);
        into_high = λ branch. is.stays high e.1 (taken.0.into_high branch);
      },
      taken_more w bits from into more (place + 1) nodes edges (omega (arith, behind)) is taken.1,
    )

-- ---- the way down, begun with an edge into the root
pub record IsDescent (bits : List ℕ) (count edge root : ℕ) (start : List Gate) (place : ℕ) (nodes : List Node) (d : Descent) : Type 0 where
  pub circuit : IsCircuit d.gates
  pub grown : Grows start d.gates
  pub long : length d.into ≡ count
  pub within : AreEdges d.gates d.into
  pub pairs : ArePairs d.gates d.edges
  pub begun : IsAmong edge (edges_into d.into root)
  pub taken : (later : List Gate) (inputs : List Bool) → Extends d.gates later → AreTaken (node_value later inputs) bits d.into place nodes d.edges

module _ (bits : List ℕ) (count edge root : ℕ) (start : List Gate) (inside : AreNodes start bits) (ts : List Tree) where
  branch_down : (place bit low high : ℕ) (nodes : List Node) (d : Descent) → 2 ≤ place → place < count + 2 → IsBranch ts (length bits) place bit low high → IsDescent bits count edge root start (place + 1) nodes d
      → IsDescent bits count edge root start place (node.Branch bit low high ∷ nodes) (descend_at bits place d (node.Branch bit low high))
  branch_down place bit low high nodes d behind before is so_far =
      let bit_node : ℕ = get_or bits bit 0 in
      let into_place : List ℕ = edges_into d.into place in
      let reached : Made = joined d.gates into_place in
      let off : Made = found_or_added reached.gates (gate.Not bit_node) in
      let if_false : Made = found_or_added off.gates (gate.And (reached.node ∷ off.node ∷ [])) in
      let if_true : Made = found_or_added if_false.gates (gate.And (reached.node ∷ bit_node ∷ [])) in
      let first : List (List ℕ) = with_edge d.into low if_false.node in
      let both : List (List ℕ) = with_edge first high if_true.node in
      let bit_0 : bit_node < length start = below_at (length start) bits bit 0 inside is.bit_within in
      let made_1 : IsMade d.gates reached (λ w. list_any w into_place) = joined_made d.gates into_place so_far.circuit (into_within d.gates d.into place so_far.within) in
      let x_0 = Grows-extends start d.gates so_far.grown in
      let x_1 = Grows-extends d.gates reached.gates made_1.grown in
      let made_2 : IsMade reached.gates off (λ w. not (w bit_node)) = not_made reached.gates bit_node made_1.circuit (omega (arith, bit_0, x_0.longer, x_1.longer)) in
      let x_2 = Grows-extends reached.gates off.gates made_2.grown in
      let made_3 : IsMade off.gates if_false (λ w. w reached.node && w off.node) = and_made off.gates reached.node off.node made_2.circuit (omega (arith, made_1.within, x_2.longer)) made_2.within in
      let x_3 = Grows-extends off.gates if_false.gates made_3.grown in
      let made_4 : IsMade if_false.gates if_true (λ w. w reached.node && w bit_node) =
      and_made if_false.gates reached.node bit_node made_3.circuit (omega (arith, made_1.within, x_2.longer, x_3.longer)) (omega (arith, bit_0, x_0.longer, x_1.longer, x_2.longer, x_3.longer)) in
      let x_4 = Grows-extends if_false.gates if_true.gates made_4.grown in
      let x_34 = Extends-trans off.gates if_false.gates if_true.gates x_3 x_4 in
      let x_24 = Extends-trans reached.gates off.gates if_true.gates x_2 x_34 in
      let x_14 = Extends-trans d.gates reached.gates if_true.gates x_1 x_24 in
      let fits_low : low - 2 < length d.into = omega (arith, so_far.long, is.low_before, before, behind) in
      let fits_high : high - 2 < length first = omega (arith, so_far.long, is.high_before, before, behind, length-with_edge d.into low if_false.node) in
      let more_low = one_more place d.into low if_false.node is.low_before fits_low in
      let more_high = one_more place first high if_true.node is.high_before fits_high in
      let more = more_both place d.into first both more_low more_high in
      let false_in : if_false.node < length if_true.gates = omega (arith, made_3.within, x_4.longer) in
      record {
        circuit = made_4.circuit;
        grown = Grows-trans start d.gates if_true.gates so_far.grown (Grows-trans d.gates reached.gates if_true.gates made_1.grown (Grows-trans reached.gates off.gates if_true.gates made_2.grown (Grows-trans off.gates if_false.gates if_true.gates made_3.grown made_4.grown)));
        long = length-with_edge first high if_true.node ∙ length-with_edge d.into low if_false.node ∙ so_far.long;
        within = with_edge_within if_true.gates first high if_true.node (with_edge_within if_true.gates d.into low if_false.node (edges_later d.gates if_true.gates d.into x_14 so_far.within) false_in) made_4.within;
        pairs = ((false_in, made_4.within), pairs_later d.gates if_true.gates d.edges x_14 so_far.pairs);
        begun = more.stays root edge so_far.begun;
        taken = λ later inputs x.
            let w : ℕ → Bool = node_value later inputs in
            let is_reached : w reached.node ≡ list_any w into_place = made_1.value later inputs (Extends-trans reached.gates if_true.gates later x_24 x) in
            let kept : into_place ≡ edges_into both place = sym (more.kept place (omega arith)) in (
              record {
                if_false = subst (λ es. w if_false.node ≡ (list_any w es && not (w bit_node))) kept
                    (made_3.value later inputs (Extends-trans if_false.gates if_true.gates later x_4 x) ∙ ap₂ (λ a b. a && b) is_reached (made_2.value later inputs (Extends-trans off.gates if_true.gates later x_34 x)));
                if_true = subst (λ es. w if_true.node ≡ (list_any w es && w bit_node)) kept (made_4.value later inputs x ∙ ap (λ a. a && w bit_node) is_reached);
                into_low = λ branch. more_high.stays low if_false.node (among_one if_false.node d.into low branch fits_low);
                into_high = λ branch. among_one if_true.node first high branch fits_high;
              },
              taken_more w bits place d.into both (place + 1) nodes d.edges (omega arith) more (so_far.taken later inputs (Extends-trans d.gates if_true.gates later x_14 x)),
            );
      }

  pub gone_down : (place : ℕ) (nodes : List Node) (d : Descent) → 2 ≤ place → place + length nodes ≡ count + 2 → AreBranches ts (length bits) place nodes → IsDescent bits count edge root start (place + length nodes) [] d
      → IsDescent bits count edge root start place nodes (descend bits place d nodes)
  gone_down place [] d behind end is begun = subst (λ p. IsDescent bits count edge root start p [] d) (let none : place + 0 ≡ place = omega arith in none) begun
  gone_down place (node.Leaf constant ∷ nodes) d behind end is begun = absurd is.0
  gone_down place (node.Branch bit low high ∷ nodes) d behind end is begun =
      let next : place + length (node.Branch bit low high ∷ nodes) ≡ place + 1 + length nodes = omega arith in
      branch_down place bit low high nodes (descend bits (place + 1) d nodes) behind (omega (arith, end)) is.0
      (gone_down (place + 1) nodes d (omega (arith, behind)) (omega (arith, end)) is.1 (subst (λ p. IsDescent bits count edge root start p [] d) next begun))
