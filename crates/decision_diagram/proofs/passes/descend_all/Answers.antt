use Rattle.std.proofs.Common.{◌≡◌, ◌≤◌, ◌+◌, ◌-◌, ℕ, List, [], Some, length, drop, replicate, reverse, sym, ap, subst, ◌∙◌, arith}
use Rattle.std.specs.List.{slice_get}
use Rattle.std.proofs.lemmas.List.{length-replicate}
use Rattle.circuit.proofs.Extend.{AreNodes-extends, Extends-refl, Extends-trans, Grows-refl, Grows-trans}
use Rattle.decision_diagram.specs.declared.node.Node.TheVariants as node
use Rattle.decision_diagram.specs.Guarded.{Descent, descend, descend_at, descent, with_edge}
use Rattle.decision_diagram.specs.Inside.Passes.{AreEdges}
use Rattle.decision_diagram.proofs.Guards.{no_edges}
use Rattle.decision_diagram.proofs.Passing.{with_edge_within, length-with_edge}
use Rattle.decision_diagram.proofs.Walk.{all_down, more_down, none_down}
use Rattle.decision_diagram.proofs.passes.descend_all.Goals as goal

pub loop-place-init : goal.loop-place-init
loop-place-init c =
    let nodes = c.args.table.now.nodes in
    let none : List (List ℕ) = replicate (length nodes - 2) [] in
    let all : c.node_count-count.result ≡ length nodes = c.node_count-count.ensures.count in
    let two : 2 ≤ length nodes = (c.node_count-count.ensures.table).leaves in
    let first : List (List ℕ) = with_edge none c.args.root c.args.start in
    let is : c.add.new.self ≡ first = c.in_ok-add.ensures ∙ ap (λ into. with_edge into c.args.root c.args.start) (c.in_ok-into.ensures ∙ ap (λ n. replicate (n - 2) []) all) in
    let long : length c.add.new.self ≡ length nodes - 2 = ap length is ∙ length-with_edge none c.args.root c.args.start ∙ length-replicate (length nodes - 2) [] in
    let begins : Descent = descent c.args.circuit.now first [] in
    record {
      behind = omega (arith, all, two);
      inside = omega (arith, all);
      made = rw (is, c.new-edges.ensures.items) (none_down nodes c.args.bits.now c.node_count-count.result begins all);
      into = omega (arith, long, two);
      nodes = subst (AreEdges c.args.circuit.now) (sym is) (with_edge_within c.args.circuit.now none c.args.root c.args.start (no_edges c.args.circuit.now (length nodes - 2)) c.requires.start);
      count = omega (arith, all, ap length c.new-edges.ensures.items);
      pairs = rw (c.new-edges.ensures.items) tt;
      bits = c.requires.bits;
      grown = Grows-refl c.args.circuit.now;
      older = Extends-refl c.args.circuit.now;
    }

pub loop-place-preserved : goal.loop-place-preserved
loop-place-preserved c =
    let so_far = c.loop-place.invariant in
    let step = c.in_ok-descend_one.ensures in
    let nodes = c.args.table.now.nodes in
    let place : ℕ = c.loop-place.place - 1 in
    let next : place + 1 ≡ c.loop-place.place = omega (arith, c.loop-place-test.true) in
    let before : Descent = descent c.loop-place.circuit c.loop-place.into (reverse c.loop-place.edges.items) in
    let after : Descent = descent c.descend_one.new.circuit c.descend_one.new.into (reverse c.descend_one.new.edges.items) in
    let P : ℕ → Type 0 = λ k. (n : node.the_data) → slice_get nodes k ≡ Some n → after ≡ descend_at c.args.bits.now k before n in
    let made = subst P c.at.ensures step.made in
    record {
      behind = omega (arith, c.loop-place-test.true);
      inside = omega (arith, so_far.inside);
      made = more_down nodes c.args.bits.now place c.loop-place.place _ _ _ next (omega (arith, so_far.inside, next)) so_far.made made;
      into = omega (arith, step.into, so_far.into);
      nodes = step.nodes;
      count = omega (arith, step.count, so_far.count, next);
      pairs = step.pairs;
      bits = AreNodes-extends c.loop-place.circuit c.descend_one.new.circuit c.descend_one.ensures.older c.args.bits.now so_far.bits;
      grown = Grows-trans c.args.circuit.now c.loop-place.circuit c.descend_one.new.circuit so_far.grown c.descend_one.ensures.grown;
      older = Extends-trans c.args.circuit.now c.loop-place.circuit c.descend_one.new.circuit so_far.older c.descend_one.ensures.older;
    }

pub returns-clause-made : goal.returns-clause-made
returns-clause-made c =
    let last : c.loop-place.place ≡ 2 = omega (arith, c.loop-place.invariant.behind, c.loop-place-test.false) in
    all_down _ _ _ _ (c.loop-place.invariant.made
    ∙ ap (λ k. descend c.args.bits.now k (descent c.args.circuit.now (with_edge (replicate (length c.args.table.now.nodes - 2) []) c.args.root c.args.start) []) (drop k c.args.table.now.nodes)) last)

pub returns-clause-count : goal.returns-clause-count
returns-clause-count c =
    omega (arith, c.loop-place.invariant.behind, c.loop-place-test.false, c.loop-place.invariant.count)
