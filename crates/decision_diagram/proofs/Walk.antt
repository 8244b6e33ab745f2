-- One step of each pass, as the program makes it.
use Rattle.std.proofs.Common.{◌≡◌, ℕ, ◌+◌, ◌-◌, ◌<◌, ◌≤◌, suc, false, Some, List, [], ◌∷◌, ◌++◌, length, get_or, drop, drop-cons, reverse, sym, ap, ap₂, subst, ◌∙◌, arith}
use Rattle.std.specs.List.{slice_get}
use Rattle.std.proofs.lemmas.List.{reverse-append, length-reverse, get_or-reverse, drop_all}
use Rattle.std.proofs.lemmas.Option.{slice_get-get_or}
use Rattle.circuit.specs.declared.gate.Gate.{Gate}
use Rattle.circuit.specs.Value.{AreNodes, Extends}
use Rattle.circuit.proofs.Below.{below_push}
use Rattle.circuit.proofs.Extend.{AreNodes-extends, Extends-trans}
use Rattle.decision_diagram.specs.declared.node.Node.{Node}
use Rattle.decision_diagram.specs.declared.node.Node.TheVariants as node
use Rattle.decision_diagram.specs.Guarded.{with_edge, Descent, descent, descend_at, descend, Ascent, ascent, ascend_at, ascend}
use Rattle.decision_diagram.specs.Inside.Passes.{AreEdges, IsPair, ArePairs}
use Rattle.decision_diagram.proofs.Passing.{edges_later, pairs_later, with_edge_within}

pub extends_four : (a b c d e : List Gate) → Extends a b → Extends b c → Extends c d → Extends d e → Extends a e
extends_four a b c d e one two three four = Extends-trans a b e one (Extends-trans b c e two (Extends-trans c d e three four))

-- both edges of a branch join those into its ends
pub two_added : (old new : List Gate) (into first both : List (List ℕ)) (low high if_false if_true : ℕ) → Extends old new → AreEdges old into → first ≡ with_edge into low if_false → both ≡ with_edge first high if_true → if_false < length new → if_true < length new → AreEdges new both
two_added old new into first both low high if_false if_true longer within one two in_false in_true =
    let all = with_edge_within new (with_edge into low if_false) high if_true (with_edge_within new into low if_false (edges_later old new into longer within) in_false) in_true in
    subst (AreEdges new) (sym (two ∙ ap (λ edges. with_edge edges high if_true) one)) all

pairs_push : (gates : List Gate) (pairs : List (ℕ × ℕ)) (e : ℕ × ℕ) → ArePairs gates pairs → IsPair gates e → ArePairs gates (pairs ++ e ∷ [])
pairs_push gates [] e within last = (last, tt)
pairs_push gates (first ∷ pairs) e within last = (within.0, pairs_push gates pairs e within.1 last)

pub pairs_more : (old new : List Gate) (pairs more : List (ℕ × ℕ)) (e : ℕ × ℕ) → Extends old new → ArePairs old pairs → IsPair new e → more ≡ pairs ++ e ∷ [] → ArePairs new more
pairs_more old new pairs more e longer within last is = subst (ArePairs new) (sym is) (pairs_push new pairs e (pairs_later old new pairs longer within) last)

pub nodes_more : (old new : List Gate) (nodes more : List ℕ) (node : ℕ) → Extends old new → AreNodes old nodes → node < length new → more ≡ nodes ++ node ∷ [] → AreNodes new more
nodes_more old new nodes more node longer within last is = subst (AreNodes new) (sym is) (below_push (length new) nodes node last (AreNodes-extends old new longer nodes within))

same_some : (n m : Node) → Some n ≡ Some m → n ≡ m
same_some n m is = cc

-- what is put at the end is the first one from the end
pub first_from_end : (edges more : List (ℕ × ℕ)) (e : ℕ × ℕ) → more ≡ edges ++ e ∷ [] → reverse more ≡ e ∷ reverse edges
first_from_end edges more e is = ap reverse is ∙ reverse-append edges (e ∷ [])

pub one_down : (nodes : List Node) (bits : List ℕ) (place : ℕ) (old new : List Gate) (into into' : List (List ℕ)) (edges edges' : List (ℕ × ℕ)) (e : ℕ × ℕ) (m n : Node) → slice_get nodes place ≡ Some m → slice_get nodes place ≡ Some n → edges' ≡ edges ++ e ∷ []
    → descent new into' (e ∷ reverse edges) ≡ descend_at bits place (descent old into (reverse edges)) m → descent new into' (reverse edges') ≡ descend_at bits place (descent old into (reverse edges)) n
one_down nodes bits place old new into into' edges edges' e m n there is more step =
    ap (descent new into') (first_from_end edges edges' e more) ∙ step ∙ ap (descend_at bits place (descent old into (reverse edges))) (same_some m n (sym there ∙ is))

pub one_up : (nodes : List Node) (place : ℕ) (old new : List Gate) (accepted more : List ℕ) (node : ℕ) (e : ℕ × ℕ) (m n : Node) → slice_get nodes place ≡ Some m → slice_get nodes place ≡ Some n → more ≡ accepted ++ node ∷ []
    → ascent new (accepted ++ node ∷ []) ≡ ascend_at (ascent old accepted) m e → ascent new more ≡ ascend_at (ascent old accepted) n e
one_up nodes place old new accepted more node e m n there is pushed step =
    ap (ascent new) pushed ∙ step ∙ ap (λ k. ascend_at (ascent old accepted) k e) (same_some m n (sym there ∙ is))

-- ---- all steps
node_at : (nodes : List Node) (place : ℕ) → place < length nodes → (n : Node) × (slice_get nodes place ≡ Some n) × (drop place nodes ≡ n ∷ drop (place + 1) nodes)
node_at nodes place within =
    let n : Node = get_or nodes place (node.Leaf false) in
    let next : suc place ≡ place + 1 = omega arith in
    (n, slice_get-get_or nodes place (node.Leaf false) within, drop-cons nodes place (node.Leaf false) within ∙ ap (λ k. n ∷ drop k nodes) next)

pub more_down : (nodes : List Node) (bits : List ℕ) (place at : ℕ) (start before after : Descent) → place + 1 ≡ at → place < length nodes → before ≡ descend bits at start (drop at nodes)
    → ((n : Node) → slice_get nodes place ≡ Some n → after ≡ descend_at bits place before n) → after ≡ descend bits place start (drop place nodes)
more_down nodes bits place at start before after next within so_far step =
    let here = node_at nodes place within in
    step here.0 here.1
    ∙ ap (λ d. descend_at bits place d here.0) (so_far ∙ ap (λ k. descend bits k start (drop k nodes)) (sym next))
    ∙ ap (descend bits place start) (sym here.2)

pub none_down : (nodes : List Node) (bits : List ℕ) (at : ℕ) (start : Descent) → at ≡ length nodes → start ≡ descend bits at start (drop at nodes)
none_down nodes bits at start end = ap (descend bits at start) (sym (ap (λ k. drop k nodes) end ∙ drop_all (length nodes) nodes (omega arith)))

-- the edges into branches are not needed once all are down
pub all_down : (gates : List Gate) (into : List (List ℕ)) (edges : List (ℕ × ℕ)) (d : Descent) → descent gates into edges ≡ d → descent gates d.into edges ≡ d
all_down gates into edges d is = ap (λ lists. descent gates lists edges) (sym (ap (λ e. e.into) is)) ∙ is

taken_at : (edges : List (ℕ × ℕ)) (e : ℕ × ℕ) (place count : ℕ) → 2 ≤ place → place < count → length edges + 2 ≡ count → e ≡ get_or edges (count - 1 - place) e
    → drop (place - 2) (reverse edges) ≡ e ∷ drop (place + 1 - 2) (reverse edges)
taken_at edges e place count behind within long is =
    let k : ℕ = place - 2 in
    let next : suc k ≡ place + 1 - 2 = omega (arith, behind) in
    let other : length edges - 1 - k ≡ count - 1 - place = omega (arith, behind, within, long) in
    let inside : k < length edges = omega (arith, behind, within, long) in
    drop-cons (reverse edges) k e (omega (arith, inside, length-reverse edges))
    ∙ ap₂ (λ x rest. x ∷ drop rest (reverse edges)) (get_or-reverse edges k e inside ∙ ap (λ j. get_or edges j e) other ∙ sym is) next

pub more_up : (nodes : List Node) (edges : List (ℕ × ℕ)) (place : ℕ) (before after : Ascent) (e : ℕ × ℕ) → 2 ≤ place → place < length nodes → length edges + 2 ≡ length nodes → e ≡ get_or edges (length nodes - 1 - place) e
    → ((n : Node) → slice_get nodes place ≡ Some n → after ≡ ascend_at before n e)
    → ascend after (drop (place + 1) nodes) (drop (place + 1 - 2) (reverse edges)) ≡ ascend before (drop place nodes) (drop (place - 2) (reverse edges))
more_up nodes edges place before after e behind within long is step =
    let here = node_at nodes place within in
    ap (λ a. ascend a (drop (place + 1) nodes) (drop (place + 1 - 2) (reverse edges))) (step here.0 here.1)
    ∙ ap₂ (ascend before) (sym here.2) (sym (taken_at edges e place (length nodes) behind within long is))
