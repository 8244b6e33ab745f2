-- The set of nodes compares by a test that decides equality: where a node is found, and where it is not.
use Rattle.std.proofs.Common.{◌≡◌, ℕ, true, false, List, Some, get_or, refl, sym, ap, ◌∙◌, arith}
use Rattle.std.specs.List.{slice_get, list_any, position}
use Rattle.std.proofs.lemmas.Bool.Decides.{nat_tests}
use Rattle.std.proofs.lemmas.List.Quantifiers.{position-Some}
use Rattle.std.proofs.lemmas.List.Folds.{list_any_at}
use Rattle.std.proofs.lemmas.Option.{slice_get_within, slice_get-get_or, get_or_from_slice_get}
use Rattle.decision_diagram.specs.contracts.node.NodePartialEq.TheImpl.{eq-value}
use Rattle.decision_diagram.specs.declared.node.Node.{Node}
use Rattle.decision_diagram.specs.declared.node.Node.TheVariants as node

passes_equal : (a b : Node) → (eq-value).it a b ≡ true → a ≡ b
passes_equal (node.Leaf true) (node.Leaf true) test = refl
passes_equal (node.Leaf false) (node.Leaf false) test = refl
passes_equal (node.Leaf true) (node.Leaf false) test = cc
passes_equal (node.Leaf false) (node.Leaf true) test = cc
passes_equal (node.Leaf constant) (node.Branch bit low high) test = cc
passes_equal (node.Branch bit low high) (node.Leaf constant) test = cc
passes_equal (node.Branch bit low high) (node.Branch other a b) test = grind (arith, nat_tests)

passes_itself : (n : Node) → (eq-value).it n n ≡ true
passes_itself (node.Leaf true) = refl
passes_itself (node.Leaf false) = refl
passes_itself (node.Branch bit low high) = grind (arith, nat_tests)

-- the place that the set gives is the node's
pub found_there : (nodes : List Node) (n : Node) (place : ℕ) → position ((eq-value).it n) nodes ≡ Some place → slice_get nodes place ≡ Some n
found_there nodes n place found =
    let at = position-Some ((eq-value).it n) nodes place n found in
    slice_get-get_or nodes place n at.0 ∙ ap Some (sym (passes_equal n (get_or nodes place n) at.1))

-- at the place that the set stored it at, the node itself stands
pub stored_there : (nodes : List Node) (n : Node) (place : ℕ) → (k : Node) × (slice_get nodes place ≡ Some k) × ((eq-value).it n k ≡ true) → slice_get nodes place ≡ Some n
stored_there nodes n place stored = stored.1 ∙ ap Some (sym (passes_equal n stored.0 stored.2))

-- a node that stands somewhere passes the set's test
pub there_passes : (nodes : List Node) (n : Node) (place : ℕ) → slice_get nodes place ≡ Some n → list_any ((eq-value).it n) nodes ≡ true
there_passes nodes n place there =
    list_any_at ((eq-value).it n) nodes place n (slice_get_within nodes place n there)
    (ap ((eq-value).it n) (get_or_from_slice_get nodes place n n there) ∙ passes_itself n)

-- where the test finds none, none is there
pub absent : (nodes : List Node) (n : Node) → list_any ((eq-value).it n) nodes ≡ false → (place : ℕ) → slice_get nodes place ≡ Some n → ⊥
absent nodes n none place there =
    let some = there_passes nodes n place there in
    absurd (let wrong : false ≡ true = sym none ∙ some in cc)
