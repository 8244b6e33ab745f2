-- A branch that is found in a table, or put behind its nodes.
use Rattle.std.proofs.Common.{◌≡◌, ℕ, ◌<◌, ◌+◌, Bool, true, false, List, [], ◌∷◌, ◌++◌, length, Some, Result, Ok, Err, IfOk, if◌then◌else◌, inl, inr, refl, sym, ap, ◌∙◌, arith}
use Rattle.std.specs.List.{slice_get, list_any}
use Rattle.indexmap.specs.IndexSet.{insert_key}
use Rattle.decision_diagram.specs.contracts.node.NodePartialEq.TheImpl.{eq-value}
use Rattle.decision_diagram.specs.declared.node.Node.{Node}
use Rattle.decision_diagram.specs.declared.node.Node.TheVariants as node
use Rattle.circuit.specs.Value.{value_at}
use Rattle.decision_diagram.specs.Tree.{Tree, branch, value, IsReduced}
use Rattle.decision_diagram.specs.Table.{Table, Extends, IsFoundOrAdded, IsTable, HasValue, IsOf, LooksFrom, diagram, table_of, value_in}
use Rattle.decision_diagram.proofs.Extending.{extends_itself, looks_earlier, reduced_earlier}
use Rattle.decision_diagram.proofs.Growing.{by_place, table_grown, newest_tree, extends_by_one}
use Rattle.decision_diagram.proofs.SameNode.{absent}

-- what a branch is made of
pub record AreParts (table : Table) (bit low high : ℕ) : Type 0 where
  pub bit_within : bit < table.bits
  pub low_within : IsOf table low
  pub high_within : IsOf table high
  pub two : low ≡ high → ⊥
  pub low_later : LooksFrom table (bit + 1) low
  pub high_later : LooksFrom table (bit + 1) high

-- the new table has the branch at this place, and one node more than the old one at most
pub record IsPlaced (old new : Table) (bit low high d : ℕ) : Type 0 where
  pub table : IsTable new
  pub nodes : IsFoundOrAdded old new (node.Branch bit low high) d
  pub tree : diagram new d ≡ branch bit (diagram old low) (diagram old high)
  pub older : Extends old new

-- with parts of a table it is ordered and reduced
pub reduced_branch : (table : Table) (bit low high : ℕ) → IsTable table → AreParts table bit low high → IsReduced bit table.bits (branch bit (diagram table low) (diagram table high))
reduced_branch table bit low high is parts =
    (omega arith, parts.bit_within, (λ same. parts.two (is.different low high parts.low_within parts.high_within same)), parts.low_later, parts.high_later)

-- a branch that is there stays where it is
found : (old : Table) (bit low high d : ℕ) → IsTable old → slice_get old.nodes d ≡ Some (node.Branch bit low high) → IsPlaced old old bit low high d
found old bit low high d is there = record {
  table = is;
  nodes = inl (refl, there);
  tree = is.built d (node.Branch bit low high) there;
  older = extends_itself old;
}

-- one that is not there goes behind all others
added : (old : Table) (bit low high d : ℕ) → IsTable old → AreParts old bit low high → list_any ((eq-value).it (node.Branch bit low high)) old.nodes ≡ false →
    slice_get (old.nodes ++ node.Branch bit low high ∷ []) d ≡ Some (node.Branch bit low high) → IsPlaced old (table_of old.bits (old.nodes ++ node.Branch bit low high ∷ [])) bit low high d
added old bit low high d is parts none there =
    let n : Node = node.Branch bit low high in
    let new : (place : ℕ) → slice_get old.nodes place ≡ Some n → ⊥ = absent old.nodes n none in
    let tree : Tree = branch bit (diagram old low) (diagram old high) in
    let reduced : IsReduced 0 old.bits tree = reduced_earlier 0 bit old.bits tree (omega arith) (reduced_branch old bit low high is parts) in
    let last : d ≡ length old.nodes = elim (by_place old.nodes n d n there) [
      | inl was ↦ absurd (new d was)
      | inr at ↦ at.0
    ] in
    record {
      table = table_grown old.bits old.nodes n is (parts.low_within, parts.high_within) new reduced;
      nodes = inr (refl, last);
      tree = ap (diagram (table_of old.bits (old.nodes ++ n ∷ []))) last ∙ newest_tree old.bits old.nodes n;
      older = extends_by_one old.bits old.nodes n;
    }

-- the set of nodes does one of the two
pub placed : (old : Table) (nodes : List Node) (bit low high d : ℕ) → IsTable old → AreParts old bit low high → nodes ≡ insert_key (eq-value).it old.nodes (node.Branch bit low high) →
    slice_get nodes d ≡ Some (node.Branch bit low high) → IsPlaced old (table_of old.bits nodes) bit low high d
placed old nodes bit low high d is parts keys there = by (list_any ((eq-value).it (node.Branch bit low high)) old.nodes) refl keys
  where
    n : Node
    n = node.Branch bit low high

    by : (t : Bool) → list_any ((eq-value).it n) old.nodes ≡ t → nodes ≡ (if t then old.nodes else old.nodes ++ n ∷ []) → IsPlaced old (table_of old.bits nodes) bit low high d
    by true some same = rw same (found old bit low high d is (ap (λ ns. slice_get ns d) (sym same) ∙ there))
    by false none longer = rw longer (added old bit low high d is parts none (ap (λ ns. slice_get ns d) (sym longer) ∙ there))

-- what is placed has the values of a branch
pub placed_value : {E : Type 0} (old new : Table) (bit low high : ℕ) (placed : Result ℕ E) → IfOk placed (IsOf new) → IfOk placed (λ d. diagram new d ≡ branch bit (diagram old low) (diagram old high)) →
    IfOk placed (HasValue new (λ bits. if value_at bits bit then value_in old high bits else value_in old low bits))
placed_value old new bit low high (Ok d) within tree = record { within = within; value = λ bits. ap (λ t. value t bits) tree }
placed_value old new bit low high (Err e) within tree = tt

-- it looks at no bit before its own
pub placed_from : (old new : Table) (bit low high d : ℕ) → IsTable old → AreParts old bit low high → Extends old new →
    diagram new d ≡ branch bit (diagram old low) (diagram old high) → LooksFrom new bit d
placed_from old new bit low high d is parts older tree = rw (older.bits, tree) (reduced_branch old bit low high is parts)

-- what `branch` needs besides: one end alone looks at later bits, and what is placed has a branch's values
pub ruleset branch_rules = (looks_earlier, placed_value)
