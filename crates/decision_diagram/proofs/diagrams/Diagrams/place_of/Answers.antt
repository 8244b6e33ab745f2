use Rattle.std.proofs.Common.{◌≡◌, sym, subst, arith, rules}
use Rattle.std.proofs.lemmas.Bool.Decides.{nat_tests}
use Rattle.indexmap.specs.IndexSet.{insert_key}
use Rattle.decision_diagram.specs.contracts.node.NodePartialEq.TheImpl.{eq-value}
use Rattle.decision_diagram.specs.declared.node.Node.{Node}
use Rattle.decision_diagram.specs.declared.node.Node.TheVariants as node
use Rattle.decision_diagram.specs.Table.{Table, IsTable, table_of}
use Rattle.decision_diagram.proofs.SameNode.{stored_there}
use Rattle.decision_diagram.proofs.Placing.{IsPlaced, placed, placed_from}
use Rattle.decision_diagram.proofs.diagrams.Diagrams.place_of.Goals as goal

is_table : (c : goal.After-at) → IsTable c.args.self.now
is_table c = subst IsTable c.self.view_is c.self.invariant.0

put : (c : goal.After-at) → IsPlaced c.args.self.now (table_of c.self.inside.bits c.insert_full.new.self.keys) c.args.bit c.args.low c.args.high c.at.result
put c =
    let n : Node = node.Branch c.args.bit c.args.low c.args.high in
    let there = stored_there c.insert_full.new.self.keys n c.in_ok-place.place c.in_ok-place.ensures.stored in
    let P : Table → Type 0 = λ old. c.insert_full.new.self.keys ≡ insert_key (eq-value).it old.nodes n → IsPlaced c.args.self.now (table_of old.bits c.insert_full.new.self.keys) c.args.bit c.args.low c.args.high c.in_ok-place.place in
    rw c.at.ensures (subst P (sym c.self.view_is) (λ keys. placed c.args.self.now c.insert_full.new.self.keys c.args.bit c.args.low c.args.high c.in_ok-place.place (is_table c) (search rules) keys there) c.in_ok-place.ensures.keys)

pub invariant_of-self-2 : goal.invariant_of-self-2
invariant_of-self-2 c = ((put c).table, grind (arith, nat_tests, c.len.ensures.len, c.if-len-ge-MOST_NODES.false, c.in_ok-place.ensures.len))

pub returns-clause-tree : goal.returns-clause-tree
returns-clause-tree c = (put c).tree

pub returns-clause-nodes : goal.returns-clause-nodes
returns-clause-nodes c = (put c).nodes

pub returns-clause-older : goal.returns-clause-older
returns-clause-older c = (put c).older

pub returns-clause-from : goal.returns-clause-from
returns-clause-from c =
    placed_from c.args.self.now (table_of c.self.inside.bits c.insert_full.new.self.keys) c.args.bit c.args.low c.args.high c.at.result (is_table c) (search rules) (put c).older (put c).tree
