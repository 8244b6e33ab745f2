use Rattle.std.proofs.Common.{rules, ◌≡◌, ◌≤◌, None, length, replicate, sym, ap, subst, ◌∙◌, arith}
use Rattle.decision_diagram.specs.declared.diagrams.TheConstants.{MOST_NODES}
use Rattle.decision_diagram.specs.Table.{Table, diagram, table_of, trees, two_leaves}
use Rattle.decision_diagram.specs.Listing.{parts, size, with_parts}
use Rattle.decision_diagram.specs.Inside.Copying.{AreCopies}
use Rattle.decision_diagram.proofs.Copying.{alone_is, no_copies, place_alone, two_trees}
use Rattle.decision_diagram.proofs.diagrams.Diagrams.alone.Goals as goal

pub copy_into-requires-clause-copies : goal.copy_into-requires-clause-copies
copy_into-requires-clause-copies c =
    let fresh : c.in_ok-fresh.fresh ≡ table_of c.args.self.now.bits two_leaves = c.in_ok-fresh.ensures ∙ ap (λ bits. table_of bits two_leaves) c.bits.ensures.bits in
    let items : c.in_ok-copies.copies.items ≡ replicate (length c.args.self.now.nodes) None = c.in_ok-copies.ensures.items_if_clones_equal (λ y cloned. search rules) ∙ ap (λ n. replicate n None) c.node_count.ensures.count in
    subst (λ (table : Table). AreCopies c.args.self.now table c.in_ok-copies.copies.items) (sym fresh) (no_copies c.args.self.now c.in_ok-copies.copies.items items)

pub copy_into-requires-clause-room : goal.copy_into-requires-clause-room
copy_into-requires-clause-room c =
    let start : trees c.in_ok-fresh.fresh.nodes ≡ trees two_leaves = ap (λ (table : Table). trees table.nodes) c.in_ok-fresh.ensures in
    let whole : with_parts (trees c.in_ok-fresh.fresh.nodes) (diagram c.args.self.now c.args.root) ≡ parts (diagram c.args.self.now c.args.root) = ap (λ ts. with_parts ts (diagram c.args.self.now c.args.root)) (start ∙ two_trees) in
    let most : size (diagram c.args.self.now c.args.root) ≤ c.node_count.result = c.node_count.ensures.sizes c.args.root c.requires in
    subst (λ ts. length ts ≤ MOST_NODES) (sym whole) (omega (arith, most, c.node_count.ensures.most))

pub returns-clause-nodes : goal.returns-clause-nodes
returns-clause-nodes c =
    let start : trees c.in_ok-fresh.fresh.nodes ≡ trees two_leaves = ap (λ (table : Table). trees table.nodes) c.in_ok-fresh.ensures in
    alone_is c.copy_into.new.fresh c.args.self.now.bits (diagram c.args.self.now c.args.root) c.in_ok-copy.ensures.copies.table c.in_ok-copy.ensures.copies.bits
    (c.in_ok-copy.ensures.trees ∙ ap (λ ts. with_parts ts (diagram c.args.self.now c.args.root)) start)

pub returns-clause-place : goal.returns-clause-place
returns-clause-place c =
    let start : trees c.in_ok-fresh.fresh.nodes ≡ trees two_leaves = ap (λ (table : Table). trees table.nodes) c.in_ok-fresh.ensures in
    place_alone c.copy_into.new.fresh (diagram c.args.self.now c.args.root) c.in_ok-copy.copy c.in_ok-copy.ensures.copies.table
    (c.in_ok-copy.ensures.trees ∙ ap (λ ts. with_parts ts (diagram c.args.self.now c.args.root)) start) c.in_ok-copy.ensures.within c.in_ok-copy.ensures.same
