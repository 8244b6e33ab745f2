use Rattle.std.proofs.Common.{rules, ◌≡◌, ℕ, length, set, Some, sym, ap, subst, ◌∙◌, arith}
use Rattle.decision_diagram.specs.declared.diagrams.TheConstants.{MOST_NODES}
use Rattle.decision_diagram.specs.Tree.{Tree}
use Rattle.decision_diagram.specs.Table.{diagram, trees}
use Rattle.decision_diagram.specs.Listing.{with_parts}
use Rattle.decision_diagram.specs.Inside.Copying.{AreCopies}
use Rattle.decision_diagram.proofs.Growing.{length_trees}
use Rattle.decision_diagram.proofs.Copying.{IsAdded, copied_before, first_visit, one_more, whole_copied}
use Rattle.decision_diagram.proofs.diagrams.Diagrams.+copy_into.Goals as goal

pub returns-in-Some-clause-trees : goal.returns-in-Some-clause-trees
returns-in-Some-clause-trees t c =
    copied_before c.args.self.now c.args.fresh.now c.args.copies.now.items c.args.root c.place.result c.in-Some.copy c.index.result.now c.requires.copies c.requires.root c.place.ensures c.index.ensures c.in-Some.is

pub copy_into-requires : goal.copy_into-requires
copy_into-requires t c =
    let low : Tree = diagram c.args.self.now c.in-Branch.low in
    let high : Tree = diagram c.args.self.now c.in-Branch.high in
    let visit = first_visit c.args.self.now c.args.fresh.now c.args.copies.now.items c.args.root c.place.result c.in-Branch.bit MOST_NODES low high c.index.result.now
    c.requires.copies c.requires.root c.in-Branch.ensures.built c.requires.room c.place.ensures c.index.ensures c.in_default.is in
    (search rules, (search rules, (c.requires.copies, visit.room_for_low)))

pub place_in_room-requires-clause-room : goal.place_in_room-requires-clause-room
place_in_room-requires-clause-room t c =
    let low : Tree = diagram c.args.self.now c.in-Branch.low in
    let high : Tree = diagram c.args.self.now c.in-Branch.high in
    let visit = first_visit c.args.self.now c.args.fresh.now c.args.copies.now.items c.args.root c.place.result c.in-Branch.bit MOST_NODES low high c.index.result.now
    c.requires.copies c.requires.root c.in-Branch.ensures.built c.requires.room c.place.ensures c.index.ensures c.in_default.is in
    let both : trees c.copy_into-in-Branch.new.fresh.nodes ≡ with_parts (with_parts (trees c.args.fresh.now.nodes) low) high = c.in_ok-high_copy-in-Branch.ensures.trees ∙ ap (λ ts. with_parts ts high) c.in_ok-low_copy-in-Branch.ensures.trees in
    omega (arith, visit.room_for_both, ap length both, length_trees c.copy_into-in-Branch.new.fresh.nodes)

abbrev Whole : (t : ℕ) → goal.After-copies-1 t → Type 0
Whole t c =
    IsAdded c.copy_into-in-Branch.new.fresh c.place_in_room.new.fresh (diagram c.args.self.now c.args.root) c.in_ok-copy-in-Branch.copy
    × (trees c.place_in_room.new.fresh.nodes ≡ with_parts (trees c.args.fresh.now.nodes) (diagram c.args.self.now c.args.root))

whole : (t : ℕ) (c : goal.After-copies-1 t) → Whole t c
whole t c =
    let low : Tree = diagram c.args.self.now c.in-Branch.low in
    let high : Tree = diagram c.args.self.now c.in-Branch.high in
    let visit = first_visit c.args.self.now c.args.fresh.now c.args.copies.now.items c.args.root c.place.result c.in-Branch.bit MOST_NODES low high c.index.result.now
    c.requires.copies c.requires.root c.in-Branch.ensures.built c.requires.room c.place.ensures c.index.ensures c.in_default.is in
    whole_copied c.args.self.now c.args.fresh.now c.copy_into.new.fresh c.copy_into-in-Branch.new.fresh c.place_in_room.new.fresh c.copy_into-in-Branch.new.copies.items
    c.args.root c.in-Branch.bit MOST_NODES c.in-Branch.low c.in-Branch.high c.in_ok-low_copy-in-Branch.low_copy c.in_ok-high_copy-in-Branch.high_copy c.in_ok-copy-in-Branch.copy
    c.in-Branch.ensures.table c.requires.root c.in_ok-high_copy-in-Branch.ensures.copies c.in-Branch.ensures.built visit
    c.in_ok-low_copy-in-Branch.ensures.trees c.in_ok-low_copy-in-Branch.ensures.within c.in_ok-low_copy-in-Branch.ensures.same
    c.in_ok-high_copy-in-Branch.ensures.trees c.in_ok-high_copy-in-Branch.ensures.older c.in_ok-high_copy-in-Branch.ensures.within c.in_ok-high_copy-in-Branch.ensures.same
    c.in_ok-copy-in-Branch.ensures.older c.in_ok-copy-in-Branch.ensures.nodes

pub returns-in_ok-copy-in-Branch-clause-trees : goal.returns-in_ok-copy-in-Branch-clause-trees
returns-in_ok-copy-in-Branch-clause-trees t c = (whole t c).1

pub returns-in_ok-copy-in-Branch-clause-within : goal.returns-in_ok-copy-in-Branch-clause-within
returns-in_ok-copy-in-Branch-clause-within t c = (whole t c).0.within

pub returns-in_ok-copy-in-Branch-clause-copies : goal.returns-in_ok-copy-in-Branch-clause-copies
returns-in_ok-copy-in-Branch-clause-copies t c =
    subst (λ place. AreCopies c.args.self.now c.place_in_room.new.fresh (set c.copy_into-in-Branch.new.copies.items place (Some c.in_ok-copy-in-Branch.copy))) (sym c.place-in-Branch.ensures)
    (one_more c.args.self.now c.copy_into-in-Branch.new.fresh c.place_in_room.new.fresh c.copy_into-in-Branch.new.copies.items c.args.root c.in_ok-copy-in-Branch.copy
    c.in-Branch.ensures.table c.requires.root c.in_ok-high_copy-in-Branch.ensures.copies c.in_ok-copy-in-Branch.ensures.older (whole t c).0)
