use Rattle.std.proofs.Common.{length, map, ap, ◌∙◌}
use Rattle.circuit.specs.Append.{number_at}
use Rattle.circuit.proofs.Copies.{moved_below}
use Rattle.circuit.proofs.append.add_copy.Goals as goal

pub find_or_add-requires-clause-next : goal.find_or_add-requires-clause-next
find_or_add-requires-clause-next c =
    let nodes = c.args.nodes.now in
    rw (c.new.ensures ∙ c.in_ok-moved-in-And.ensures ∙ ap (map (number_at nodes)) c.nodes.ensures)
    (record { parts = moved_below (length c.args.circuit.now) nodes c.in-And.parts c.requires.nodes (rw c.in-And.is at c.requires.parts); number = tt })

pub find_or_add-requires-in-Or-clause-next : goal.find_or_add-requires-in-Or-clause-next
find_or_add-requires-in-Or-clause-next c =
    let nodes = c.args.nodes.now in
    rw (c.new-in-Or.ensures ∙ c.in_ok-moved-in-Or.ensures ∙ ap (map (number_at nodes)) c.nodes-in-Or.ensures)
    (record { parts = moved_below (length c.args.circuit.now) nodes c.in-Or.parts c.requires.nodes (rw c.in-Or.is at c.requires.parts); number = tt })
