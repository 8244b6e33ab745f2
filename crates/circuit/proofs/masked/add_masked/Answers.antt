use Rattle.std.proofs.Common.{◌∙◌, ◌∷◌, ◌++◌, [], ap}
use Rattle.circuit.specs.Gates.{fixed_nodes}
use Rattle.circuit.specs.Value.{Grows}
use Rattle.circuit.proofs.Extend.{Grows-trans}
use Rattle.circuit.proofs.Tests.{nodes_stay}
use Rattle.circuit.proofs.Wildcard.{fixed_within, with_last}
use Rattle.circuit.proofs.masked.add_masked.Goals as goal

pub and-requires : goal.and-requires
and-requires c =
    let ones = fixed_nodes c.args.bits.now c.args.value c.args.wildcard 1 in
    let grown : Grows c.args.circuit.now c.not.new.self = Grows-trans _ _ _ c.add_differing.ensures.grown c.not.ensures.grown in
    rw (c.as_slice.ensures.value ∙ c.in_ok-push.ensures.items ∙ ap (λ nodes. nodes ++ c.in_ok-alike.alike ∷ []) c.in_ok-parts.ensures)
    (with_last c.not.new.self ones c.in_ok-alike.alike (nodes_stay _ _ ones grown (fixed_within c.args.circuit.now c.args.bits.now c.args.value c.args.wildcard 1 c.requires.nodes)) c.in_ok-alike.ensures.within)
