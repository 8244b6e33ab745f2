use Rattle.std.proofs.Common.{Some, ap, ap₂, ◌∙◌}
use Rattle.std.proofs.lemmas.Option.{slice_get-get_or}
use Rattle.circuit.specs.Sharing.{made, node_of}
use Rattle.circuit.proofs.Sharing.{same_decides, there_is_found, new_is_added}
use Rattle.circuit.proofs.laws.gates_are_shared.Goals as goal

pub returns-clause-same : goal.returns-clause-same
returns-clause-same c = same_decides

pub returns-clause-place : goal.returns-clause-place
returns-clause-place c = λ gates g there.
    let found = there_is_found gates g there in
    slice_get-get_or gates (node_of gates g) g found.within ∙ ap Some found.there

pub returns-clause-found : goal.returns-clause-found
returns-clause-found c = λ gates g there. ap (λ new. made new (node_of gates g)) (there_is_found gates g there).stays

pub returns-clause-added : goal.returns-clause-added
returns-clause-added c = λ gates g new.
    let added = new_is_added gates g new in
    ap₂ made added.longer added.node
