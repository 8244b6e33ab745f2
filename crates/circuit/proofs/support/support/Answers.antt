use Rattle.std.proofs.Common.{◌≡◌, List, Bool, Ok, Err, IfOk, length, subst}
use Rattle.circuit.specs.Value.{input_count}
use Rattle.circuit.specs.Support.{AreInputsNeeded, IsSupportBy}
use Rattle.circuit.proofs.Depends.{cone_supports}
use Rattle.circuit.proofs.support.support.Goals as goal

pub returns : goal.returns
returns c =
    let P : List Bool → Type 0 = λ marked. IfOk c.needed_inputs.result (λ needed. AreInputsNeeded c.args.gates.now marked needed.items) in
    let needed = subst P c.as_slice.ensures.value c.needed_inputs.ensures.needed in
    let gates = c.args.gates.now in
    let answer =
    elim c.needed_inputs.result as (λ r. IfOk r (λ needed. length needed.items ≡ input_count gates) → IfOk r (λ needed. AreInputsNeeded gates c.in_ok-marked.marked.items needed.items) → IfOk r (λ needed. IsSupportBy gates c.args.root c.args.table.now needed.items)) [
      | Ok v ↦ λ count inputs. cone_supports gates c.args.root c.args.table.now c.in_ok-marked.marked.items v.items c.requires.circuit c.requires.root c.in_ok-marked.ensures count inputs
      | Err e ↦ λ count inputs. tt
    ] in
    answer c.needed_inputs.ensures.count needed
