use Rattle.std.proofs.Common.{ℕ, ◌<◌, List, length, take, sym, arith, subst}
use Rattle.std.proofs.lemmas.List.Sums.{count_by-le-length}
use Rattle.std.proofs.lemmas.Result.{IfOk-weaker}
use Rattle.circuit.specs.declared.gate.Gate.{Gate}
use Rattle.circuit.specs.Clauses.{circuit_formula, completion}
use Rattle.circuit.specs.Least as inputs
use Rattle.circuit.specs.Value.{IsCircuit, is_input}
use Rattle.circuit.proofs.Completion.{begins_least, models_of}
use Rattle.frame.specs.Meaning.{AskFor, HasBits}
use Rattle.frame.proofs.FieldPlaces.{least_packet, no_packet}
use Rattle.frame.proofs.packet_circuit.PacketCircuit.clauses.Goals as goal

asks : (gates : List Gate) (bits : List ℕ) (root : ℕ) → HasBits gates bits → IsCircuit gates → root < length gates → AskFor gates root (circuit_formula gates root)
asks gates bits root has circuit within = record {
  bits = let few = count_by-le-length is_input gates in omega (arith, few, has.inputs);
  first = λ meaning values packet means is_least is.
      let begins : inputs.IsLeast gates root (take 126 values) = subst (λ n. inputs.IsLeast gates root (take n values)) has.inputs (begins_least gates root circuit within values is_least) in
      least_packet gates bits root (take 126 values) packet meaning has begins is means;
  none = λ meaning packet means none holds.
      no_packet gates bits root meaning packet has (λ given satisfies. none (completion gates given) ((models_of gates root circuit within).model given satisfies)) means holds;
}

pub returns : goal.returns
returns c =
    let gates = c.self.inside.circuit in
    let root = c.args.root in
    rw (← c.self.view_is)
    (IfOk-weaker c.to_cnf.result _ (AskFor gates root)
    (λ formula is. subst (AskFor gates root) (sym is) (asks gates c.self.inside.bits.items root c.self.invariant c.to_cnf.ensures.circuit (rw (← c.self.view_is) at c.requires)))
    c.to_cnf.ensures.formula)
