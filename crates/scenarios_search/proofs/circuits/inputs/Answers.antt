use Rattle.std.proofs.Common.{◌≡◌, ◌+◌, ◌∷◌, ◌++◌, [], ap, ◌∙◌}
use Rattle.std.proofs.lemmas.List.{length_push}
use Rattle.circuit.proofs.Extend.{AreNodes-input}
use Rattle.scenarios_search.proofs.circuits.inputs.Goals as goal

pub loop-preserved : goal.loop-preserved
loop-preserved c =
    let kept = c.loop.invariant in
    let node = c.in_ok-input.field-0 in
    let items : c.push.new.self.items ≡ c.loop.bits.items ++ node ∷ [] = c.in_ok-push.ensures.items in
    record {
      nodes =
          rw items (AreNodes-input c.loop.circuit c.input.new.self c.loop.bits.items node c.in_ok-input.ensures.circuit c.in_ok-input.ensures.node c.in_ok-input.ensures.older kept.nodes);
      count = rw items (length_push c.loop.bits.items node ∙ ap (λ n. n + 1) kept.count);
    }
