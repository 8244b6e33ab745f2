use Rattle.std.proofs.Common.{◌≡◌, ◌+◌, ◌∷◌, ◌++◌, [], ap, ◌∙◌, arith}
use Rattle.std.proofs.lemmas.List.{length_push, take_all}
use Rattle.circuit.specs.Value.{input_count}
use Rattle.circuit.proofs.Extend.{AreNodes-input}
use Rattle.frame.proofs.Nodes.{bits_more, input_more}
use Rattle.frame.proofs.inputs.inputs.Goals as goal

pub loop-preserved : goal.loop-preserved
loop-preserved c =
    let kept = c.loop.invariant in
    let node = c.in_ok-input.field-0 in
    let items : c.push.new.self.items ≡ c.loop.nodes.items ++ node ∷ [] = c.in_ok-push.ensures.items in
    record {
      nodes =
          rw items (AreNodes-input c.loop.circuit c.input.new.self c.loop.nodes.items node c.in_ok-input.ensures.circuit c.in_ok-input.ensures.node c.in_ok-input.ensures.older kept.nodes);
      count = rw items (length_push c.loop.nodes.items node ∙ ap (λ n. n + 1) kept.count);
      inputs = ap input_count c.in_ok-input.ensures.circuit ∙ input_more c.loop.circuit ∙ ap (λ n. n + 1) kept.inputs;
      values = λ inputs long.
          rw items
          (bits_more c.loop.circuit c.input.new.self c.loop.nodes.items node c.loop.counter inputs c.in_ok-input.ensures.older kept.nodes (kept.values inputs long)
          (rw kept.inputs at (c.in_ok-input.ensures.value inputs)) (omega arith));
    }

pub returns : goal.returns
returns c =
    let kept = c.loop.invariant in
    let all : c.loop.counter ≡ c.args.count = omega arith in
    record {
      nodes_within = kept.nodes;
      count_is = kept.count ∙ all;
      inputs = kept.inputs ∙ all;
      values = λ inputs long. kept.values inputs long ∙ take_all c.loop.counter inputs (omega arith);
    }
