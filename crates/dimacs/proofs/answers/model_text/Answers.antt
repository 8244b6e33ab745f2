use Rattle.std.proofs.Common.{◌++◌, ◌∙◌, codes, ap, arith}
use Rattle.std.proofs.lemmas.List.{take_all}
use Rattle.dimacs.proofs.AnswerTexts.{pushed_lit, whole_model}
use Rattle.dimacs.proofs.answers.model_text.Goals as goal

pub push_lit-requires : goal.push_lit-requires
push_lit-requires c = omega (arith, ap (λ l. l.var) c.new.ensures)

pub loop-var-preserved : goal.loop-var-preserved
loop-var-preserved c =
    pushed_lit (codes "s SATISFIABLE\nv ") c.loop-var.text.items c.push.new.self.items c.args.values.now c.loop-var.var _ c.new.result (omega arith) c.new.ensures c.loop-var.invariant
    (c.in_ok-push.ensures.items ∙ ap (λ t. t ++ codes " ") c.in_ok-push_lit.ensures)

pub returns : goal.returns
returns c = whole_model c.loop-var.text.items c.extend_from_slice.new.self.items c.args.values.now _ (take_all c.loop-var.var c.args.values.now (omega arith)) c.loop-var.invariant c.in_ok-extend_from_slice.ensures.items
