use Rattle.std.proofs.Common.{◌++◌, codes, ap, ◌∙◌, arith, rules}
use Rattle.std.specs.List.{flat_map}
use Rattle.std.proofs.lemmas.List.{take_all}
use Rattle.certificates.specs.Text.{lit_text}
use Rattle.certificates.proofs.WrittenTexts.{pushed_more, pushed_twice, pushed_list}
use Rattle.certificates.proofs.writer.push_lits.Goals as goal

pub loop-lit-preserved : goal.loop-lit-preserved
loop-lit-preserved c =
    pushed_more (λ x. lit_text x ++ codes " ") c.args.text.now.items c.loop-lit.text.items c.push.new.self.items c.args.lits.now c.loop-lit.lit-index _ (omega arith) (search rules) c.loop-lit.invariant
    (pushed_twice c.loop-lit.text.items c.push_lit.new.text.items c.push.new.self.items _ (codes " ") c.in_ok-push_lit.ensures c.in_ok-push.ensures.items)

pub returns : goal.returns
returns c =
    pushed_list lit_text c.args.text.now.items c.loop-lit.text.items c.push-2.new.self.items c.args.lits.now
    (c.loop-lit.invariant ∙ ap (λ xs. c.args.text.now.items ++ flat_map (λ x. lit_text x ++ codes " ") xs) (take_all c.loop-lit.lit-index c.args.lits.now (omega arith)))
    c.in_ok-push-2.ensures.items
