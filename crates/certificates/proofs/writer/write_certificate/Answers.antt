use Rattle.std.proofs.Common.{◌++◌, codes, ap, ◌∙◌, arith}
use Rattle.std.specs.List.{flat_map}
use Rattle.std.proofs.lemmas.List.{take_all}
use Rattle.certificates.specs.Text.{head_text, item_text}
use Rattle.certificates.proofs.WrittenTexts.{pushed_more, pushed_certificate}
use Rattle.certificates.proofs.writer.write_certificate.Goals as goal

pub loop-item-preserved : goal.loop-item-preserved
loop-item-preserved c =
    pushed_more (λ i. item_text i ++ codes "\n") (head_text 2 c.args.c.now.line ++ codes "\n") c.loop-item.text.items c.push_item.new.text.items c.items-item-items.result.now c.loop-item.item-index c.item-item.result (omega arith) c.item-item.is c.loop-item.invariant c.in_ok-push_item.ensures

pub returns : goal.returns
returns c =
    pushed_certificate c.args.c.now c.loop-item.text.items c.extend_from_slice.new.self.items
    (c.loop-item.invariant ∙ ap (λ is. (head_text 2 c.args.c.now.line ++ codes "\n") ++ flat_map (λ i. item_text i ++ codes "\n") is) (take_all c.loop-item.item-index c.items-item-items.result.now (omega arith) ∙ c.items-item-items.ensures))
    c.in_ok-extend_from_slice.ensures.items
