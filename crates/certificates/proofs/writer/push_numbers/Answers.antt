use Rattle.std.proofs.Common.{◌++◌, codes, ap, ◌∙◌, arith, rules}
use Rattle.std.specs.List.{flat_map}
use Rattle.std.proofs.lemmas.List.{take_all}
use Rattle.std.specs.Fmt.{decimal}
use Rattle.certificates.proofs.WrittenTexts.{pushed_more, pushed_twice, pushed_list}
use Rattle.certificates.proofs.writer.push_numbers.Goals as goal

pub loop-n-preserved : goal.loop-n-preserved
loop-n-preserved c =
    pushed_more (λ x. decimal x ++ codes " ") c.args.text.now.items c.loop-n.text.items c.push.new.self.items c.args.numbers.now c.loop-n.n-index _ (omega arith) (search rules) c.loop-n.invariant
    (pushed_twice c.loop-n.text.items c.push_number.new.text.items c.push.new.self.items _ (codes " ") c.in_ok-push_number.ensures c.in_ok-push.ensures.items)

pub returns : goal.returns
returns c =
    pushed_list decimal c.args.text.now.items c.loop-n.text.items c.push-2.new.self.items c.args.numbers.now
    (c.loop-n.invariant ∙ ap (λ xs. c.args.text.now.items ++ flat_map (λ x. decimal x ++ codes " ") xs) (take_all c.loop-n.n-index c.args.numbers.now (omega arith)))
    c.in_ok-push-2.ensures.items
