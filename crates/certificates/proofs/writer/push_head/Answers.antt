use Rattle.std.proofs.Common.{ap, ◌∙◌, ◌++◌, codes}
use Rattle.std.specs.Fmt.{decimal}
use Rattle.certificates.proofs.HeadTexts.{written_head}
use Rattle.certificates.proofs.writer.push_head.Goals as goal

pub returns : goal.returns
returns c =
    c.in_ok-push.ensures.items ∙ ap (λ t. t ++ codes "\n") (c.in_ok-push_number.ensures ∙ ap (λ t. t ++ decimal c.args.line) c.in_ok-extend_from_slice.ensures.items)
    ∙ written_head c.args.text.now.items c.args.line
