use Rattle.std.proofs.Common.{◌≡◌, ap, ◌∙◌}
use Rattle.ios_acl.specs.Block.{empty_list}
use Rattle.ios_lists.proofs.NumberedLines.{first_fails, first_read}
use Rattle.ios_lists.proofs.lists.Lists.add_first.Goals as goal

pub returns-in-Err-clause-refused : goal.returns-in-Err-clause-refused
returns-in-Err-clause-refused c =
    let list : c.new-list.result ≡ empty_list c.args.name.now c.args.extended = c.new-list.ensures ∙ ap (λ n. empty_list n c.args.extended) c.in-Ok.ensures in
    first_fails c.args.self.now c.args.name.now c.args.extended c.args.rule.now c.new-list.result c.in-Err.fault c.requires list c.in-Err.ensures.refused

pub returns-in-Ok-push-clause-read : goal.returns-in-Ok-push-clause-read
returns-in-Ok-push-clause-read c =
    let list : c.new-list.result ≡ empty_list c.args.name.now c.args.extended = c.new-list.ensures ∙ ap (λ n. empty_list n c.args.extended) c.in-Ok.ensures in
    first_read c.args.self.now c.push.new.self c.args.name.now c.args.extended c.args.rule.now c.new-list.result c.read_line.new.self c.requires list c.in_default-read_line.ensures.read c.in-Ok-push.ensures.pushed
