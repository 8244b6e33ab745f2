use Rattle.std.proofs.Common.{sym}
use Rattle.sorted_logic.proofs.JoinedSignatures.{other_length}
use Rattle.sorted_logic.proofs.clash.same_sort_names.Goals as goal

pub returns-then-left-right : goal.returns-then-left-right
returns-then-left-right c = sym (other_length c.args.a.now c.args.b.now c.args.left.now c.args.right.now (λ same. c.if-left-right.true same))
