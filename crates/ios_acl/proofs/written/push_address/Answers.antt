use Rattle.std.proofs.Common.{rules, append_assoc}
use Rattle.ios_lex.specs.Address.{dotted}
use Rattle.ios_acl.proofs.written.push_address.Goals as goal

pub returns : goal.returns
unfolding dotted
returns c = search (rules, append_assoc)
