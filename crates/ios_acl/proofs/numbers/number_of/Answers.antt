use Rattle.std.proofs.lemmas.Option.{IfSome_then}
use Rattle.ios_acl.proofs.Rising.{next_is_free}
use Rattle.ios_acl.proofs.numbers.number_of.Goals as goal

pub returns-in-None-clause-free : goal.returns-in-None-clause-free
returns-in-None-clause-free c = IfSome_then c.next_number.result c.next_number.ensures.found (λ n next. next_is_free n c.args.entries.now next)
