use Rattle.std.proofs.Common.{refl, arith}
use Rattle.ios_acl.specs.Matching.{matches_icmp}
use Rattle.sorted_logic.specs.declared.request.Field.TheVariants as field
use Rattle.decision_diagram.proofs.Extending.{looks_earlier}
use Rattle.frame.proofs.PacketTests.{narrows_nothing}
use Rattle.frame.proofs.entry_diagram.narrow_to_message.Goals as goal

pub returns-in-None-clause-narrows : goal.returns-in-None-clause-narrows
returns-in-None-clause-narrows c =
    narrows_nothing c.args.table.now field.IcmpType (λ packet. matches_icmp packet.icmp_type packet.icmp_code c.args.wanted) c.args.other (λ packet. rw c.in-None.is refl)
    (record { within = c.requires.within; later = looks_earlier c.args.table.now 118 126 c.args.other (omega arith) c.requires.later })
