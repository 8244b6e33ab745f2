use Rattle.std.proofs.Common.{not, ap, refl}
use Rattle.ios_acl.specs.Matching.{matches_port}
use Rattle.frame.specs.Scenario.{request_of}
use Rattle.frame.proofs.MatchTests.{agrees_exactly}
use Rattle.frame.proofs.PacketTests.{narrows_as, narrows_nothing}
use Rattle.frame.proofs.entry_diagram.narrow_to_ports.Goals as goal

pub returns-in-Any-clause-narrows : goal.returns-in-Any-clause-narrows
returns-in-Any-clause-narrows c =
    narrows_nothing c.args.table.now c.args.field (λ packet. matches_port (request_of packet c.args.field) c.args.ports) c.args.other (λ packet. rw c.in-Any.is refl) c.requires

pub returns-in_ok-narrowed-in-Not-clause-narrows : goal.returns-in_ok-narrowed-in-Not-clause-narrows
returns-in_ok-narrowed-in-Not-clause-narrows c =
    narrows_as _ _ c.args.field _ (λ packet. matches_port (request_of packet c.args.field) c.args.ports) c.args.other _
    (λ bits packet is. rw (c.from-in-Not.ensures, c.in-Not.is) (ap not (agrees_exactly (request_of packet c.args.field) c.in-Not.port)))
    c.in_ok-narrowed-in-Not.ensures.narrows
