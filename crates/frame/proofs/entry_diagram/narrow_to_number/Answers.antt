use Rattle.std.proofs.Common.{refl}
use Rattle.ios_acl.specs.Matching.{matches_code}
use Rattle.frame.specs.Scenario.{request_of}
use Rattle.frame.proofs.MatchTests.{agrees_exactly}
use Rattle.frame.proofs.PacketTests.{narrows_as, narrows_nothing}
use Rattle.frame.proofs.entry_diagram.narrow_to_number.Goals as goal

pub returns-in-None-clause-narrows : goal.returns-in-None-clause-narrows
returns-in-None-clause-narrows c =
    narrows_nothing c.args.table.now c.args.field (λ packet. matches_code (request_of packet c.args.field) c.args.wanted) c.args.other (λ packet. rw c.in-None.is refl) c.requires

pub returns-in_ok-narrowed-in-Some-clause-narrows : goal.returns-in_ok-narrowed-in-Some-clause-narrows
returns-in_ok-narrowed-in-Some-clause-narrows c =
    narrows_as _ _ c.args.field _ (λ packet. matches_code (request_of packet c.args.field) c.args.wanted) c.args.other _
    (λ bits packet is. rw (c.from.ensures, c.in-Some.is) (agrees_exactly (request_of packet c.args.field) c.in-Some.value))
    c.in_ok-narrowed-in-Some.ensures.narrows
