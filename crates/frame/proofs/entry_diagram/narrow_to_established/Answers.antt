use Rattle.std.proofs.Common.{refl}
use Rattle.ios_acl.specs.Matching.{matches_established}
use Rattle.sorted_logic.specs.declared.request.Field.TheVariants as field
use Rattle.frame.proofs.FieldPlaces.{field_bound}
use Rattle.frame.proofs.MatchTests.{established_flags}
use Rattle.frame.proofs.PacketTests.{narrows_as, narrows_nothing}
use Rattle.frame.proofs.entry_diagram.narrow_to_established.Goals as goal

pub returns-then-not-wanted-clause-narrows : goal.returns-then-not-wanted-clause-narrows
returns-then-not-wanted-clause-narrows c =
    narrows_nothing c.args.table.now field.Flags (λ packet. matches_established packet.flags c.args.wanted) c.args.other (λ packet. rw c.if-not-wanted.true refl) c.requires

pub returns-clause-narrows : goal.returns-clause-narrows
returns-clause-narrows c =
    narrows_as _ _ field.Flags _ (λ packet. matches_established packet.flags c.args.wanted) c.args.other _
    (λ bits packet is. rw c.if-not-wanted.false (established_flags packet.flags (rw (is.fields field.Flags) at (field_bound field.Flags bits))))
    c.in_ok-narrowed.ensures.narrows
