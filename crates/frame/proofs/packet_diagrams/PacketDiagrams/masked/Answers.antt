use Rattle.bit_patterns.specs.Patterns.{agrees}
use Rattle.frame.proofs.PacketTests.{narrows_if_made}
use Rattle.frame.proofs.packet_diagrams.PacketDiagrams.masked.Goals as goal

pub returns-clause-narrows : goal.returns-clause-narrows
returns-clause-narrows c =
    rw (← c.self.view_is)
    (narrows_if_made c.made.result c.masked.result c.self.inside.table c.masked.new.self c.args.field (λ n. agrees n c.args.value c.args.wildcard) c.args.other
    c.made.ensures
    (rw (c.field_place-first.ensures.first, c.field_place-first.ensures.width, c.from.ensures, c.from-2.ensures) at c.masked.ensures.value)
    (rw c.field_place-first.ensures.first at c.masked.ensures.from))
