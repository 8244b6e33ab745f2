use Rattle.bit_patterns.specs.Patterns.{within}
use Rattle.frame.proofs.PacketTests.{narrows_if_made}
use Rattle.frame.proofs.packet_diagrams.PacketDiagrams.within.Goals as goal

pub returns-clause-narrows : goal.returns-clause-narrows
returns-clause-narrows c =
    rw (← c.self.view_is)
    (narrows_if_made c.made.result c.range.result c.self.inside.table c.range.new.self c.args.field (λ n. within c.args.low c.args.high n) c.args.other
    c.made.ensures
    (rw (c.field_place-first.ensures.first, c.field_place-first.ensures.width, c.from.ensures, c.from-2.ensures) at c.range.ensures.value)
    (rw c.field_place-first.ensures.first at c.range.ensures.from))
