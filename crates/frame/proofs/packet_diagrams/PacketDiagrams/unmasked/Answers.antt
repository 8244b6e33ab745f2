use Rattle.std.proofs.Common.{ap, arith}
use Rattle.bit_patterns.specs.Patterns.{agrees}
use Rattle.frame.specs.Scenario.{request_of}
use Rattle.frame.specs.Bits.{end_bit, first_bit}
use Rattle.decision_diagram.specs.Tree.{value}
use Rattle.decision_diagram.proofs.Extending.{looks_earlier, looks_later, value_stays}
use Rattle.frame.proofs.PacketTests.{field_ends, unmasked_by}
use Rattle.frame.proofs.packet_diagrams.PacketDiagrams.unmasked.Goals as goal

pub returns-clause-narrows : goal.returns-clause-narrows
returns-clause-narrows c =
    let mid = c.masked.new.self in
    let f = c.args.field in
    unmasked_by c.args.self.now mid c.ite.new.self f (λ packet. agrees (request_of packet f) c.args.value c.args.wildcard) c.leaf-always.result c.in_ok-same.same c.leaf-never.result c.args.other c.in_ok-whole.whole
    c.in_ok-same.ensures.narrows
    (λ bits. ap (λ t. value t bits) c.leaf-always.ensures.leaf)
    (λ bits. ap (λ t. value t bits) c.leaf-never.ensures.leaf)
    (λ bits. value_stays c.args.self.now mid c.args.other bits c.masked.ensures.older c.requires.within)
    c.in_ok-whole.ensures.value
    (c.in_ok-whole.ensures.from (first_bit f) c.in_ok-same.ensures.narrows.from (rw c.leaf-never.ensures.leaf tt)
    (looks_earlier mid (first_bit f) (end_bit f) c.args.other (omega (arith, (field_ends f).0)) (looks_later c.args.self.now mid (end_bit f) c.args.other c.masked.ensures.older c.requires.within c.requires.later)))
