use Rattle.std.proofs.Common.{rules, ap, map, ◌∙◌}
use Rattle.list_questions.specs.Ranges.{number_in}
use Rattle.list_questions.proofs.Literals.{eight_are, eight_same}
use Rattle.list_questions.proofs.packet.packet_of_numbers.Goals as goal

pub returns : goal.returns
returns c =
    let is = eight_are c.args.literals.now
    c.index-literals-0.result c.index-literals-1.result c.index-literals-2.result c.index-literals-3.result
    c.index-literals-4.result c.index-literals-5.result c.index-literals-6.result c.index-literals-7.result
    c.requires.count (search rules) (search rules) (search rules) (search rules) (search rules) (search rules) (search rules) (search rules) in
    ap (map (number_in c.args.names.now)) is
    ∙ eight_same _ _ _ _ _ _ _ _ _ _ _ _ _ _ _ _ c.number.ensures.number c.number-2.ensures.number c.number-3.ensures.number c.number-4.ensures.number
    c.number-5.ensures.number c.number-6.ensures.number c.number-7.ensures.number c.number-8.ensures.number
