use Rattle.std.proofs.Common.{true, ◌+◌, ◌∷◌, ◌++◌, [], refl, ap, ◌∙◌, append_assoc, arith, map}
use Rattle.std.proofs.lemmas.Option.{IfSome_then}
use Rattle.std.proofs.lemmas.Result.{IfOk-weaker}
use Rattle.ios_lex.specs.LineReadings.{reading_of}
use Rattle.ios_lex.specs.RawLines.{raw_lines}
use Rattle.ios_lex.specs.Lines as specs
use Rattle.ios_lex.specs.Lines.{reading, outside, inside}
use Rattle.ios_lex.proofs.Absence.{none_weaker}
use Rattle.ios_lex.proofs.Parts.{ends_at_once, ends_later, ends_nowhere}
use Rattle.ios_lex.proofs.line.add_part.Goals as goal

pub returns-in_default-clause-part : goal.returns-in_default-clause-part
returns-in_default-clause-part c =
    (outside c.args.number c.args.line.now, specs.plain c.args.line.now refl c.in_default.ensures.none refl refl, c.in_ok-add_plain.ensures)

pub returns-then-occurs-clause-part : goal.returns-then-occurs-clause-part
returns-then-occurs-clause-part c =
    let banner = ends_at_once c.args.line.now c.in-Some.text.now c.delimiter_len-len.result c.in-Some.ensures.found c.delimiter_len-len.ensures.value (c.occurs.ensures.found c.if-occurs.true) in
    (inside c.args.number (c.args.line.now ∷ []), specs.banner c.args.line.now [] refl banner refl (omega arith), c.in_ok-add_line.ensures)

pub returns-clause-part : goal.returns-clause-part
returns-clause-part c =
    IfOk-weaker c.add_body.result _ _ (λ end ends. IfSome_then end ends (λ at some.
    let banner = ends_later c.args.line.now c.in-Some.text.now c.delimiter_len-len.result some.0 c.in-Some.ensures.found c.delimiter_len-len.ensures.value (c.occurs.ensures.none c.if-occurs.false) some.2 in
    (inside c.args.number (c.args.line.now ∷ some.0), specs.banner c.args.line.now some.0 (ap (λ more. c.args.line.now ∷ more) some.1) banner refl some.3, some.4 ∙ ap (λ made. made ++ inside (c.args.number + 1) some.0) c.in_ok-add_line.ensures ∙ append_assoc (map reading_of c.args.lines.now.items) (reading c.args.number true c.args.line.now ∷ []) (inside (c.args.number + 1) some.0)))) c.add_body.ensures.ends

pub returns-clause-open_ended : goal.returns-clause-open_ended
returns-clause-open_ended c =
    IfOk-weaker c.add_body.result _ _ (λ end. none_weaker end
    (ends_nowhere c.args.line.now c.in-Some.text.now c.delimiter_len-len.result (raw_lines c.args.others.now) c.in-Some.ensures.found c.delimiter_len-len.ensures.value (c.occurs.ensures.none c.if-occurs.false)))
    c.add_body.ensures.nowhere
