use Rattle.ios_lex.proofs.RawTexts.{ended_line}
use Rattle.ios_lex.proofs.raw_lines.first_line.Goals as goal

pub returns-clause-found : goal.returns-clause-found
returns-clause-found c =
    rw c.without_return.ensures (ended_line c.args.text.now c.in-Some.line.now c.in-Some.rest.now c.in-Some.ensures.cut)
