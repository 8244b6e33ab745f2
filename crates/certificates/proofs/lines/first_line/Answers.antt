use Rattle.certificates.proofs.LineTexts.{ended_line}
use Rattle.certificates.proofs.lines.first_line.Goals as goal

pub returns-in-Some-clause-found : goal.returns-in-Some-clause-found
returns-in-Some-clause-found c = ended_line c.args.text.now c.in-Some.line.now c.in-Some.rest.now c.in-Some.ensures.cut
