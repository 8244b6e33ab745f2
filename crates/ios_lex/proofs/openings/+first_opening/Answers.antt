use Rattle.ios_lex.specs.Refusal.{texts}
use Rattle.ios_lex.specs.Openings.{openings_of}
use Rattle.ios_lex.proofs.LineOpenings.{among_more}
use Rattle.ios_lex.proofs.openings.+first_opening.Goals as goal

pub returns-clause-found : goal.returns-clause-found
returns-clause-found t c =
    rw c.in_ok-first.ensures.cases.0
    (among_more (openings_of c.in_ok-first.others.now) c.args.words.now (texts c.in_ok-first.first.now.now) c.first_opening.result c.first_opening.ensures.found)
