use Rattle.decision_diagram.proofs.Adopting.{adopted_before}
use Rattle.decision_diagram.proofs.diagrams.Diagrams.+adopt_part.Goals as goal

pub returns-in-Some-clause-within : goal.returns-in-Some-clause-within
returns-in-Some-clause-within t c =
    (adopted_before c.args.other.now c.args.self.now c.args.copies.now.items c.args.root c.place.result c.in-Some.copy c.index.result.now
    c.requires.copies c.requires.root c.place.ensures c.index.ensures c.in-Some.is).0

pub returns-in-Some-clause-same : goal.returns-in-Some-clause-same
returns-in-Some-clause-same t c =
    (adopted_before c.args.other.now c.args.self.now c.args.copies.now.items c.args.root c.place.result c.in-Some.copy c.index.result.now
    c.requires.copies c.requires.root c.place.ensures c.index.ensures c.in-Some.is).1
