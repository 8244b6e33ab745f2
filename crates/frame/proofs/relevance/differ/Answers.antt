use Rattle.std.proofs.Common.{sym, ◌∙◌}
use Rattle.frame.proofs.MissedNumbers.{apart, not_true}
use Rattle.frame.proofs.relevance.differ.Goals as goal

pub returns : goal.returns
returns c differs x is =
    let tested = rw (c.from.ensures, c.from-2.ensures, c.from-3.ensures) at (sym c.agrees.ensures ∙ not_true _ differs) in
    apart c.args.place.0 c.args.place.1 c.args.value c.args.wildcard tested x is
