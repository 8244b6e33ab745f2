use Rattle.std.proofs.lemmas.List.Elements.{All-contains, All-from_recursion}
use Rattle.ios_lex.specs.Phrases.{Words}
use Rattle.ios_interface.specs.Grammar.{unmodelled_openings}
use Rattle.ios_lex.specs.Openings.{LacksOpening}
use Rattle.ios_interface.specs.Reading.{IsUnmodelled}
use Rattle.ios_interface.proofs.openings.unmodelled_opening.Goals as goal

pub returns-in_err-opening-clause-none : goal.returns-in_err-opening-clause-none
returns-in_err-opening-clause-none c =
    let none : (opening : Words) → IsUnmodelled c.args.words.now opening → ⊥ =
    (λ opening is. All-contains (LacksOpening c.args.words.now) unmodelled_openings opening (All-from_recursion (LacksOpening c.args.words.now) unmodelled_openings c.in_err-opening.ensures.none) is.0 is.1 is.2) in
    rw c.from_residual.ensures none
