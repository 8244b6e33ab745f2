use Rattle.std.proofs.Common.{◌+◌, true, false, refl, sym, ◌∙◌, arith}
use Rattle.std.proofs.lemmas.Option.{IfSome_then}
use Rattle.certificates.proofs.Absence.{none_weaker}
use Rattle.certificates.proofs.Entries.{lit_negative, lit_positive, lit_spelled}
use Rattle.certificates.proofs.words.lit.Goals as goal

pub returns-in-Some-clause-found : goal.returns-in-Some-clause-found
returns-in-Some-clause-found c =
    IfSome_then c.signed.result c.signed.ensures.found
    (λ l is. lit_spelled l true c.args.word.now c.in-Some.digits.now is.0 c.in-Some.ensures.found is.1)

pub returns-in-Some-clause-none : goal.returns-in-Some-clause-none
returns-in-Some-clause-none c =
    none_weaker c.signed.result
    (λ none l fits same. none (l.var + 1) (omega arith) (lit_negative l c.in-Some.digits.now fits (sym c.in-Some.ensures.found ∙ same)))
    c.signed.ensures.none

pub returns-clause-found : goal.returns-clause-found
returns-clause-found c =
    IfSome_then c.signed-2.result c.signed-2.ensures.found
    (λ l is. lit_spelled l false c.args.word.now c.args.word.now is.0 refl is.1)

pub returns-clause-none : goal.returns-clause-none
returns-clause-none c =
    none_weaker c.signed-2.result
    (λ none l fits same. none (l.var + 1) (omega arith) (lit_positive l c.args.word.now c.in_default.ensures.none fits same))
    c.signed-2.ensures.none
