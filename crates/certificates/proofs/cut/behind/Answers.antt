use Rattle.std.proofs.lemmas.Bool.Decides.{Decides-eqb}
use Rattle.std.proofs.lemmas.Slice.Eq.{strip_prefix_is}
use Rattle.certificates.proofs.Absence.{some_from_match, none_from_match}
use Rattle.certificates.proofs.cut.behind.Goals as goal

pub returns : goal.returns
returns c =
    let is = strip_prefix_is Decides-eqb c.args.text.now c.args.word.now c.strip_prefix.result c.strip_prefix.ensures.cases in
    record { found = some_from_match _ _ c.strip_prefix.result is; none = none_from_match _ _ c.strip_prefix.result is }
