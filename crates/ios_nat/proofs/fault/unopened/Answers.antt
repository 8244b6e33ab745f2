use Rattle.std.proofs.Common.{◌≡◌}
use Rattle.std.proofs.lemmas.Result.{IfOk-weaker}
use Rattle.ios_lex.specs.declared.reason.IosReason.TheVariants as reasons
use Rattle.ios_nat.specs.Reading.{IsRefused}
use Rattle.ios_nat.proofs.LineFaults.{other_refused, unknown_refused}
use Rattle.ios_nat.proofs.fault.unopened.Goals as goal

pub returns-in-Some : goal.returns-in-Some
returns-in-Some c table =
    let more = c.in-Some.ensures.found in
    IfOk-weaker c.unmodelled.result (λ why. why ≡ reasons.Unmodelled c.in-Some.word.now) (IsRefused table c.args.words.now)
    (λ why is. rw is (other_refused table c.args.words.now more.0 c.in-Some.word.now more.1 c.requires)) c.unmodelled.ensures

pub returns-in-None : goal.returns-in-None
returns-in-None c table = unknown_refused table c.args.words.now c.in-None.ensures.none c.requires
