use Rattle.std.proofs.Common.{◌<◌, ◌-◌, None, length, arith, sym, ap, ◌∙◌}
use Rattle.std.specs.Option.{option_copied}
use Rattle.std.proofs.lemmas.List.{get_or_read}
use Rattle.proof_check.specs.Derivations.{live_at}
use Rattle.proof_check.proofs.Places.{live_at-place, copied_at}
use Rattle.proof_check.proofs.live.LiveClauses.get.Goals as goal

pub returns : goal.returns
returns c =
    let items = c.self.inside.clauses.items in
    let number = c.args.number in
    let some : 0 < number = omega arith in
    let below : number - 1 < length items = omega (arith, c.self.inside.clauses.ok.0) in
    ap option_copied (get_or_read items (number - 1) c.index.result.now below c.index.ensures None) ∙ copied_at items (number - 1) ∙ sym (live_at-place _ number some) ∙ ap (λ live. live_at live number) c.self.view_is
