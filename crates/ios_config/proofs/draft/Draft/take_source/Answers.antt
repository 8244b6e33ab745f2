use Rattle.std.proofs.Common.{◌≡◌, [], rules}
use Rattle.std.proofs.lemmas.Result.{IfErr-weaker, on_ok_weaker}
use Rattle.ios_config.specs.Taking.{IsTranslationFault}
use Rattle.ios_config.proofs.Taken.{cut_short, none_left, source_fault, sourced}
use Rattle.ios_config.proofs.draft.Draft.take_source.Goals as goal

pub returns-then-is_empty-clause-taken : goal.returns-then-is_empty-clause-taken
returns-then-is_empty-clause-taken c =
    rw c.ignore.ensures (cut_short c.args.self.now c.args.number c.args.words.now c.args.rest.now (none_left c.args.rest.now (rw c.is_empty.ensures at c.if-is_empty.true)))

pub returns-clause-taken : goal.returns-clause-taken
returns-clause-taken c =
    let some : c.args.rest.now ≡ [] → ⊥ = search rules in
    on_ok_weaker c.take_translation.result (sourced c.args.self.now c.take_translation.new.self c.args.number c.args.words.now c.args.rest.now some) c.take_translation.ensures.taken

pub returns-clause-refused : goal.returns-clause-refused
returns-clause-refused c =
    let some : c.args.rest.now ≡ [] → ⊥ = search rules in
    IfErr-weaker c.take_translation.result (IsTranslationFault c.args.self.now c.args.words.now) _
    (λ fault. source_fault c.args.self.now c.args.words.now c.args.rest.now fault some) c.take_translation.ensures.refused
