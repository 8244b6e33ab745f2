use Rattle.std.proofs.lemmas.Result.{IfErr-weaker, on_ok_weaker}
use Rattle.ios_config.specs.Taking.{IsTranslationFault}
use Rattle.ios_config.proofs.Taken.{pool_fault, pooled}
use Rattle.ios_config.proofs.draft.Draft.take_command.Goals as goal

pub returns-in-Pool-clause-taken : goal.returns-in-Pool-clause-taken
returns-in-Pool-clause-taken c =
    rw c.in-Pool.is
    (on_ok_weaker c.take_translation.result (pooled c.args.self.now c.take_translation.new.self c.args.number c.args.words.now c.args.rest.now) c.take_translation.ensures.taken)

pub returns-in-Pool-clause-refused : goal.returns-in-Pool-clause-refused
returns-in-Pool-clause-refused c =
    rw c.in-Pool.is
    (IfErr-weaker c.take_translation.result (IsTranslationFault c.args.self.now c.args.words.now) _ (λ fault. pool_fault c.args.self.now c.args.words.now c.args.rest.now fault) c.take_translation.ensures.refused)
