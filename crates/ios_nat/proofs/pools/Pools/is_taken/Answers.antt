use Rattle.ios_nat.proofs.PoolNames.{no_name_stop}
use Rattle.ios_nat.specs.declared.kind.Kind.TheVariants as kinds
use Rattle.ios_nat.specs.Grammar.{unmodelled}
use Rattle.ios_nat.proofs.pools.Pools.is_taken.Goals as goal

pub returns-in-Err : goal.returns-in-Err
returns-in-Err c = (
  λ no. absurd (cc no),
  λ taken. absurd (no_name_stop (unmodelled kinds.Pool) c.args.rest.now taken.more taken.name c.in-Err.field-0 taken.begins taken.is_name c.in-Err.ensures.part (rw c.unmodelled.ensures at c.in-Err.ensures.stop)),
)
