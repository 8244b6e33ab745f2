use Rattle.std.proofs.Common.{◌≡◌, ◌++◌, ◌∷◌, [], refl, rules}
use Rattle.std.proofs.lemmas.Bool.{false≢true}
use Rattle.ios_nat.specs.declared.kind.Kind.TheVariants as kinds
use Rattle.ios_nat.specs.Reading.{Adds, taken}
use Rattle.ios_nat.proofs.LineFaults.{pool_free, stop_fails}
use Rattle.ios_nat.proofs.table.NatTable.read_pool.Goals as goal

pub returns-then-is_taken-clause-refused : goal.returns-then-is_taken-clause-refused
returns-then-is_taken-clause-refused c = rw (← c.self.view_is) (taken (refl, c.if-is_taken.ensures.0 refl))

pub returns-in-Err-clause-refused : goal.returns-in-Err-clause-refused
returns-in-Err-clause-refused c =
    rw (← c.self.view_is, c.in_ok-why-in-Err.ensures)
    (stop_fails _ kinds.Pool c.args.rest.now c.in-Err.stop (λ given. false≢true (c.if-is_taken.ensures.1 given.1)) c.in-Err.ensures.stop)

pub add-requires : goal.add-requires
add-requires c =
    pool_free c.self.inside.pools (c.in-Ok.pool.0.now, (c.in-Ok.pool.1, c.in-Ok.pool.2)) c.args.rest.now c.in-Ok.ensures.read (λ given. false≢true (c.if-is_taken.ensures.1 given))

pub returns-clause-read : goal.returns-clause-read
returns-clause-read c line =
    let added : c.add.new.self ≡ c.self.inside.pools ++ (c.in-Ok.pool.0.now, (c.in-Ok.pool.1, c.in-Ok.pool.2)) ∷ [] = search rules in
    let free = pool_free c.self.inside.pools (c.in-Ok.pool.0.now, (c.in-Ok.pool.1, c.in-Ok.pool.2)) c.args.rest.now c.in-Ok.ensures.read (λ given. false≢true (c.if-is_taken.ensures.1 given)) in
    rw (← c.self.view_is) (Adds.pool (c.in-Ok.pool.0.now, (c.in-Ok.pool.1, c.in-Ok.pool.2)) c.in-Ok.ensures.read free (rw added refl))
