use Rattle.std.proofs.lemmas.Result.{IfErr-weaker}
use Rattle.ios_nat.specs.declared.kind.Kind.TheVariants as kinds
use Rattle.ios_nat.specs.Faults.{IsFault, IsRestFault}
use Rattle.ios_nat.proofs.LineFaults.{rest_fault}
use Rattle.ios_nat.proofs.table.NatTable.read_line.Goals as goal

pub returns-in_default-clause-refused : goal.returns-in_default-clause-refused
returns-in_default-clause-refused c = c.in_ok-unopened.ensures c.args.self.now

pub returns-in-Static-clause-refused : goal.returns-in-Static-clause-refused
returns-in-Static-clause-refused c =
    IfErr-weaker c.read_static.result (IsRestFault c.args.self.now kinds.Static c.in-Some.rest.now) (IsFault c.args.self.now c.args.words.now)
    (λ fault. rest_fault c.args.self.now kinds.Static c.args.words.now c.in-Some.rest.now fault (rw c.in-Static.is at c.in-Some.ensures.found)) c.read_static.ensures.refused

pub returns-in-Dynamic-clause-refused : goal.returns-in-Dynamic-clause-refused
returns-in-Dynamic-clause-refused c =
    IfErr-weaker c.read_dynamic.result (IsRestFault c.args.self.now kinds.Dynamic c.in-Some.rest.now) (IsFault c.args.self.now c.args.words.now)
    (λ fault. rest_fault c.args.self.now kinds.Dynamic c.args.words.now c.in-Some.rest.now fault (rw c.in-Dynamic.is at c.in-Some.ensures.found)) c.read_dynamic.ensures.refused

pub returns-in-Pool-clause-refused : goal.returns-in-Pool-clause-refused
returns-in-Pool-clause-refused c =
    IfErr-weaker c.read_pool.result (IsRestFault c.args.self.now kinds.Pool c.in-Some.rest.now) (IsFault c.args.self.now c.args.words.now)
    (λ fault. rest_fault c.args.self.now kinds.Pool c.args.words.now c.in-Some.rest.now fault (rw c.in-Pool.is at c.in-Some.ensures.found)) c.read_pool.ensures.refused
