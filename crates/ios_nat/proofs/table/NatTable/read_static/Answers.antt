use Rattle.std.proofs.lemmas.Result.{IfErr-weaker, on_ok_weaker}
use Rattle.ios_nat.specs.declared.kind.Kind.TheVariants as kinds
use Rattle.ios_nat.specs.Faults.{IsDuplicate, IsRestFault}
use Rattle.ios_nat.specs.Reading.{Adds, is_address_taken, is_port_taken}
use Rattle.ios_nat.proofs.LineFaults.{address_fault, port_fault, static_free, stop_fails}
use Rattle.ios_nat.proofs.table.NatTable.read_static.Goals as goal

pub returns-in-Err-clause-refused : goal.returns-in-Err-clause-refused
returns-in-Err-clause-refused c =
    rw c.in_ok-why-in-Err.ensures
    (stop_fails c.args.self.now kinds.Static c.args.rest.now c.in-Err.stop (static_free c.args.self.now c.args.rest.now) c.in-Err.ensures.stop)

pub returns-in-Port-clause-read : goal.returns-in-Port-clause-read
returns-in-Port-clause-read c =
    on_ok_weaker c.add_port.result (λ added line. Adds.port c.in-Port.entry (rw c.in-Port.is at c.in-Ok.ensures.read) added.0 added.1) c.add_port.ensures.added

pub returns-in-Port-clause-refused : goal.returns-in-Port-clause-refused
returns-in-Port-clause-refused c =
    IfErr-weaker c.add_port.result (IsDuplicate (is_port_taken c.args.self.now.ports c.in-Port.entry)) (IsRestFault c.args.self.now kinds.Static c.args.rest.now)
    (λ fault. port_fault c.args.self.now c.in-Port.entry c.args.rest.now fault (rw c.in-Port.is at c.in-Ok.ensures.read)) c.add_port.ensures.refused

pub returns-in-Address-clause-read : goal.returns-in-Address-clause-read
returns-in-Address-clause-read c =
    on_ok_weaker c.add_address.result (λ added line. Adds.address c.in-Address.entry (rw c.in-Address.is at c.in-Ok.ensures.read) added.0 added.1) c.add_address.ensures.added

pub returns-in-Address-clause-refused : goal.returns-in-Address-clause-refused
returns-in-Address-clause-refused c =
    IfErr-weaker c.add_address.result (IsDuplicate (is_address_taken c.args.self.now.addresses c.in-Address.entry)) (IsRestFault c.args.self.now kinds.Static c.args.rest.now)
    (λ fault. address_fault c.args.self.now c.in-Address.entry c.args.rest.now fault (rw c.in-Address.is at c.in-Ok.ensures.read)) c.add_address.ensures.refused
