use Rattle.ios_interface.specs.declared.kind.Kind.TheVariants as kinds
use Rattle.ios_interface.specs.Reading.{Makes}
use Rattle.ios_interface.proofs.LineFaults.{stop_fails}
use Rattle.ios_interface.proofs.draft.Draft.read_address.Goals as goal

pub returns-in-Err-clause-refused : goal.returns-in-Err-clause-refused
returns-in-Err-clause-refused c = rw c.in_ok-why-in-Err.ensures (stop_fails kinds.Address c.args.rest.now c.in-Err.stop c.in-Err.ensures.stop)

pub returns-clause-read : goal.returns-clause-read
returns-clause-read c = Makes.address (c.in-Ok.line.0, c.in-Ok.line.1) c.in-Ok.line.2 c.in-Ok.ensures.read c.in_ok-add_address.ensures.added
