use Rattle.std.proofs.Common.{◌≡◌, []}
use Rattle.std.proofs.lemmas.Result.{err_from_is_err_and}
use Rattle.ios_interface.specs.Interfaces.{block_names}
use Rattle.ios_route.specs.Faults.{IsFirst}
use Rattle.ios_config.specs.Reading.{route_faults}
use Rattle.ios_config.specs.Taking.{IsWholeFault}
use Rattle.ios_config.specs.Router.{names_of}
use Rattle.ios_config.proofs.KnownNames.{names_made}
use Rattle.ios_config.proofs.WholeFaults.{whole_route_fault}
use Rattle.ios_config.proofs.draft.Draft.finish.Goals as goal

pub returns-in_err-interfaces-clause-refused : goal.returns-in_err-interfaces-clause-refused
returns-in_err-interfaces-clause-refused c =
    let p = err_from_is_err_and c.from_residual.result c.from_residual.ensures.1 in
    rw (p.1, p.2) IsWholeFault.memory

pub returns-in-Err-clause-refused : goal.returns-in-Err-clause-refused
returns-in-Err-clause-refused c =
    let first : IsFirst (route_faults c.args.self) c.in-Err.fault = rw (← c.self.view_is) (rw (← c.in_ok-interfaces.ensures.made, ← c.as_slice.ensures.value, ← c.as_slice-2.ensures.value) c.in-Err.ensures.refused) in
    rw c.of_route.ensures (whole_route_fault c.args.self c.in-Err.fault first)

pub returns-in_err-named-clause-refused : goal.returns-in_err-named-clause-refused
returns-in_err-named-clause-refused c =
    let p = err_from_is_err_and c.from_residual-in_err-named.result c.from_residual-in_err-named.ensures.1 in
    let lead : route_faults c.args.self ≡ [] = rw (← c.self.view_is) (rw (← c.in_ok-interfaces.ensures.made, ← c.as_slice.ensures.value, ← c.as_slice-2.ensures.value) c.in-Ok.ensures.sound) in
    rw (p.1, p.2) (IsWholeFault.dynamic c.in_err-named.field-0.0 lead c.in_err-named.ensures.refused)

pub returns-clause-numbers : goal.returns-clause-numbers
returns-clause-numbers c =
    let names : names_of c.in_ok-interfaces.interfaces.items ≡ block_names c.self.inside.interfaces.blocks = rw c.in_ok-interfaces.ensures.made (names_made c.self.inside.interfaces.blocks) in
    rw (← c.self.view_is) (rw names c.in_ok-interfaces.ensures.numbers)
