use Rattle.solver_run.specs.Inside.Endings.{found, none}
use Rattle.solver_run.proofs.lists.answer.Goals as goal

pub returns-in-Ok-Least : goal.returns-in-Ok-Least
returns-in-Ok-Least g c =
    let least = rw c.in-Ok-Least.field-0-is at c.in-Ok-Least.ensures in
    let says = rw c.as_slice.ensures.value at c.say_packet.ensures in
    found c.in-Ok.cnf c.in-Ok-Least.values.items c.in-Ok.ensures least says

pub returns-in-Ok-None : goal.returns-in-Ok-None
returns-in-Ok-None g c =
    let shown = rw c.in-Ok-None.field-0-is at c.in-Ok-None.ensures in
    let says = rw (c.as_bytes.ensures.value, c.no_model_text.ensures) at c.say.ensures in
    none c.in-Ok.cnf _ c.in-Ok.ensures shown says
