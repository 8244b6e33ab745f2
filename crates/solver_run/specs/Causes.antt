-- What ends a run, as a status.
use Rattle.std.specs.Prelude.{ℕ}
use Rattle.solver_run.specs.declared.cause.Cause.{Cause}
use Rattle.solver_run.specs.declared.cause.Cause.TheVariants as cause

abbrev pub status_of : Cause → ℕ
status_of cause.Done = 0
status_of cause.Satisfiable = 10
status_of cause.Unsatisfiable = 20
status_of cause.Refused = 1
status_of cause.BadWords = 2
status_of cause.ReadFault = 3
status_of cause.StoreFault = 4
status_of cause.WriteFault = 4
status_of cause.NoMemory = 5
