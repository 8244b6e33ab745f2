-- The lines of a run that are no answers of a solver.
use Rattle.std.specs.Prelude.{ℕ, List, ◌++◌, codes, Option, Some, None}
use Rattle.std.specs.Fmt.{decimal}
use Rattle.dimacs.specs.declared.fault.DimacsReason.{DimacsReason}
use Rattle.dimacs.specs.declared.fault.DimacsReason.TheVariants as dimacs
use Rattle.proof_check.specs.declared.fault.CheckFault.{CheckFault}
use Rattle.proof_check.specs.declared.fault.CheckFault.TheVariants as check
use Rattle.solver_run.specs.declared.reason.Reason.{Reason}
use Rattle.solver_run.specs.declared.reason.Reason.TheVariants as reason

unfoldable pub usage : List ℕ
usage = codes "usage: margrave_sat solve FILE [--certificate OUT] | check FILE CERTIFICATE | lists differ|widen FIRST SECOND | gates COUNT\n"

unfoldable pub fault_line : List ℕ → List ℕ
fault_line file = codes "read fault: " ++ file ++ codes "\n"

unfoldable pub store_line : List ℕ → List ℕ
store_line file = codes "write fault: " ++ file ++ codes "\n"

unfoldable pub accepted_line : List ℕ
accepted_line = codes "accepted\n"

unfoldable pub nodes_line : ℕ → List ℕ
nodes_line nodes = decimal nodes ++ codes " nodes\n"

abbrev pub dimacs_reason : DimacsReason → Reason
dimacs_reason dimacs.Syntax = reason.Syntax
dimacs_reason dimacs.TooMany = reason.TooMany
dimacs_reason dimacs.Variable = reason.Variable
dimacs_reason dimacs.Incomplete = reason.Incomplete

-- want of memory is no reason
abbrev pub check_reason : CheckFault → Option Reason
check_reason (check.VarRange step) = Some (reason.StepVariable step)
check_reason (check.Hint step place) = Some (reason.Hint step place)
check_reason (check.NotLive item place) = Some (reason.Deletion item place)
check_reason check.NotEmpty = Some reason.NotEmpty
check_reason check.NoMemory = None

-- the name of the reason, and the numbers that it has
unfoldable pub reason_words : Reason → List ℕ
reason_words reason.TooLong = codes "TooLong"
reason_words reason.Syntax = codes "Syntax"
reason_words reason.TooMany = codes "TooMany"
reason_words reason.Variable = codes "Variable"
reason_words reason.Incomplete = codes "Incomplete"
reason_words reason.Malformed = codes "Malformed"
reason_words reason.Version = codes "Version"
reason_words (reason.StepVariable step) = codes "Variable step " ++ decimal step
reason_words (reason.Hint step place) = codes "Hint step " ++ (decimal step ++ (codes " place " ++ decimal place))
reason_words (reason.Deletion item place) = codes "Deletion item " ++ (decimal item ++ (codes " place " ++ decimal place))
reason_words reason.NotEmpty = codes "NotEmpty"
reason_words reason.NoConfiguration = codes "NoConfiguration"
reason_words reason.NotOneList = codes "NotOneList"

-- line 0 is the file as a whole
unfoldable pub refused_line : List ℕ → ℕ → Reason → List ℕ
refused_line file line why =
    codes "refused: " ++ (file ++ (codes ":" ++ (decimal line ++ (codes ": " ++ (reason_words why ++ codes "\n")))))
