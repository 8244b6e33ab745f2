-- How many words a command has.
use Rattle.std.proofs.Common.{ℕ, ◌≤◌, List, length, ap, arith}
use Rattle.solver_run.specs.Tasks.{Task, IsForm, solve, certify, check, compare, gates}

pub form_count : (words : List (List ℕ)) (task : Task) → IsForm words task → (2 ≤ length words) × (length words ≤ 4)
form_count words (solve file) is = let count = ap length is in (omega arith, omega arith)
form_count words (certify file out) is = let count = ap length is in (omega arith, omega arith)
form_count words (check file certificate) is = let count = ap length is in (omega arith, omega arith)
form_count words (compare asked first second) is = let count = ap length is in (omega arith, omega arith)
form_count words (gates n) is = let count = ap length is.2 in (omega arith, omega arith)
