-- How many bytes of a file are read.
use Rattle.std.specs.Prelude.{◌≡◌, ℕ, ◌<◌, ◌≤◌, List, length, Option, IfSome}
use Rattle.solver_run.specs.declared.reason.Reason.{Reason}
use Rattle.solver_run.specs.declared.reason.Reason.TheVariants as reason

-- the most bytes of a file that is read
abbrev pub max_bytes : ℕ
max_bytes = 268435456

-- more bytes than that were counted
pub record IsTooLong (told : Option (List ℕ)) : Type 0 where
  pub given : ℕ
  pub more : max_bytes < given
  pub held : IfSome told (λ held. given ≤ length held)

-- which is a fault of the file as a whole
abbrev pub IsTooLongAt : Option (List ℕ) → ℕ → Reason → Type 0
IsTooLongAt told line why = (line ≡ 0) × (why ≡ reason.TooLong) × IsTooLong told
