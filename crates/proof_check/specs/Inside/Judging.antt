-- How the checker goes on by one item.
use Rattle.std.specs.Prelude.{◌+◌, ℕ, Option, Some, if◌then◌else◌}
use Rattle.std.specs.Option.{option_map}
use Rattle.certificates.specs.declared.derivation.Item.{Item}
use Rattle.certificates.specs.declared.derivation.Item.TheVariants as item
use Rattle.proof_check.specs.declared.fault.CheckFault.{CheckFault}
use Rattle.proof_check.specs.declared.fault.CheckFault.TheVariants as fault
use Rattle.proof_check.specs.Derivations.{Progress, is_in_range, step_fault, delete_fault, after_step, after_delete}

-- the checker: how many variables there are, and how far it has come
pub record Checking : Type 0 where
  pub vars : ℕ
  pub progress : Progress

abbrev pub item_fault : Checking → Item → Option CheckFault
item_fault c (item.Add step) =
    if is_in_range c.vars step.clause
    then option_map (λ place. fault.Hint (c.progress.steps + 1) place) (step_fault c.vars c.progress.live step)
    else Some (fault.VarRange (c.progress.steps + 1))
item_fault c (item.Delete numbers) =
    option_map (λ place. fault.NotLive (c.progress.items + 1) place) (delete_fault c.progress.live numbers 1)

abbrev pub after_item : Checking → Item → Checking
after_item c (item.Add step) = record { vars = c.vars; progress = after_step c.progress step }
after_item c (item.Delete numbers) = record { vars = c.vars; progress = after_delete c.progress numbers }
