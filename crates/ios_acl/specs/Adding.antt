-- How an entry comes into a list, and why it does not. A private call is stated by it, and no public one.
use Rattle.std.specs.Prelude.{◌≡◌, ℕ, ◌<◌, ◌≤◌, Option, None, length}
use Rattle.ios_lex.specs.declared.reason.IosReason.TheVariants as reason
use Rattle.ios_acl.specs.declared.entry.Entry.{Entry}
use Rattle.ios_acl.specs.declared.fault.AclFault.{AclFault}
use Rattle.ios_acl.specs.declared.fault.AclFault.TheVariants as fault
use Rattle.ios_acl.specs.List.{AccessList, with_entry, next_number, greatest_sequence, most_entries}
use Rattle.ios_acl.specs.Reading.{IsNumberOf}

abbrev pub with_number : Entry → ℕ → Entry
with_number entry n = record entry { number = n }

-- the list has room for the entry, and takes it under its number or the next one
pub record Adds (list : AccessList) (entry : Entry) (number : Option ℕ)
    (new : AccessList) : Type 0 where
  pub n : ℕ
  pub is_number : IsNumberOf list.entries number n
  pub small : n ≤ greatest_sequence
  pub room : length list.entries < most_entries
  pub added : new ≡ with_entry list (with_number entry n)

-- no number is left for the entry, or no room
pub data CannotAdd (list : AccessList) (number : Option ℕ) : AclFault → Type 0 where
  overflow : number ≡ None → greatest_sequence < next_number list.entries
      → CannotAdd list number (fault.Refused reason.BadNumber)
  full : (n : ℕ) → IsNumberOf list.entries number n → n ≤ greatest_sequence
      → most_entries ≤ length list.entries → CannotAdd list number (fault.Refused reason.TooMany)
  memory : CannotAdd list number fault.NoMemory
