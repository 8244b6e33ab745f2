-- Which derivations have a text. Numbers in it are below 2^62, and 0 ends a list.
use Rattle.std.specs.Prelude.{ℕ, ◌+◌, ◌^◌, ◌<◌, ◌≤◌, List, length}
use Rattle.std.specs.List.{All}
use Rattle.certificates.specs.declared.derivation.Step.{Step}
use Rattle.certificates.specs.declared.derivation.Item.{Item}
use Rattle.certificates.specs.declared.derivation.Item.TheVariants as item
use Rattle.certificates.specs.declared.derivation.Certificate.{Certificate}

abbrev pub IsWritableNumber : ℕ → Type 0
IsWritableNumber number = (1 ≤ number) × (number < 2 ^ 62)

pub record IsWritableStep (step : Step) : Type 0 where
  pub vars : All (λ l. l.var + 1 < 2 ^ 62) step.clause
  pub hints : All IsWritableNumber step.hints

pub record IsWritableDelete (numbers : List ℕ) : Type 0 where
  pub some : 1 ≤ length numbers
  pub all : All IsWritableNumber numbers

abbrev pub IsWritableItem : Item → Type 0
IsWritableItem (item.Add step) = IsWritableStep step
IsWritableItem (item.Delete numbers) = IsWritableDelete numbers

abbrev pub IsWritable : List Item → Type 0
IsWritable items = All IsWritableItem items

pub record IsWritableCertificate (certificate : Certificate) : Type 0 where
  pub line : certificate.line < 2 ^ 62
  pub items : IsWritable certificate.derivation
