-- Lines of the block of a list that is there: by its name, and by its place.
use Rattle.std.specs.Prelude.{◌≡◌, ℕ, Bool, List, Some}
use Rattle.ios_lex.specs.declared.reason.IosReason.{IosReason}
use Rattle.ios_lex.specs.Phrases.{Words}
use Rattle.ios_acl.specs.declared.fault.AclFault.{AclFault}
use Rattle.ios_acl.specs.List.{AccessList}
use Rattle.ios_acl.specs.Reading.{IsRefused}
use Rattle.ios_lists.specs.Faults.{IsAclFault}
use Rattle.ios_lists.specs.Lists.{list_named, kind_named, name_at}
use Rattle.ios_lists.specs.Rules.{ReadsInto}

-- what a line of the block of this name makes of the lists
pub record ReadsEntry (lists : List AccessList) (name : List ℕ) (words : Words)
    (new : List AccessList) : Type 0 where
  pub extended : Bool
  pub kind : kind_named lists name ≡ Some extended
  pub reads : ReadsInto lists name extended words new

-- why it is refused
pub record IsEntryRefused (lists : List AccessList) (name : List ℕ) (words : Words)
    (why : IosReason) : Type 0 where
  pub extended : Bool
  pub kind : kind_named lists name ≡ Some extended
  pub refused : IsRefused (list_named lists name extended) words why

-- the list at this place takes the line, and stays there
pub record ReadsEntryAt (lists : List AccessList) (place : ℕ) (words : Words)
    (new : List AccessList) : Type 0 where
  pub name : List ℕ
  pub at : name_at lists place ≡ Some name
  pub reads : ReadsEntry lists name words new
  pub stays : name_at new place ≡ Some name

pub record IsEntryRefusedAt (lists : List AccessList) (place : ℕ) (words : Words)
    (why : IosReason) : Type 0 where
  pub name : List ℕ
  pub at : name_at lists place ≡ Some name
  pub refused : IsEntryRefused lists name words why

-- it does not take the line; memory may be wanting at any time
abbrev pub FailsAt : List AccessList → ℕ → Words → AclFault → Type 0
FailsAt lists place words = IsAclFault (IsEntryRefusedAt lists place words)
