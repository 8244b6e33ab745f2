-- What is handed out where a line is not read.
use Rattle.std.specs.Prelude.{◌≡◌, ℕ, Option}
use Rattle.ios_lex.specs.declared.reason.IosReason.{IosReason}
use Rattle.ios_lex.specs.declared.reason.IosReason.TheVariants as reason
use Rattle.ios_lex.specs.declared.stop.Stop.{Stop}
use Rattle.ios_lex.specs.Phrases.{Words}
use Rattle.ios_lex.specs.Stops.{place_of, stop_reason}
use Rattle.ios_acl.specs.declared.fault.AclFault.{AclFault}
use Rattle.ios_acl.specs.declared.fault.AclFault.TheVariants as fault
use Rattle.ios_acl.specs.List.{AccessList}
use Rattle.ios_acl.specs.Reading.{IsRefused}
use Rattle.ios_acl.specs.Refusal.{unmodelled_at}

-- the list does not take the line for this reason; memory may be wanting at any time
abbrev pub IsFault : AccessList → Words → AclFault → Type 0
IsFault list words (fault.Refused why) = IsRefused list words why
IsFault list words fault.NoMemory = Unit {0}

-- the fault has this reason, unless memory is wanting
abbrev pub IsFor : IosReason → AclFault → Type 0
IsFor why (fault.Refused given) = given ≡ why
IsFor why fault.NoMemory = Unit {0}

-- the reason of a stop in the words behind a number. Private calls are stated by it, and no public one
abbrev pub line_reason : Option ℕ → Words → Stop → IosReason
line_reason number rest stop =
    stop_reason (unmodelled_at number (place_of rest stop)) reason.BadNumber rest stop
