-- What is handed out where a line is not read.
use Rattle.std.specs.Prelude.{◌≡◌, Bool, true}
use Rattle.ios_lex.specs.declared.reason.IosReason.{IosReason}
use Rattle.ios_lex.specs.declared.reason.IosReason.TheVariants as reason
use Rattle.ios_lex.specs.declared.stop.Stop.{Stop}
use Rattle.ios_lex.specs.Phrases.{Words}
use Rattle.ios_lex.specs.Stops.{place_of, stop_reason}
use Rattle.ios_nat.specs.declared.fault.NatFault.{NatFault}
use Rattle.ios_nat.specs.declared.fault.NatFault.TheVariants as fault
use Rattle.ios_nat.specs.declared.kind.Kind.{Kind}
use Rattle.ios_nat.specs.Grammar.{unmodelled}
use Rattle.ios_nat.specs.Reading.{Fails, IsRefused}
use Rattle.ios_nat.specs.Refusal.{lax_reason}
use Rattle.ios_nat.specs.Table.{Table}

-- the table does not take the line for this reason; memory may be wanting at any time
abbrev pub IsFault : Table → Words → NatFault → Type 0
IsFault table words (fault.Refused why) = IsRefused table words why
IsFault table words fault.NoMemory = Unit {0}

-- the same of the rest of a line. Private calls are stated by it and by what follows, and no public one
abbrev pub IsRestFault : Table → Kind → Words → NatFault → Type 0
IsRestFault table kind rest (fault.Refused why) = Fails table kind rest why
IsRestFault table kind rest fault.NoMemory = Unit {0}

-- the reason of a stop in the rest of a line
abbrev pub rest_reason : Kind → Words → Stop → IosReason
rest_reason kind rest stop =
    stop_reason (unmodelled kind) (lax_reason (place_of rest stop)) rest stop

-- a side of a static entry is taken
abbrev pub IsDuplicate : Bool → NatFault → Type 0
IsDuplicate taken (fault.Refused why) = (taken ≡ true) × (why ≡ reason.DuplicateStatic)
IsDuplicate taken fault.NoMemory = Unit {0}
