-- What is handed out where a line is not read.
use Rattle.std.specs.Prelude.{[]}
use Rattle.ios_lex.specs.declared.reason.IosReason.{IosReason}
use Rattle.ios_lex.specs.declared.stop.Stop.{Stop}
use Rattle.ios_lex.specs.Phrases.{Words}
use Rattle.ios_lex.specs.Stops.{stop_reason}
use Rattle.ios_lex.specs.declared.fault.LineFault.{LineFault}
use Rattle.ios_lex.specs.declared.fault.LineFault.TheVariants as fault
use Rattle.ios_interface.specs.declared.kind.Kind.{Kind}
use Rattle.ios_interface.specs.Reading.{Fails, IsRefused}
use Rattle.ios_interface.specs.Refusal.{lax_reason}

-- the line is refused for this reason; memory may be wanting at any time
abbrev pub IsFault : Words → LineFault → Type 0
IsFault words (fault.Refused why) = IsRefused words why
IsFault words fault.NoMemory = Unit {0}

-- the same of the rest of a line. Private calls are stated by it and by what follows, and no public one
abbrev pub IsRestFault : Kind → Words → LineFault → Type 0
IsRestFault kind rest (fault.Refused why) = Fails kind rest why
IsRestFault kind rest fault.NoMemory = Unit {0}

-- the reason of a stop in the rest of a line
abbrev pub rest_reason : Kind → Words → Stop → IosReason
rest_reason kind rest stop = stop_reason [] (lax_reason kind) rest stop
