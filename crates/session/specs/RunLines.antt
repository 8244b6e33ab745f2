-- The lines of a run that are no texts of statements.
use Rattle.std.specs.Prelude.{ℕ, List, ◌++◌, codes}
use Rattle.std.specs.Fmt.{decimal}
use Rattle.session.specs.declared.ended.Reason.{Reason}
use Rattle.session.specs.declared.ended.Reason.TheVariants as reason

unfoldable pub usage : List ℕ
usage = codes "usage: margrave SCRIPT\n"

unfoldable pub fault_line : List ℕ → List ℕ
fault_line file = codes "read fault: " ++ file ++ codes "\n"

-- the name of the reason; words that are not modelled are named
abbrev pub reason_word : Reason → List ℕ
reason_word (reason.Unmodelled word) = codes "Unmodelled " ++ word
reason_word (reason.TooLong given) = codes "TooLong"
reason_word reason.NotBuilt = codes "NotBuilt"
reason_word reason.Syntax = codes "Syntax"
reason_word reason.Depth = codes "Depth"
reason_word reason.Arity = codes "Arity"
reason_word reason.Duplicate = codes "Duplicate"
reason_word reason.UnknownPolicy = codes "UnknownPolicy"
reason_word reason.OutOfRange = codes "OutOfRange"
reason_word reason.NoExplore = codes "NoExplore"
reason_word reason.BadAddress = codes "BadAddress"
reason_word reason.BadNumber = codes "BadNumber"
reason_word reason.UnknownName = codes "UnknownName"
reason_word reason.BadMask = codes "BadMask"
reason_word reason.WrongKind = codes "WrongKind"
reason_word reason.DuplicateSequence = codes "DuplicateSequence"
reason_word reason.BadEntry = codes "BadEntry"
reason_word reason.NextHopNotConnected = codes "NextHopNotConnected"
reason_word reason.UnknownInterface = codes "UnknownInterface"
reason_word reason.DuplicateStatic = codes "DuplicateStatic"
reason_word reason.DuplicatePool = codes "DuplicatePool"
reason_word reason.UnknownPool = codes "UnknownPool"
reason_word reason.Unclosed = codes "Unclosed"
reason_word reason.TooMany = codes "TooMany"

unfoldable pub refused_line : List ℕ → ℕ → Reason → List ℕ
refused_line file line reason = codes "refused: " ++ file ++ codes ":" ++ decimal line ++ codes ": " ++ reason_word reason ++ codes "\n"
