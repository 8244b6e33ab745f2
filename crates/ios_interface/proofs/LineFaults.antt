-- The reasons of lines that are refused.
use Rattle.std.proofs.Common.{◌≡◌, [], ◌++◌}
use Rattle.ios_lex.specs.declared.fault.LineFault.{LineFault}
use Rattle.ios_lex.specs.declared.fault.LineFault.TheVariants as faults
use Rattle.ios_lex.specs.declared.stop.Stop.{Stop}
use Rattle.ios_lex.specs.NextWords.{NoMore, NoName}
use Rattle.ios_lex.specs.Phrases.{Words}
use Rattle.ios_lex.specs.Stops.{expected_of, is_lax, IsStop}
use Rattle.ios_lex.proofs.LineParts.{stop_of_same}
use Rattle.ios_lex.proofs.StopReasons.{refused_at_stop}
use Rattle.ios_interface.specs.declared.kind.Kind.{Kind}
use Rattle.ios_interface.specs.declared.kind.Kind.TheVariants as kinds
use Rattle.ios_interface.specs.declared.kind.Setting.{Setting}
use Rattle.ios_interface.specs.Faults.{IsFault, IsRestFault, rest_reason}
use Rattle.ios_interface.specs.Grammar.{Line, opening_words}
use Rattle.ios_interface.specs.Reading.{Fails, IsUnmodelled}
use Rattle.ios_interface.specs.Reading as reading
use Rattle.ios_interface.specs.Refusal.{lax_reason}

-- the rest of a line is refused where its words stop to be one
pub stop_fails : (kind : Kind) (rest : Words) (stop : Stop) → IsStop NoName (Line kind) rest stop → Fails kind rest (rest_reason kind rest stop)
stop_fails kind rest stop is =
    refused_at_stop (Line kind) rest stop (Fails kind rest) (λ _. []) (λ _. lax_reason kind)
    (λ front more word whole stopped. reading.stop front more word (expected_of stop.due) (is_lax stop.due) whole stopped)
    (λ begins none. reading.short begins none) is

-- behind the words of a setting nothing stands
pub setting_stop : (setting : Setting) (rest : Words) (stop : Stop) → IsStop NoName NoMore rest stop → IsStop NoName (Line (kinds.Setting setting)) rest stop
setting_stop setting rest stop stops = stop_of_same (Line (kinds.Setting setting)) NoMore rest stop (λ b x. (λ h. h, λ h. h)) stops

-- the fault of the rest of a line is one of the line
pub rest_fault : (kind : Kind) (words rest : Words) (fault : LineFault) → ((opening : Words) → IsUnmodelled words opening → ⊥) → words ≡ opening_words kind ++ rest
    → IsRestFault kind rest fault → IsFault words fault
rest_fault kind words rest (faults.Refused why) modelled opened fails = reading.rest kind rest why modelled opened fails
rest_fault kind words rest faults.NoMemory modelled opened fails = tt
