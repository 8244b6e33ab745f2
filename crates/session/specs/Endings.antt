-- What the calls of a run say of what they did. No public call is stated by this.
use Rattle.std.specs.Prelude.{◌≡◌, ℕ, Bool, false, List, [], ◌∷◌, Option, None}
use Rattle.mg_outside.specs.Effects.{HasRead, HasWritten}
use Rattle.mg_outside.specs.Logs.{FileLog, SinkLog}
use Rattle.mg_outside.specs.declared.files.FileFault.{FileFault}
use Rattle.mg_outside.specs.declared.files.FileFault.TheVariants as fault
use Rattle.mg_outside.specs.declared.sink.SinkFault.{SinkFault}
use Rattle.mg_outside.specs.declared.sink.SinkFault.TheVariants as sink
use Rattle.session.specs.declared.ended.Cause.{Cause}
use Rattle.session.specs.declared.ended.Cause.TheVariants as cause
use Rattle.session.specs.declared.ended.Reason.{Reason}
use Rattle.session.specs.declared.ended.Reason.TheVariants as reason
use Rattle.session.specs.Run.{IsCutShort, IsCut, IsSaid}
use Rattle.query_lang.specs.declared.script.Kind.{Kind}
use Rattle.session.specs.Steps.{State, reads_of, Carries}
use Rattle.session.specs.RunLines.{fault_line, refused_line}

-- the piece was cut
pub record CutsPiece (before now : SinkLog) (piece : List ℕ) (end : Cause) : Type 0 where
  pub taken : List ℕ
  pub refused : Bool
  pub may : IsCutShort end
  pub is_cut : IsCut piece end taken refused
  pub written : HasWritten before now (taken ∷ []) refused

-- the piece was cut, or memory was wanting before it was written
pub data CutsOrWants (before now : SinkLog) (piece : List ℕ) (end : Cause) : Type 0 where
  cuts : CutsPiece before now piece end → CutsOrWants before now piece end
  wants : end ≡ cause.NoMemory → HasWritten before now [] false → CutsOrWants before now piece end

-- a run ends with this line, or that is cut or can't be made
pub record Says (before now : SinkLog) (stop : Cause) (line : List ℕ) (end : Cause) : Type 0 where
  pub writes : List (List ℕ)
  pub refused : Bool
  pub is_said : IsSaid IsCutShort stop line writes refused end
  pub written : HasWritten before now writes refused

-- a run ends with the refusal of a line of a file, or that is cut or can't be made
abbrev pub EndsRefused : List ℕ → ℕ → Reason → SinkLog → SinkLog → Cause → Type 0
EndsRefused file line why before now end = Says before now (cause.Refused file line why) (refused_line file line why) end

-- what a fault of a read makes the run end with; at want of memory nothing is written
abbrev pub EndsUnread : List ℕ → FileFault → SinkLog → SinkLog → Cause → Type 0
EndsUnread file fault.Failed before now end = Says before now (cause.ReadFault file) (fault_line file) end
EndsUnread file (fault.TooLong given) before now end = EndsRefused file 0 (reason.TooLong given) before now end
EndsUnread file fault.NoMemory before now end = (end ≡ cause.NoMemory) × HasWritten before now [] false

-- a cause that speaks neither of the sink nor of memory
abbrev pub IsTold : Cause → Type 0
IsTold cause.WriteFault = ⊥
IsTold cause.NoMemory = ⊥
IsTold end = Unit {0}

-- the cause that a refused write is
abbrev pub cause_of : SinkFault → Cause
cause_of sink.Failed = cause.WriteFault
cause_of sink.NoMemory = cause.NoMemory

-- a statement was carried out: it read its files, and wrote its text
pub record IsCarriedOut (told : List ℕ → Option (List ℕ)) (state : State) (what : Kind) (new : State) (files files' : FileLog) (sink sink' : SinkLog) : Type 0 where
  pub pieces : List (List ℕ)
  pub carries : Carries told state what pieces new
  pub on_files : HasRead files files' (reads_of state what) None
  pub on_sink : HasWritten sink sink' pieces false
