-- Runs that end at a statement, by what its calls did.
use Rattle.std.proofs.Common.{ℕ, false, List, [], ◌∷◌, Option, None, sym, append-nil}
use Rattle.mg_outside.specs.Effects.{HasRead, HasWritten, Performs}
use Rattle.mg_outside.specs.Logs.{FileLog, SinkLog}
use Rattle.session.specs.declared.ended.Cause.{Cause}
use Rattle.session.specs.declared.ended.Cause.TheVariants as cause
use Rattle.session.specs.Endings.{CutsOrWants, CutsPiece, Says, cuts, wants as wants_piece}
use Rattle.session.specs.Run.{EndsAt, IsCutShort, cut, effects, stops, wants}
use Rattle.query_lang.specs.declared.script.Kind.{Kind}
use Rattle.session.specs.Steps.{Carries, State, Stops, reads_of}

module _ (script : List ℕ) (told : List ℕ → Option (List ℕ)) (line : ℕ) (state : State) (what : Kind) (files files' : FileLog) (sink sink' : SinkLog) where
  -- a line is the last
  pub stops_here : (stop : Cause) (text : List ℕ) (end : Cause) → Stops script told line state what None stop text → HasRead files files' (reads_of state what) None → Says sink sink' stop text end → Performs (EndsAt IsCutShort script told line state what) files files' sink sink' end
  stops_here stop text end is_stop reads says = record {
    effects = effects (reads_of state what) None says.writes says.refused;
    is_run = stops None stop end text says.writes says.refused is_stop says.is_said;
    on_files = reads;
    on_sink = says.written;
  }

  -- the text of the statement, which is one piece, was cut
  pub cut_here : (piece : List ℕ) (new : State) (end : Cause) → Carries told state what (piece ∷ []) new → HasRead files files' (reads_of state what) None → CutsPiece sink sink' piece end → Performs (EndsAt IsCutShort script told line state what) files files' sink sink' end
  cut_here piece new end carries reads is_cut = record {
    effects = effects (reads_of state what) None (is_cut.taken ∷ []) is_cut.refused;
    is_run = cut [] [] piece is_cut.taken new end is_cut.refused carries is_cut.may is_cut.is_cut;
    on_files = reads;
    on_sink = is_cut.written;
  }

  -- memory was wanting before anything was written
  pub wants_here : HasRead files files' (reads_of state what) None → HasWritten sink sink' [] false → Performs (EndsAt IsCutShort script told line state what) files files' sink sink' cause.NoMemory
  wants_here reads nothing = record {
    effects = effects (reads_of state what) None [] false;
    is_run = wants (reads_of state what) [] (sym (append-nil (reads_of state what))) tt;
    on_files = reads;
    on_sink = nothing;
  }

  -- one of the two
  pub cut_or_wants_here : (piece : List ℕ) (new : State) (end : Cause) → Carries told state what (piece ∷ []) new → HasRead files files' (reads_of state what) None → CutsOrWants sink sink' piece end → Performs (EndsAt IsCutShort script told line state what) files files' sink sink' end
  cut_or_wants_here piece new end carries reads (cuts is_cut) = cut_here piece new end carries reads is_cut
  cut_or_wants_here piece new end carries reads (wants_piece is nothing) = rw is (wants_here reads nothing)
