-- What a sink has taken of a run's text, as the calls of a run say it.
use Rattle.std.proofs.Common.{◌≡◌, ℕ, ◌+◌, ◌≤◌, true, false, List, [], ◌∷◌, Result, Ok, Err, OnOk, refl, append-nil}
use Rattle.mg_outside.specs.Faults.{Rose, one_more}
use Rattle.mg_outside.specs.Logs.{SinkLog}
use Rattle.mg_outside.specs.Taking.{TakesFront}
use Rattle.mg_outside.specs.declared.sink.SinkFault.{SinkFault}
use Rattle.mg_outside.specs.declared.sink.SinkFault.TheVariants as sink
use Rattle.mg_outside.proofs.EffectLaws.{Takes-nothing, has_written_nothing}
use Rattle.session.specs.declared.ended.Cause.{Cause}
use Rattle.session.specs.declared.ended.Cause.TheVariants as cause
use Rattle.session.specs.Endings.{CutsPiece, Says, cause_of}
use Rattle.session.specs.Run.{refused, unkept, cut, unmade}

-- a write that failed has cut its piece
pub piece_cut : (before now : SinkLog) (piece : List ℕ) (why : SinkFault) → TakesFront before.taken now.taken piece → (why ≡ sink.NoMemory → now.taken ≡ before.taken) → now.writes ≡ one_more before.writes → (why ≡ sink.Failed → Rose before.faults now.faults) → (why ≡ sink.NoMemory → now.faults ≡ before.faults) → now.faults ≤ before.faults + 1 → CutsPiece before now piece (cause_of why)
piece_cut before now piece sink.Failed front kept counted rose calm most = record {
  taken = front.front;
  refused = true;
  may = tt;
  is_cut = refused front.front front.rest front.whole;
  written = record { taken = rw append-nil front.taken; counted = counted; faults = (rose refl, most) };
}
piece_cut before now piece sink.NoMemory front kept counted rose calm most = record {
  taken = [];
  refused = false;
  may = tt;
  is_cut = unkept;
  written = record { taken = rw (kept refl) (Takes-nothing before.taken); counted = counted; faults = calm refl };
}

-- a line of which a write was cut
pub cut_is_said : (before now : SinkLog) (stop : Cause) (line : List ℕ) (end : Cause) → CutsPiece before now line end → Says before now stop line end
cut_is_said before now stop line end cuts = record {
  writes = cuts.taken ∷ [];
  refused = cuts.refused;
  is_said = cut end cuts.taken cuts.refused cuts.may cuts.is_cut;
  written = cuts.written;
}

-- a line for which there was no memory
pub unmade_is_said : (log : SinkLog) (stop : Cause) (line : List ℕ) → Says log log stop line cause.NoMemory
unmade_is_said log stop line = record { writes = []; refused = false; is_said = unmade tt; written = has_written_nothing log }

-- two facts of a call that was done
pub both_on_ok : {T E P Q R : Type 0} (r : Result T E) → (P → Q → R) → OnOk r P → OnOk r Q → OnOk r R
both_on_ok (Ok x) step p q = step p q
both_on_ok (Err e) step p q = tt
