-- What a run did with files and a sink in several steps. Crates above cite this.
use Rattle.std.proofs.Common.{◌≡◌, ℕ, ◌+◌, ◌≤◌, Bool, true, false, List, [], ◌∷◌, ◌++◌, length, Option, None, Some, refl, sym, ap, ◌∙◌, arith, append_assoc, append-nil, length-append}
use Rattle.mg_outside.specs.Faults.{Counted, Rose}
use Rattle.mg_outside.specs.Logs.{FileLog, SinkLog}
use Rattle.mg_outside.specs.Taking.{Takes, TakesFront}
use Rattle.mg_outside.specs.Effects.{FaultsMoved, HasRead, HasWritten, RefusalCounted, joined}
use Rattle.mg_outside.proofs.Counts.{Counted-then}
use Rattle.mg_outside.proofs.Takings.{Takes-then}

pub joined-append : (pieces more : List (List ℕ)) → joined (pieces ++ more) ≡ joined pieces ++ joined more
joined-append [] more = refl
joined-append (piece ∷ pieces) more =
    ap (λ text. piece ++ text) (joined-append pieces more) ∙ sym (append_assoc piece (joined pieces) (joined more))

-- nothing was read
pub has_read_nothing : (log : FileLog) → HasRead log log [] None
has_read_nothing log = record { names = sym (append-nil log.names); faults = λ name. refl }

-- a failed read behind others that did not fail
faults_moved_then : (a b c : List ℕ → ℕ) (failed : Option (List ℕ)) → FaultsMoved None a b → FaultsMoved failed b c → FaultsMoved failed a c
faults_moved_then a b c None calm moved = λ name. moved name ∙ calm name
faults_moved_then a b c (Some failed) calm moved = (
  rw (calm failed) at moved.0,
  λ name. rw (calm name) at (moved.1 name),
  λ name. rw (calm name) at (moved.2 name),
)

-- names that were read in two steps, of which the first did not fail
pub has_read_then : (a b c : FileLog) (reads more : List (List ℕ)) (failed : Option (List ℕ)) → HasRead a b reads None → HasRead b c more failed → HasRead a c (reads ++ more) failed
has_read_then a b c reads more failed first second = record {
  names = second.names ∙ ap (λ names. names ++ more) first.names ∙ append_assoc a.names reads more;
  faults = faults_moved_then a.faults b.faults c.faults failed first.faults second.faults;
}

-- nothing was taken
pub Takes-nothing : (taken : Option (List ℕ)) → Takes taken taken []
Takes-nothing None = refl
Takes-nothing (Some bytes) = ap Some (sym (append-nil bytes))

-- nothing was written
pub has_written_nothing : (log : SinkLog) → HasWritten log log [] false
has_written_nothing log = record { taken = Takes-nothing log.taken; counted = refl; faults = refl }

refusal_then : (a b c : ℕ) (refused : Bool) → b ≡ a → RefusalCounted refused b c → RefusalCounted refused a c
refusal_then a b c true calm moved = (rw calm at moved.0, rw calm at moved.1)
refusal_then a b c false calm moved = moved ∙ calm

-- pieces that were written in two steps, of which the first was not refused
pub has_written_then : (a b c : SinkLog) (pieces more : List (List ℕ)) (refused : Bool) → HasWritten a b pieces false → HasWritten b c more refused → HasWritten a c (pieces ++ more) refused
has_written_then a b c pieces more refused first second = record {
  taken = rw joined-append (Takes-then a.taken b.taken c.taken (joined pieces) (joined more) first.taken second.taken);
  counted = rw length-append (Counted-then (length pieces) (length more) a.writes b.writes c.writes first.counted second.counted);
  faults = refusal_then a.faults b.faults c.faults refused first.faults second.faults;
}

-- one piece was written whole
pub has_written_one : (a b : SinkLog) (piece : List ℕ) → Takes a.taken b.taken piece → Counted 1 a.writes b.writes → b.faults ≡ a.faults → HasWritten a b (piece ∷ []) false
has_written_one a b piece taken counted calm = record { taken = rw append-nil taken; counted = counted; faults = calm }

-- all that was taken is a front of a longer text
pub is_front_of_longer : (before after : Option (List ℕ)) (text more : List ℕ) → Takes before after text → TakesFront before after (text ++ more)
is_front_of_longer before after text more taken = record { front = text; rest = more; whole = refl; taken = taken }
