-- A file that was not read, as the end of a run.
use Rattle.std.proofs.Common.{◌≡◌, inl, inr, ℕ, ◌+◌, ◌≤◌, false, List, [], ◌∷◌, ◌++◌, Option, None, Some, refl, append-nil}
use Rattle.mg_outside.specs.Effects.{Effects, Performs}
use Rattle.mg_outside.specs.Faults.{Rose}
use Rattle.mg_outside.specs.Logs.{FileLog, SinkLog}
use Rattle.mg_outside.specs.Reading.{AddsAtMost, Explains}
use Rattle.mg_outside.specs.declared.files.FileFault.{FileFault}
use Rattle.mg_outside.specs.declared.files.FileFault.TheVariants as file_fault
use Rattle.session.specs.declared.ended.Cause.{Cause}
use Rattle.session.specs.declared.ended.Cause.TheVariants as cause
use Rattle.session.specs.Endings.{EndsUnread}
use Rattle.session.specs.Run.{IsCutShort, IsSaid, effects}
use Rattle.session.specs.Steps.{max_bytes, IsUnread, fault, too_long}

-- what files say of a read that gave no bytes
pub record IsFailedRead (file : List ℕ) (told : Option (List ℕ)) (before now : FileLog) (why : FileFault) : Type 0 where
  pub explains : Explains told max_bytes why
  pub named : (why ≡ file_fault.NoMemory → ⊥) → now.names ≡ before.names ++ file ∷ []
  pub named_at_most : AddsAtMost before.names file now.names
  pub rose : why ≡ file_fault.Failed → Rose (before.faults file) (now.faults file)
  pub calm : (why ≡ file_fault.Failed → ⊥) → (other : List ℕ) → now.faults other ≡ before.faults other
  pub at_most_one : (other : List ℕ) → now.faults other ≤ before.faults other + 1
  pub later : (other : List ℕ) → before.faults other ≤ now.faults other

-- a run that ends in each of the two ways ends so
pub unread_ends : (Run : Effects → Cause → Type 0) (file : List ℕ) (told : Option (List ℕ)) (before now : FileLog) (sink sink' : SinkLog) (why : FileFault) (end : Cause)
    → IsFailedRead file told before now why → EndsUnread file why sink sink' end
    → ((failed : Option (List ℕ)) (stop : Cause) (text : List ℕ) (writes : List (List ℕ)) (refused : _) → IsUnread file told failed stop text → IsSaid IsCutShort stop text writes refused end → Run (effects (file ∷ []) failed writes refused) end)
    → ((reads rest : List (List ℕ)) → file ∷ [] ≡ reads ++ rest → end ≡ cause.NoMemory → Run (effects reads None [] false) end)
    → Performs Run before now sink sink' end
unread_ends Run file told before now sink sink' file_fault.Failed end read said says wants = record {
  effects = effects (file ∷ []) (Some file) said.writes said.refused;
  is_run = says (Some file) (cause.ReadFault file) _ said.writes said.refused (fault refl refl refl) said.is_said;
  on_files = record { names = read.named (λ same. cc); faults = (read.rose refl, read.later, read.at_most_one) };
  on_sink = said.written;
}
unread_ends Run file told before now sink sink' (file_fault.TooLong given) end read said says wants = record {
  effects = effects (file ∷ []) None said.writes said.refused;
  is_run = says None _ _ said.writes said.refused (too_long given read.explains.0 read.explains.1 refl refl refl) said.is_said;
  on_files = record { names = read.named (λ same. cc); faults = read.calm (λ same. cc) };
  on_sink = said.written;
}
unread_ends Run file told before now sink sink' file_fault.NoMemory end read said says wants =
    let calm = read.calm (λ same. cc) in
    elim read.named_at_most [
      | inl same ↦ record {
        effects = effects [] None [] false;
        is_run = wants [] (file ∷ []) refl said.0;
        on_files = record { names = rw (append-nil) same; faults = calm };
        on_sink = said.1;
      }
      | inr more ↦ record {
        effects = effects (file ∷ []) None [] false;
        is_run = wants (file ∷ []) [] refl said.0;
        on_files = record { names = more; faults = calm };
        on_sink = said.1;
      }
    ]
