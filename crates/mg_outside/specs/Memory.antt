-- Files and sinks in memory.
use Rattle.std.specs.Prelude.{◌≡◌, ℕ, ◌+◌, Bool, ◌==◌, ◌||◌, List, [], ◌∷◌, ◌++◌, length, Option, Some, None, Result, Ok, Err, is_none, unwrap_or, count_by, if◌then◌else◌}
use Rattle.std.specs.List.{list_any}
use Rattle.std.specs.Str.{bytes_eq}
use Rattle.mg_outside.specs.Faults.{one_more}
use Rattle.mg_outside.specs.Reading.{AddsAtMost}
use Rattle.mg_outside.specs.declared.files.FileFault.{FileFault}
use Rattle.mg_outside.specs.declared.files.FileFault.TheVariants as fault

-- names with their bytes
abbrev pub Entries : Type 0
Entries = List (List ℕ × List ℕ)

-- what stands under a name, the first of several
abbrev pub bytes_under : List ℕ → Entries → Option (List ℕ)
bytes_under name [] = None
bytes_under name (entry ∷ entries) = if bytes_eq name entry.0 then Some entry.1 else bytes_under name entries

-- files: the entries, the numbers of the reads that are to fail, the names that were read, and those whose reads have failed
pub record HeldFiles : Type 0 where
  pub entries : Entries
  pub failing : List ℕ
  pub names : List (List ℕ)
  pub failed : List (List ℕ)

-- how often reads of a name have failed
abbrev pub failures : List (List ℕ) → List ℕ → ℕ
failures failed name = count_by (bytes_eq name) failed

-- whether the next read, of this name, is to fail: by its number, or because nothing has the name
abbrev pub read_is_to_fail : HeldFiles → List ℕ → Bool
read_is_to_fail files name =
    list_any (λ number. number == length files.names + 1) files.failing || is_none (bytes_under name files.entries)

abbrev pub with_name : HeldFiles → List ℕ → HeldFiles
with_name files name = record files { names = files.names ++ name ∷ [] }

-- the files after a read that gave this answer: after want of memory the name may be noted or not
abbrev pub IsAfterRead : {T : Type 0} → HeldFiles → List ℕ → Result T FileFault → HeldFiles → Type 0
IsAfterRead files name (Ok bytes) after = after ≡ with_name files name
IsAfterRead files name (Err (fault.TooLong given)) after = after ≡ with_name files name
IsAfterRead files name (Err fault.Failed) after = after ≡ record (with_name files name) { failed = files.failed ++ name ∷ [] }
IsAfterRead files name (Err fault.NoMemory) after = AddsAtMost files.names name after.names × (after ≡ record files { names = after.names })

-- files that never fail to be read: the entries, and the names that were read
pub record HeldSureFiles : Type 0 where
  pub entries : Entries
  pub names : List (List ℕ)

-- what stands under a name, and nothing where nothing was put
abbrev pub held_by : HeldSureFiles → List ℕ → List ℕ
held_by files name = unwrap_or (bytes_under name files.entries) []

-- a sink: its bytes, the writes that are to fail, each with how many bytes it takes, and how many writes and faults there were
pub record HeldSink : Type 0 where
  pub bytes : List ℕ
  pub failing : List (ℕ × ℕ)
  pub writes : ℕ
  pub faults : ℕ

-- after how many bytes a write is to fail
abbrev pub limit_of : ℕ → List (ℕ × ℕ) → Option ℕ
limit_of number [] = None
limit_of number (entry ∷ entries) = if entry.0 == number then Some entry.1 else limit_of number entries

-- after how many bytes the next write is to fail
abbrev pub next_limit : HeldSink → Option ℕ
next_limit sink = limit_of (one_more sink.writes) sink.failing

-- the sink after a write that took these bytes
abbrev pub after_write : HeldSink → List ℕ → HeldSink
after_write sink bytes = record sink { bytes = sink.bytes ++ bytes; writes = one_more sink.writes }

-- the sink after a write that failed
abbrev pub after_failure : HeldSink → List ℕ → HeldSink
after_failure sink bytes = record (after_write sink bytes) { faults = one_more sink.faults }

-- a sink that never fails: its bytes, and how many writes there were
pub record HeldSureSink : Type 0 where
  pub bytes : List ℕ
  pub writes : ℕ
