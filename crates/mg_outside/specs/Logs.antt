-- What files and sinks have done so far.
use Rattle.std.specs.Prelude.{ℕ, List, Option}

-- the names that were read, in order, and how often reads of each name have failed
pub record FileLog : Type 0 where
  pub names : List (List ℕ)
  pub faults : List ℕ → ℕ

-- the bytes that were taken, where they are told, and how many writes there were and how many failed
pub record SinkLog : Type 0 where
  pub taken : Option (List ℕ)
  pub writes : ℕ
  pub faults : ℕ

-- what a folder has done: the names that were to be opened, in order, how many bytes its files have given, up to 2^64 - 1, and how
-- often a call has failed
pub record FolderLog : Type 0 where
  pub names : List (List ℕ)
  pub given : ℕ
  pub faults : ℕ

-- a sink over an output, and how many writes there were
pub record Over (O : Type 0) : Type 0 where
  pub output : O
  pub writes : ℕ
