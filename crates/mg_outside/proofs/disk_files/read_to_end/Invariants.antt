use Rattle.std.proofs.Common.{◌≡◌, ℕ, List, ◌+◌, ◌-◌, ◌≤◌, length, vec_len}
use Rattle.std.specs.Io.KnownBytes.{Consumes}
use Rattle.mg_outside.specs.Faults.{Counted}
use Rattle.mg_outside.proofs.disk_files.read_to_end.Given as goal

-- the bytes so far are what the opened file has given, and no call has failed
abbrev pub invariant-loop-piece : goal.invariant-loop-piece
invariant-loop-piece g l =
    record {
      given : Consumes (g.D.Folder.left l.initial.opened) (g.D.Folder.left l.opened) l.bytes.items;
      names : (g.D.Folder.log l.folder).names ≡ (g.D.Folder.log l.initial.folder).names;
      counted : Counted (length l.bytes.items) (g.D.Folder.log l.initial.folder).given (g.D.Folder.log l.folder).given;
      one_piece : length l.bytes.items ≤ l.fn.max + 4096;
      calm : (g.D.Folder.log l.folder).faults ≡ (g.D.Folder.log l.initial.folder).faults;
      same : (other : List ℕ) → g.D.Folder.holds l.folder other ≡ g.D.Folder.holds l.initial.folder other;
    }

-- the bytes that may still come
abbrev pub decreases-loop-piece : goal.decreases-loop-piece
decreases-loop-piece g l = l.fn.max + 1 - vec_len l.bytes
