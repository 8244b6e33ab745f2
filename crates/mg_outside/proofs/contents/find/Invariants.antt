use Rattle.std.proofs.Common.{◌≡◌, drop}
use Rattle.mg_outside.specs.Memory.{bytes_under}
use Rattle.mg_outside.proofs.contents.find.Given as goal

-- none of the entries so far has the name
abbrev pub invariant-loop-entry : goal.invariant-loop-entry
invariant-loop-entry l = bytes_under l.name (drop l.entry-index l.entries) ≡ bytes_under l.name l.entries
