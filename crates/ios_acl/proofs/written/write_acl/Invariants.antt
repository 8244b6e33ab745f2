use Rattle.std.proofs.Common.{◌≡◌, ◌++◌, take}
use Rattle.ios_acl.specs.Spelling.{opening_line, entry_lines}
use Rattle.ios_acl.proofs.written.write_acl.Given as goal

abbrev pub invariant-loop-entry : goal.invariant-loop-entry
invariant-loop-entry l = l.text.items ≡ opening_line l.fn.acl.extended l.fn.acl.name ++ entry_lines l.fn.acl.extended (take l.entry-index l.entry-items)
