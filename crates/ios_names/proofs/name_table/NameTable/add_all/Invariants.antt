use Rattle.std.proofs.Common.{◌≡◌, ◌≤◌, length, take, drop}
use Rattle.ios_names.specs.Names.{with_names}
use Rattle.ios_names.proofs.name_table.NameTable.add_all.Given as goal

-- the rest of the names makes of the table what all of them make of it at the beginning, and its first names are those of the beginning
abbrev pub invariant-loop-name : goal.invariant-loop-name
invariant-loop-name l = record {
  rest : with_names l.self-inside.names (drop l.name-index l.names) ≡ with_names l.fn.self l.names;
  first : take l.before l.self-inside.names ≡ l.fn.self;
  within : l.before ≤ length l.self-inside.names;
}
