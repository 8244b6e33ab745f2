use Rattle.std.proofs.Common.{◌≡◌, ◌+◌, ◌≤◌, length, drop}
use Rattle.std.specs.List.{filter}
use Rattle.session.specs.Library.{is_defined}
use Rattle.session.proofs.library.defined_count.Given as goal

-- those that are defined behind are not counted yet
abbrev pub invariant-loop-list : goal.invariant-loop-list
invariant-loop-list l = record {
  counted : l.count + length (filter is_defined (drop l.list-index l.lists)) ≡ length (filter is_defined l.lists);
  fits : l.count ≤ l.list-index;
}
