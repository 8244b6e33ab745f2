use Rattle.std.proofs.Common.{◌≡◌, ◌≤◌, ◌+◌, ◌++◌, length, take, drop}
use Rattle.sorted_logic.specs.Inside.Kept.{any_known, meant_sorts}
use Rattle.sorted_logic.proofs.name_map.NameMap.add_sorts.Given as goal

-- the rest of the sorts is taken or not as all are at the beginning, and the first names are those of the beginning
abbrev pub invariant-loop-decl : goal.invariant-loop-decl
invariant-loop-decl l = record {
  added : l.self ++ meant_sorts l.place (drop l.decl-index l.decls) ≡ l.fn.self ++ meant_sorts l.fn.first l.decls;
  known : any_known l.self l.place (drop l.decl-index l.decls) ≡ any_known l.fn.self l.fn.first l.decls;
  front : take l.before l.self ≡ l.fn.self;
  within : l.before ≤ length l.self;
  place : l.place ≡ l.fn.first + l.decl-index;
}
