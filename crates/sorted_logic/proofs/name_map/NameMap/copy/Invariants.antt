use Rattle.std.proofs.Common.{◌≡◌, take}
use Rattle.sorted_logic.proofs.name_map.NameMap.copy.Given as goal

-- the names so far are copied
abbrev pub invariant-loop-place : goal.invariant-loop-place
invariant-loop-place l = l.copy ≡ take l.place l.fn.self
