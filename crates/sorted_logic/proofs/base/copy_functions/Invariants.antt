use Rattle.std.proofs.Common.{◌≡◌, ◌++◌, drop}
use Rattle.sorted_logic.proofs.base.copy_functions.Given as goal

-- the declarations so far are copied
abbrev pub invariant-loop-decl : goal.invariant-loop-decl
invariant-loop-decl l = l.copies ++ drop l.decl-index l.decls ≡ l.decls
