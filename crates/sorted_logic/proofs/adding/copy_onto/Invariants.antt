use Rattle.std.proofs.Common.{◌≡◌, ◌++◌, drop}
use Rattle.sorted_logic.proofs.adding.copy_onto.Given as goal

-- the declarations so far are added
abbrev pub invariant-loop-decl : goal.invariant-loop-decl
invariant-loop-decl l = l.sorts ++ drop l.decl-index l.decls ≡ l.fn.sorts ++ l.decls
