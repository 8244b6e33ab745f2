use Rattle.std.proofs.Common.{◌≡◌, drop}
use Rattle.std.specs.List.{list_any}
use Rattle.sorted_logic.specs.Adding.{symbol_of}
use Rattle.sorted_logic.specs.Joining.{relation_clashes}
use Rattle.sorted_logic.proofs.clash.relations_clash.Given as goal

-- none of the declarations so far clashes
abbrev pub invariant-loop-decl : goal.invariant-loop-decl
invariant-loop-decl l = list_any (λ d. relation_clashes l.fn.a l.fn.b d (symbol_of l.fn.a d.name)) (drop l.decl-index l.fn.b.relations)
    ≡ list_any (λ d. relation_clashes l.fn.a l.fn.b d (symbol_of l.fn.a d.name)) l.fn.b.relations
