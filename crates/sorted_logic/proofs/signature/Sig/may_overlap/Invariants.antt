use Rattle.std.proofs.Common.{◌≡◌, drop}
use Rattle.std.specs.List.{list_any}
use Rattle.sorted_logic.specs.Signature.{keeps_apart}
use Rattle.sorted_logic.proofs.signature.Sig.may_overlap.Given as goal

-- the pairs so far do not keep the two sorts apart
abbrev pub invariant-loop-pair : goal.invariant-loop-pair
invariant-loop-pair l = list_any (keeps_apart l.fn.self l.fn.left.0 l.fn.right.0) (drop l.pair-index l.fn.self.disjoint)
    ≡ list_any (keeps_apart l.fn.self l.fn.left.0 l.fn.right.0) l.fn.self.disjoint
