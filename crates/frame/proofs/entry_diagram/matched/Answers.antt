use Rattle.std.proofs.Common.{ap}
use Rattle.decision_diagram.specs.Tree.{value}
use Rattle.frame.proofs.PacketTests.{all_narrow}
use Rattle.frame.proofs.entry_diagram.matched.Goals as goal

pub returns-clause-matches : goal.returns-clause-matches
returns-clause-matches c =
    all_narrow _ _ _ _ _ _ _ _ c.args.entry.now _ _ _ _ _ _ _ _ (λ bits. ap (λ t. value t bits) c.leaf-always.ensures.leaf)
    c.in_ok-message.ensures.narrows c.in_ok-flags.ensures.narrows c.in_ok-proto.ensures.narrows c.in_ok-dport.ensures.narrows c.in_ok-sport.ensures.narrows
    c.in_ok-dst.ensures.narrows c.in_ok-src.ensures.narrows
