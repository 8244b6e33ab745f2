use Rattle.std.proofs.Common.{◌≡◌, drop}
use Rattle.ios_config.specs.Sources as specs
use Rattle.ios_config.proofs.source_choice.counting.Given as goal

-- none of the entries so far counts
abbrev pub invariant-loop-dynamic : goal.invariant-loop-dynamic
invariant-loop-dynamic l = specs.counting l.lists (drop l.dynamic-index l.dynamics) l.packet ≡ specs.counting l.lists l.dynamics l.packet
