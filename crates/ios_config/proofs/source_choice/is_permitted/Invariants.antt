use Rattle.std.proofs.Common.{◌≡◌, drop}
use Rattle.ios_config.specs.Sources as specs
use Rattle.ios_config.proofs.source_choice.is_permitted.Given as goal

-- none of the lists so far has the name
abbrev pub invariant-loop-list : goal.invariant-loop-list
invariant-loop-list l = specs.is_permitted (drop l.list-index l.lists) l.packet l.name ≡ specs.is_permitted l.lists l.packet l.name
