use Rattle.std.proofs.Common.{sym, ap, ◌∙◌}
use Rattle.sorted_logic.specs.Inside.Kept.{meaning}
use Rattle.sorted_logic.proofs.NameMaps.{looked_up}
use Rattle.sorted_logic.proofs.name_map.NameMap.find.Goals as goal

pub returns : goal.returns
returns c =
    c.copied.ensures ∙ c.get.ensures.value ∙ sym (looked_up (λ key. key.items) c.args.name.now c.self.inside.symbols.entries)
    ∙ ap (λ map. meaning map c.args.name.now) c.self.view_is
