use Rattle.std.proofs.Common.{sym, ap, ◌∙◌, take, map}
use Rattle.std.proofs.lemmas.List.{take-map}
use Rattle.sorted_logic.proofs.NameMaps.{seen}
use Rattle.sorted_logic.proofs.name_map.NameMap.truncate.Goals as goal

pub returns : goal.returns
returns c =
    ap (map (seen (λ key. key.items))) c.truncate.ensures.entries
    ∙ sym (take-map (seen (λ key. key.items)) c.args.len c.self.inside.symbols.entries) ∙ ap (take c.args.len) c.self.view_is
