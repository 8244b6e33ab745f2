use Rattle.std.proofs.Common.{sym, ap, ◌∙◌, List, ℕ, position}
use Rattle.std.specs.Str.{bytes_eq}
use Rattle.indexmap.specs.IndexMap.{keys}
use Rattle.ios_names.proofs.AddedNames.{position_map}
use Rattle.ios_names.proofs.name_index.NameIndex.place.Goals as goal

pub returns-clause-place : goal.returns-clause-place
returns-clause-place c =
    c.get_index_of.ensures.index
    ∙ sym (position_map (bytes_eq c.args.name.now) (λ key. key.items) (keys c.self.inside.names))
    ∙ ap (λ (names : List (List ℕ)). position (bytes_eq c.args.name.now) names) (c.self.invariant ∙ c.self.view_is)
