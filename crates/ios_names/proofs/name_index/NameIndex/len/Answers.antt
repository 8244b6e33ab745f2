use Rattle.std.specs.List.{IsDistinct}
use Rattle.std.specs.Str.{bytes_eq}
use Rattle.std.proofs.Common.{◌∙◌, subst}
use Rattle.indexmap.specs.IndexMap.{keys}
use Rattle.ios_names.proofs.AddedNames.{distinct_map}
use Rattle.ios_names.proofs.name_index.NameIndex.len.Goals as goal

pub returns-clause-different : goal.returns-clause-different
returns-clause-different c =
    subst (λ names. IsDistinct bytes_eq names) (c.self.invariant ∙ c.self.view_is) (distinct_map bytes_eq (λ key. key.items) (keys c.self.inside.names) c.len.ensures.unique)
