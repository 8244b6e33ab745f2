use Rattle.std.proofs.Common.{◌∙◌, sym, ap, take}
use Rattle.std.specs.Map.{values_of}
use Rattle.std.proofs.lemmas.List.{take-map}
use Rattle.ios_names.proofs.AddedNames.{named_first}
use Rattle.ios_names.proofs.name_index.NameIndex.truncate.Goals as goal

pub invariant_of-self : goal.invariant_of-self
invariant_of-self c = rw c.truncate.ensures.entries (named_first (λ key. key.items) c.args.len c.self.inside.names.entries c.self.invariant)

pub returns : goal.returns
returns c = ap values_of c.truncate.ensures.entries ∙ sym (take-map (λ e. e.1) c.args.len c.self.inside.names.entries) ∙ ap (take c.args.len) c.self.view_is
