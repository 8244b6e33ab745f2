-- What a formula asks of policies.
use Rattle.std.specs.Prelude.{ℕ, List, [], ◌∷◌, ◌++◌}
use Rattle.std.specs.List.{flat_map}
use Rattle.query_lang.specs.declared.formula.Named.{Named}
use Rattle.query_lang.specs.declared.formula.Named.TheOpen.{Named-F}
use Rattle.query_lang.specs.declared.formula.Named.TheFolds.{fold-Named}
use Rattle.query_lang.specs.declared.literal.Path.{Path}

-- a policy or a rule of it, and the word behind its path
pub record PolicyAtom : Type 0 where
  pub path : Path
  pub word : List ℕ

abbrev pub mentions_step : Named-F (List PolicyAtom) → List PolicyAtom
mentions_step (Named-F.Not body) = body
mentions_step (Named-F.And parts) = flat_map (λ atoms. atoms) parts
mentions_step (Named-F.Or parts) = flat_map (λ atoms. atoms) parts
mentions_step (Named-F.Implies left right) = left ++ right
mentions_step (Named-F.Iff parts) = flat_map (λ atoms. atoms) parts
mentions_step (Named-F.Forall name sort body) = body
mentions_step (Named-F.Exists name sort body) = body
mentions_step (Named-F.AtPath path word args) = record { path = path; word = word } ∷ []
mentions_step other = []

-- the policy atoms of a formula, from the left
abbrev pub mentions : Named → List PolicyAtom
mentions = fold-Named (List PolicyAtom) mentions_step
