-- The order of a script's statements: what is asked stands behind an EXPLORE. No public call is stated by this.
use Rattle.std.specs.Prelude.{◌&&◌, ◌||◌, not, Bool, true, false, List, [], ◌∷◌}
use Rattle.query_lang.specs.declared.script.Kind.{Kind}
use Rattle.query_lang.specs.declared.script.Kind.TheVariants as kind
use Rattle.query_lang.specs.declared.script.Statement.{Statement}

abbrev pub is_show : Kind → Bool
is_show kind.ShowOne = true
is_show other = false

abbrev pub is_explore : Kind → Bool
is_explore (kind.Explore explore) = true
is_explore other = false

-- each SHOW ONE stands behind an EXPLORE, or there was one before
abbrev pub is_ordered : Bool → List Statement → Bool
is_ordered asked [] = true
is_ordered asked (statement ∷ statements) = (not (is_show statement.kind) || asked) && is_ordered (asked || is_explore statement.kind) statements
