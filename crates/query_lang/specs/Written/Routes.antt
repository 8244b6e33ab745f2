-- Which statements name two interfaces.
use Rattle.std.specs.Prelude.{Bool, true, false}
use Rattle.query_lang.specs.declared.script.Kind.{Kind}
use Rattle.query_lang.specs.declared.script.Kind.TheVariants as kind

-- the statement is a link, or a search for paths
abbrev pub is_route : Kind → Bool
is_route (kind.Link from from_interface to to_interface) = true
is_route (kind.Paths from from_interface to to_interface within) = true
is_route _ = false
