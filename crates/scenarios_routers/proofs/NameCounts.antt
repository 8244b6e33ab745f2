-- A table has no more names than were there and were added.
use Rattle.std.proofs.Common.{◌+◌, ◌≤◌, ℕ, Bool, true, false, cond, List, [], ◌∷◌, ◌++◌, length, length-append, arith}
use Rattle.std.specs.List.{list_any}
use Rattle.std.specs.Str.{bytes_eq}
use Rattle.ios_names.specs.Names.{with_name, with_names}

name_count : (known : List (List ℕ)) (name : List ℕ) → length (with_name known name) ≤ length known + 1
name_count known name = by (list_any (bytes_eq name) known)
  where
    by : (there : Bool) → length (cond there known (known ++ name ∷ [])) ≤ length known + 1
    by true = omega arith
    by false = omega (arith, length-append known (name ∷ []))

pub names_count : (known names : List (List ℕ)) → length (with_names known names) ≤ length known + length names
names_count known [] = omega arith
names_count known (name ∷ names) = omega (arith, name_count known name, names_count (with_name known name) names)
