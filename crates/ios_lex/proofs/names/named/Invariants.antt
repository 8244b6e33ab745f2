use Rattle.std.proofs.Common.{◌≡◌, drop}
use Rattle.std.specs.Map.{lookup}
use Rattle.std.specs.Str.{bytes_eq}
use Rattle.ios_lex.proofs.names.named.Given as goal

-- the word is none of the names so far
abbrev pub invariant-loop-name : goal.invariant-loop-name
invariant-loop-name g l =
    lookup (λ name. bytes_eq l.word name.now) (drop l.name-index l.table) ≡ lookup (λ name. bytes_eq l.word name.now) l.table
