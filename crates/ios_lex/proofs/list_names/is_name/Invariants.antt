use Rattle.std.proofs.Common.{◌≡◌, drop}
use Rattle.ios_lex.specs.ListNames.{is_name}
use Rattle.ios_lex.proofs.list_names.is_name.Given as goal

-- the bytes so far may stand in a name
abbrev pub invariant-loop-byte : goal.invariant-loop-byte
invariant-loop-byte l = is_name (drop l.byte-index l.name) ≡ is_name l.name
