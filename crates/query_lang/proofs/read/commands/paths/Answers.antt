use Rattle.std.proofs.Common.{rules}
use Rattle.query_lang.proofs.Commands.{paths_read, paths_stops2}
use Rattle.query_lang.proofs.read.commands.paths.Goals as goal

pub returns-clause-read : goal.returns-clause-read
returns-clause-read c =
    paths_read ((c.in_ok-from.from, c.in_ok-from.from_interface), (c.in_ok-from.to, c.in_ok-from.to_interface)) _ _ _ _ _ c.in_ok-from.ensures.read c.in_ok-next.ensures.read c.in_ok-within.ensures.read

pub returns-in_err-within-clause-refused : goal.returns-in_err-within-clause-refused
returns-in_err-within-clause-refused c =
    search (rules, paths_stops2 ((c.in_ok-from.from, c.in_ok-from.from_interface), (c.in_ok-from.to, c.in_ok-from.to_interface)) _ _ _ _ _ c.in_ok-from.ensures.read c.in_ok-next.ensures.read c.in_err-within.ensures.refused)
