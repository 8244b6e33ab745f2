use Rattle.query_lang.proofs.Commands.{link_read}
use Rattle.query_lang.proofs.read.commands.link.Goals as goal

pub returns-clause-read : goal.returns-clause-read
returns-clause-read c = link_read ((c.in_ok-from.from, c.in_ok-from.from_interface), (c.in_ok-from.to, c.in_ok-from.to_interface)) _ _ c.in_ok-from.ensures.read
