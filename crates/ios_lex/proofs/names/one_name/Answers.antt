use Rattle.ios_lex.proofs.Spellings.{protocol_is_one, port_is_one, message_is_one}
use Rattle.ios_lex.proofs.names.one_name.Goals as goal

pub returns-clause-protocol : goal.returns-clause-protocol
returns-clause-protocol c = protocol_is_one

pub returns-clause-port : goal.returns-clause-port
returns-clause-port c = port_is_one

pub returns-clause-message : goal.returns-clause-message
returns-clause-message c = message_is_one
