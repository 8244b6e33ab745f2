use Rattle.ios_lex.proofs.AddressParts.{address_is_one}
use Rattle.ios_lex.proofs.AddressTexts.{dotted_address}
use Rattle.ios_lex.proofs.addresses.one_address.Goals as goal

pub returns-clause-same : goal.returns-clause-same
returns-clause-same c = address_is_one

pub returns-clause-written : goal.returns-clause-written
returns-clause-written c = dotted_address
