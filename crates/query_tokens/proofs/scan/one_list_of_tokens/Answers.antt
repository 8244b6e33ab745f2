use Rattle.std.proofs.Common.{length, refl, arith}
use Rattle.query_tokens.proofs.OneList.{list_is_one, list_is_some, lines_rise, bad_stands_last}
use Rattle.query_tokens.proofs.scan.one_list_of_tokens.Goals as goal

pub returns-clause-same : goal.returns-clause-same
returns-clause-same c = list_is_one 1

pub returns-clause-some : goal.returns-clause-some
returns-clause-some c = λ bytes. list_is_some (length bytes) 1 bytes (omega arith)

pub returns-clause-lines : goal.returns-clause-lines
returns-clause-lines c = lines_rise 1

pub returns-clause-bad_is_last : goal.returns-clause-bad_is_last
returns-clause-bad_is_last c = λ bytes front behind line are. bad_stands_last 1 bytes front behind line _ refl are
