use Rattle.query_tokens.proofs.WrittenLines.{lines_are, read_are_writable}
use Rattle.query_tokens.proofs.writing.lines_are_read_back.Goals as goal

pub returns-clause-written : goal.returns-clause-written
returns-clause-written c = lines_are 1

pub returns-clause-read : goal.returns-clause-read
returns-clause-read c = read_are_writable 1
