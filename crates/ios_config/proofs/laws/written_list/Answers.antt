use Rattle.ios_config.proofs.OneBlock.{block_is_read, written_is_read}
use Rattle.ios_config.proofs.laws.written_list.Goals as goal

pub returns-clause-written : goal.returns-clause-written
returns-clause-written c = written_is_read

pub returns-clause-block : goal.returns-clause-block
returns-clause-block c = block_is_read
