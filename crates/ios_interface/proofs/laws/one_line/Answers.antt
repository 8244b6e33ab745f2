use Rattle.ios_interface.proofs.OneLine.{blocks_are_one, ignored_not_refused, reasons_are_one, some_line, taken_not_ignored, taken_not_refused}
use Rattle.ios_interface.proofs.laws.one_line.Goals as goal

pub returns-clause-not_taken_and_ignored : goal.returns-clause-not_taken_and_ignored
returns-clause-not_taken_and_ignored c = taken_not_ignored

pub returns-clause-not_taken_and_refused : goal.returns-clause-not_taken_and_refused
returns-clause-not_taken_and_refused c = taken_not_refused

pub returns-clause-not_ignored_and_refused : goal.returns-clause-not_ignored_and_refused
returns-clause-not_ignored_and_refused c = ignored_not_refused

pub returns-clause-not_none : goal.returns-clause-not_none
returns-clause-not_none c = some_line

pub returns-clause-same_block : goal.returns-clause-same_block
returns-clause-same_block c = blocks_are_one

pub returns-clause-same_reason : goal.returns-clause-same_reason
returns-clause-same_reason c = reasons_are_one
