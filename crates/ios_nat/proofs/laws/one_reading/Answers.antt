use Rattle.ios_nat.proofs.OneReading.{no_refused_reading, reasons_are_one, tables_are_one}
use Rattle.ios_nat.proofs.SomeReading.{some_reading}
use Rattle.ios_nat.proofs.laws.one_reading.Goals as goal

pub returns-clause-not_both : goal.returns-clause-not_both
returns-clause-not_both c = no_refused_reading

pub returns-clause-not_neither : goal.returns-clause-not_neither
returns-clause-not_neither c = some_reading

pub returns-clause-same_table : goal.returns-clause-same_table
returns-clause-same_table c = tables_are_one

pub returns-clause-same_reason : goal.returns-clause-same_reason
returns-clause-same_reason c = reasons_are_one
