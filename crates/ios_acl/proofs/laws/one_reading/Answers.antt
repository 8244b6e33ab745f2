use Rattle.ios_acl.proofs.OneReading.{no_refused_reading, lists_are_one, reasons_are_one}
use Rattle.ios_acl.proofs.SomeReading.{some_reading}
use Rattle.ios_acl.proofs.laws.one_reading.Goals as goal

pub returns-clause-not_both : goal.returns-clause-not_both
returns-clause-not_both c = no_refused_reading

pub returns-clause-not_neither : goal.returns-clause-not_neither
returns-clause-not_neither c = some_reading

pub returns-clause-same_list : goal.returns-clause-same_list
returns-clause-same_list c = lists_are_one

pub returns-clause-same_reason : goal.returns-clause-same_reason
returns-clause-same_reason c = reasons_are_one
