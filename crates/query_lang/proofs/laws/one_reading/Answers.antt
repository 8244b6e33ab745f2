use Rattle.query_lang.proofs.OneReading.{same_script, same_line, same_reason, not_both, not_neither}
use Rattle.query_lang.proofs.laws.one_reading.Goals as goal

pub returns-clause-same_script : goal.returns-clause-same_script
returns-clause-same_script c = same_script c.one_list_of_tokens.ensures.same

pub returns-clause-same_line : goal.returns-clause-same_line
returns-clause-same_line c = same_line c.one_list_of_tokens.ensures.same

pub returns-clause-same_reason : goal.returns-clause-same_reason
returns-clause-same_reason c = same_reason c.one_list_of_tokens.ensures.same

pub returns-clause-not_both : goal.returns-clause-not_both
returns-clause-not_both c = not_both c.one_list_of_tokens.ensures.same

pub returns-clause-not_neither : goal.returns-clause-not_neither
returns-clause-not_neither c = not_neither c.one_list_of_tokens.ensures.same c.one_list_of_tokens.ensures.some
