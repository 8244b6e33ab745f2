use Rattle.ios_interface.proofs.OneHeading.{heading_reason_is_one, opened_is_one, opened_not_refused, place_is_one, some_opened}
use Rattle.ios_interface.proofs.laws.one_heading.Goals as goal

pub returns-clause-not_opened_and_refused : goal.returns-clause-not_opened_and_refused
returns-clause-not_opened_and_refused c = opened_not_refused

pub returns-clause-not_none : goal.returns-clause-not_none
returns-clause-not_none c = some_opened

pub returns-clause-same_blocks : goal.returns-clause-same_blocks
returns-clause-same_blocks c = opened_is_one

pub returns-clause-same_place : goal.returns-clause-same_place
returns-clause-same_place c = place_is_one

pub returns-clause-same_reason : goal.returns-clause-same_reason
returns-clause-same_reason c = heading_reason_is_one
