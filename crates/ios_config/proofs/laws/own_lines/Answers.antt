use Rattle.ios_config.proofs.Counted.{ignored_are_counted}
use Rattle.ios_config.proofs.OwnEntries.{lists_are_own}
use Rattle.ios_config.proofs.OwnSettings.{interfaces_are_own}
use Rattle.ios_config.proofs.laws.own_lines.Goals as goal

pub returns-clause-lists : goal.returns-clause-lists
returns-clause-lists c = lists_are_own

pub returns-clause-interfaces : goal.returns-clause-interfaces
returns-clause-interfaces c = interfaces_are_own

pub returns-clause-ignored : goal.returns-clause-ignored
returns-clause-ignored c = ignored_are_counted
