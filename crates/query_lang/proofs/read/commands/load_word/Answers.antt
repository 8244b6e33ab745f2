use Rattle.std.proofs.Common.{rules}
use Rattle.query_lang.proofs.Commands.{ios_read, ios_stops0, iptables_read, iptables_stops0}
use Rattle.query_lang.proofs.read.commands.load_word.Goals as goal

pub returns-in_err-file-in-Ios-clause-refused : goal.returns-in_err-file-in-Ios-clause-refused
returns-in_err-file-in-Ios-clause-refused c = search (rules, ios_stops0 _ _ _ _ (rw c.in-Ios.is at c.requires.starts) c.in_err-file-in-Ios.ensures.refused)

pub returns-in_err-file-in-Iptables-clause-refused : goal.returns-in_err-file-in-Iptables-clause-refused
returns-in_err-file-in-Iptables-clause-refused c = search (rules, iptables_stops0 _ _ _ _ (rw c.in-Iptables.is at c.requires.starts) c.in_err-file-in-Iptables.ensures.refused)

pub returns-in_ok-file-in-Ios-clause-read : goal.returns-in_ok-file-in-Ios-clause-read
returns-in_ok-file-in-Ios-clause-read c = ios_read (c.in_ok-file-in-Ios.file, c.in_ok-file-in-Ios.name) _ _ _ (rw c.in-Ios.is at c.requires.starts) c.in_ok-file-in-Ios.ensures.read

pub returns-in_ok-file-in-Iptables-clause-read : goal.returns-in_ok-file-in-Iptables-clause-read
returns-in_ok-file-in-Iptables-clause-read c = iptables_read (c.in_ok-file-in-Iptables.file, c.in_ok-file-in-Iptables.name) _ _ _ (rw c.in-Iptables.is at c.requires.starts) c.in_ok-file-in-Iptables.ensures.read
