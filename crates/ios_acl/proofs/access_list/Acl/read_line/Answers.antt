use Rattle.std.proofs.Common.{false, refl}
use Rattle.std.proofs.lemmas.Bool.{false≢true}
use Rattle.std.proofs.lemmas.Result.{on_ok_weaker, IfErr-weaker}
use Rattle.ios_acl.specs.Adding.{CannotAdd}
use Rattle.ios_acl.specs.Faults.{IsFault}
use Rattle.ios_acl.specs.Reading.{remark, taken}
use Rattle.ios_acl.proofs.LineReadings.{sentence_entry, sentence_remark, number_is_free, stop_refused, added_reads, not_added_refused}
use Rattle.ios_acl.proofs.access_list.Acl.read_line.Goals as goal

pub returns-then-is_taken-clause-refused : goal.returns-then-is_taken-clause-refused
returns-then-is_taken-clause-refused c =
    rw (← c.self.view_is)
    (taken c.opened-number.result.0 c.opened-number.result.1.now c.opened-number.ensures.opened (rw c.as_slice.ensures.value at (c.if-is_taken.ensures.0 refl)))

pub returns-in-Err-clause-refused : goal.returns-in-Err-clause-refused
returns-in-Err-clause-refused c =
    rw (← c.self.view_is, c.in_ok-why-in-Err.ensures)
    (stop_refused _ c.args.words.now c.opened-number.result.0 c.opened-number.result.1.now c.in-Err.stop c.opened-number.ensures.opened
    (λ given. false≢true (c.if-is_taken.ensures.1 (rw c.as_slice.ensures.value given))) c.in-Err.ensures.stop)

pub add-requires-clause-spelled : goal.add-requires-clause-spelled
add-requires-clause-spelled c =
    rw (← c.self.view_is)
    (c.opened-number.result.1.now, sentence_entry c.self.inside.extended false c.opened-number.result.1.now c.in-Some.entry (rw c.in-Some.is at c.in-Ok.ensures.read))

pub add-requires-clause-free : goal.add-requires-clause-free
add-requires-clause-free c =
    rw (← c.self.view_is)
    (number_is_free c.self.inside.extended c.self.inside.entries.items c.opened-number.result.0 c.opened-number.result.1.now c.in-Some.entry
    (λ given. false≢true (c.if-is_taken.ensures.1 (rw c.as_slice.ensures.value given)))
    (rw c.in-Some.is at c.in-Ok.ensures.read))

pub returns-in-Some-clause-read : goal.returns-in-Some-clause-read
returns-in-Some-clause-read c =
    on_ok_weaker c.add.result
    (added_reads c.args.self.now c.add.new.self c.args.words.now c.opened-number.result.0 c.opened-number.result.1.now c.in-Some.entry c.opened-number.ensures.opened
    (rw (← c.self.view_is) (rw c.in-Some.is at c.in-Ok.ensures.read)))
    c.add.ensures.added

pub returns-in-Some-clause-refused : goal.returns-in-Some-clause-refused
returns-in-Some-clause-refused c =
    IfErr-weaker c.add.result (CannotAdd c.args.self.now c.opened-number.result.0) (IsFault c.args.self.now c.args.words.now)
    (λ fault. not_added_refused c.args.self.now c.args.words.now c.opened-number.result.0 c.opened-number.result.1.now c.in-Some.entry fault c.opened-number.ensures.opened
    (rw (← c.self.view_is) (rw c.in-Some.is at c.in-Ok.ensures.read)))
    c.add.ensures.refused

pub returns-in-None-clause-read : goal.returns-in-None-clause-read
returns-in-None-clause-read c =
    rw (← c.self.view_is)
    (remark c.opened-number.result.0 c.opened-number.result.1.now c.opened-number.ensures.opened
    (sentence_remark c.self.inside.extended false c.opened-number.result.1.now (rw c.in-None.is at c.in-Ok.ensures.read)) refl)
