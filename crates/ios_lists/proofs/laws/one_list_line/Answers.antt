use Rattle.ios_lists.proofs.OneEntry.{entry_not_both, entry_not_neither, entry_reason, entry_same}
use Rattle.ios_lists.proofs.OneHead.{head_not_both, head_reason, head_same}
use Rattle.ios_lists.proofs.OneNumbered.{numbered_not_both, numbered_reason, numbered_same}
use Rattle.ios_lists.proofs.SomeReading.{some_head, some_numbered}
use Rattle.ios_lists.proofs.laws.one_list_line.Goals as goal

pub returns-clause-numbered : goal.returns-clause-numbered
returns-clause-numbered c lists words = record {
  same_made = numbered_same lists words;
  same_reason = numbered_reason lists words;
  not_both = numbered_not_both lists words;
  not_neither = λ unread unrefused. some_numbered lists words (λ new answer reads. unread (new, answer) reads) unrefused;
}

pub returns-clause-head : goal.returns-clause-head
returns-clause-head c lists words differ = record {
  same_made = λ made other. head_same lists words made other differ;
  same_reason = head_reason lists words;
  not_both = head_not_both lists words;
  not_neither = λ unopened unrefused. some_head lists words (λ new place opens. unopened (new, place) opens) unrefused;
}

pub returns-clause-entry : goal.returns-clause-entry
returns-clause-entry c lists name extended words kind = record {
  same_made = entry_same lists name words;
  same_reason = entry_reason lists name words;
  not_both = entry_not_both lists name words;
  not_neither = entry_not_neither lists name extended words kind;
}
