use Rattle.ios_lex.proofs.MaskForms.{mask_stop, no_mask_stop}
use Rattle.ios_lex.proofs.next.next_mask.Goals as goal

pub returns-in_default-clause-stop : goal.returns-in_default-clause-stop
returns-in_default-clause-stop c = mask_stop c.args.words.now c.stop_before.result c.stop_before.ensures.left c.stop_before.ensures.due c.in_default.ensures.none

pub returns-in_default-prefix_len-clause-stop : goal.returns-in_default-prefix_len-clause-stop
returns-in_default-prefix_len-clause-stop c =
    no_mask_stop c.in-Some.mask c.args.words.now c.in-Some.rest.now c.stop_before-in_default-prefix_len.result c.in-Some.ensures.found c.in_default-prefix_len.ensures.none
    c.stop_before-in_default-prefix_len.ensures.left c.stop_before-in_default-prefix_len.ensures.due
