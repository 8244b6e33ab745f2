use Rattle.std.proofs.Common.{arith}
use Rattle.certificates.specs.Lines.{text_lines}
use Rattle.certificates.proofs.Heads.{skipped_none, skipped_more, skipped_head, skipped_all}
use Rattle.certificates.proofs.head.find_head.Goals as goal

pub loop-line-init : goal.loop-line-init
loop-line-init c = record { so_far = skipped_none (text_lines c.args.bytes.now); fits = omega arith }

pub loop-line-preserved : goal.loop-line-preserved
loop-line-preserved c = record {
  so_far = skipped_more (text_lines c.args.bytes.now) (text_lines c.loop-line.rest.now) (text_lines c.in-Some.others.now) c.in-Some.line.now c.loop-line.number c.loop-line.invariant.so_far c.in-Some.ensures.found c.in_default-behind_head_word.ensures.none;
  fits = omega (arith, c.in-Some.ensures.shorter);
}

pub returns-in-Some-behind_head_word-clause-places : goal.returns-in-Some-behind_head_word-clause-places
returns-in-Some-behind_head_word-clause-places c =
    skipped_head (text_lines c.args.bytes.now) (text_lines c.loop-line.rest.now) (text_lines c.in-Some.others.now) c.in-Some.line.now c.in-Some-behind_head_word.words.now c.loop-line.number c.loop-line.invariant.so_far c.in-Some.ensures.found c.in-Some-behind_head_word.ensures.found

pub returns-clause-places : goal.returns-clause-places
returns-clause-places c =
    skipped_all (text_lines c.args.bytes.now) (text_lines c.loop-line.rest.now) c.loop-line.number c.loop-line.invariant.so_far c.in_default.ensures.none
