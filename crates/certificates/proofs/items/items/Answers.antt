use Rattle.std.proofs.Common.{arith}
use Rattle.std.proofs.lemmas.Bool.{false≢true}
use Rattle.certificates.specs.Lines.{text_lines}
use Rattle.certificates.proofs.ItemLines.{items_none, items_more, items_end, items_stop, items_all}
use Rattle.certificates.proofs.items.items.Goals as goal

pub loop-line-init : goal.loop-line-init
loop-line-init c = record {
  so_far = rw c.new-items.ensures.items (items_none c.args.version c.args.first (text_lines c.args.text.now));
  fits = omega arith;
}

pub loop-line-preserved : goal.loop-line-preserved
loop-line-preserved c =
    let is = rw c.in-Some-2.is at c.in_ok-item.ensures.found in
    record {
      so_far = rw c.in_ok-push.ensures (items_more c.args.version c.args.first c.loop-line.number (text_lines c.args.text.now) (text_lines c.loop-line.rest.now) (text_lines c.in-Some.others.now) c.loop-line.items.items c.in-Some.line.now c.in-Some-2.item c.loop-line.invariant.so_far c.in-Some.ensures.found is);
      fits = omega (arith, c.in-Some.ensures.shorter);
    }

pub returns-then-is_qed-clause-read : goal.returns-then-is_qed-clause-read
returns-then-is_qed-clause-read c =
    items_end c.args.version c.args.first c.loop-line.number (text_lines c.args.text.now) (text_lines c.loop-line.rest.now) (text_lines c.in-Some.others.now) c.loop-line.items.items c.in-Some.line.now c.loop-line.invariant.so_far c.in-Some.ensures.found (c.is_qed.ensures.0 c.if-is_qed.true)

pub returns-in_default-2-clause-refused : goal.returns-in_default-2-clause-refused
returns-in_default-2-clause-refused c =
    let none = rw c.in_default-2.is at c.in_ok-item.ensures.none in
    items_stop c.args.version c.args.first c.loop-line.number (text_lines c.args.text.now) (text_lines c.loop-line.rest.now) (text_lines c.in-Some.others.now) c.loop-line.items.items c.in-Some.line.now c.loop-line.invariant.so_far c.in-Some.ensures.found none
    (λ qed. absurd (false≢true (rw c.if-is_qed.false at (c.is_qed.ensures.1 qed))))

pub returns-clause-refused : goal.returns-clause-refused
returns-clause-refused c =
    items_all c.args.version c.args.first c.loop-line.number (text_lines c.args.text.now) (text_lines c.loop-line.rest.now) c.loop-line.items.items c.loop-line.invariant.so_far c.in_default.ensures.none
