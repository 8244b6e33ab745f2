use Rattle.std.proofs.Common.{◌∷◌, map, arith}
use Rattle.ios_lex.specs.RawLines.{raw_lines}
use Rattle.ios_lex.specs.LineReadings.{reading_of}
use Rattle.ios_lex.proofs.Parts.{so_far_more, so_far_end, so_far_open}
use Rattle.ios_lex.proofs.line.lines.Goals as goal

pub returns-in_default-2-clause-unclosed : goal.returns-in_default-2-clause-unclosed
returns-in_default-2-clause-unclosed c =
    let unended = rw c.in_default-2.is at c.in_ok-next.ensures.open_ended in
    so_far_open c.args.bytes.now c.loop-line.rest.now c.in-Some.line.now (raw_lines c.in-Some.others.now) c.loop-line.number (map reading_of c.loop-line.lines.items) c.loop-line.invariant.so_far c.in-Some.ensures.found unended

pub loop-line-preserved : goal.loop-line-preserved
loop-line-preserved c =
    let is_part = rw c.in-Some-2.is at c.in_ok-next.ensures.part in
    let shorter = rw c.in-Some-2.is at c.in_ok-next.ensures.shorter in
    record {
      so_far = so_far_more c.args.bytes.now c.loop-line.rest.now c.in-Some-2.left.now (c.in-Some.line.now ∷ raw_lines c.in-Some.others.now) c.loop-line.number c.in-Some-2.next (map reading_of c.loop-line.lines.items) is_part.0 (map reading_of c.add_part.new.lines.items) c.loop-line.invariant.so_far c.in-Some.ensures.found is_part.1 is_part.2;
      fits = omega (arith, shorter, c.in-Some.ensures.shorter);
    }

pub returns-clause-read : goal.returns-clause-read
returns-clause-read c =
    so_far_end c.args.bytes.now c.loop-line.rest.now c.loop-line.number (map reading_of c.loop-line.lines.items) c.loop-line.invariant.so_far c.in_default.ensures.none
