use Rattle.std.proofs.Common.{◌∷◌, ◌++◌, [], refl, map, arith}
use Rattle.ios_lex.specs.LineReadings.{reading_of}
use Rattle.ios_lex.proofs.BannerLines.{passes_more, nowhere_more}
use Rattle.ios_lex.proofs.line.add_body.Goals as goal

pub returns-then-occurs-clause-ends : goal.returns-then-occurs-clause-ends
returns-then-occurs-clause-ends c =
    let so_far = c.loop-line.invariant.passed in
    let more = passes_more c.args.text.now c.loop-line.rest.now c.in-Some.others.now c.in-Some.line.now c.args.first c.loop-line.number (map reading_of c.args.lines.now.items) (map reading_of c.loop-line.lines.items) (map reading_of c.add_line.new.lines.items) so_far.0 so_far.1 c.in-Some.ensures.found c.in_ok-add_line.ensures in
    (so_far.0 ++ c.in-Some.line.now ∷ [], more.whole, record { front = so_far.0; last = c.in-Some.line.now; whole = refl; before = so_far.2; occurs = c.occurs.ensures.found c.if-occurs.true }, more.place, more.added)

pub loop-line-preserved : goal.loop-line-preserved
loop-line-preserved c =
    let so_far = c.loop-line.invariant.passed in
    let more = passes_more c.args.text.now c.loop-line.rest.now c.in-Some.others.now c.in-Some.line.now c.args.first c.loop-line.number (map reading_of c.args.lines.now.items) (map reading_of c.loop-line.lines.items) (map reading_of c.add_line.new.lines.items) so_far.0 so_far.1 c.in-Some.ensures.found c.in_ok-add_line.ensures in
    record {
      passed = (so_far.0 ++ c.in-Some.line.now ∷ [], more, nowhere_more c.args.delimiter.now c.in-Some.line.now so_far.0 so_far.2 (c.occurs.ensures.none c.if-occurs.false));
      fits = omega (arith, c.in-Some.ensures.shorter);
      shorter = omega (arith, c.in-Some.ensures.shorter);
    }
