use Rattle.std.proofs.Common.{◌≡◌, ◌+◌, ◌≤◌, ◌++◌, length, take, length-append, arith, rules}
use Rattle.mg_outside.proofs.Counts.{Counted-then}
use Rattle.mg_outside.proofs.Takings.{Consumes-then}
use Rattle.mg_outside.proofs.disk_files.read_to_end.Goals as goal

pub loop-piece-preserved : goal.loop-piece-preserved
loop-piece-preserved g c =
    let before = c.loop-piece.invariant in
    let count = c.in-Ok.count in
    let piece = take count c.read_some.new.piece in
    let grown : c.extend_from_slice.new.self.items ≡ c.loop-piece.bytes.items ++ piece = search rules in
    let more : length c.extend_from_slice.new.self.items ≡ length c.loop-piece.bytes.items + count =
    rw (grown, length-append, ← c.in-Ok.ensures.within.1) in
    let room : length c.loop-piece.piece ≡ 4096 = search rules in
    let within : count ≤ length c.read_some.new.piece = c.in-Ok.ensures.within.0 in
    let same : length c.read_some.new.piece ≡ length c.loop-piece.piece = c.read_some.auto.piece in
    record {
      given = rw grown (Consumes-then _ _ _ c.loop-piece.bytes.items piece before.given c.in-Ok.ensures.bytes.0);
      names = search rules;
      counted = rw more (Counted-then (length c.loop-piece.bytes.items) count _ _ _ before.counted c.in-Ok.ensures.given);
      one_piece = omega arith;
      calm = search rules;
      same = search rules;
    }
