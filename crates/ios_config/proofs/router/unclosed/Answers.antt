use Rattle.std.proofs.Common.{◌≡◌, ◌∷◌, map, arith}
use Rattle.ios_lex.specs.LineReadings.{reading_of}
use Rattle.ios_lex.specs.RawLines.{raw_lines}
use Rattle.ios_config.proofs.OpenBanners.{OpensAt, opens_at}
use Rattle.ios_config.proofs.Refusals.{banner_fault, front_fault}
use Rattle.ios_config.proofs.router.unclosed.Goals as goal

pub returns-in-Ok-draft_of : goal.returns-in-Ok-draft_of
returns-in-Ok-draft_of c =
    let at : OpensAt 1 (raw_lines c.args.bytes.now) c.args.line = opens_at c.requires in
    let front : raw_lines c.bytes_before_line.result.now ≡ at.front = c.bytes_before_line.ensures at.front (at.line ∷ at.back) at.whole at.long (omega arith) in
    banner_fault c.args.known.now c.args.bytes.now c.args.line (map reading_of c.in-Ok.before.items) c.in-Ok-draft_of.field-0 at (rw front at c.in-Ok.ensures.read)
    (rw c.as_slice.ensures.value at c.in-Ok-draft_of.ensures.read)

pub returns : goal.returns
returns c =
    let at : OpensAt 1 (raw_lines c.args.bytes.now) c.args.line = opens_at c.requires in
    let front : raw_lines c.bytes_before_line.result.now ≡ at.front = c.bytes_before_line.ensures at.front (at.line ∷ at.back) at.whole at.long (omega arith) in
    front_fault c.args.known.now c.args.bytes.now at.front (at.line ∷ at.back) (map reading_of c.in-Ok.before.items) c.in-Err.fault at.whole (rw front at c.in-Ok.ensures.read)
    (rw c.as_slice.ensures.value at c.in-Err.ensures.refused)
