use Rattle.std.proofs.Common.{◌≡◌, ◌<◌, ◌++◌, length, ap, ◌∙◌, arith}
use Rattle.std.proofs.lemmas.List.{take_all}
use Rattle.ios_acl.specs.Spelling.{opening_line, entry_lines}
use Rattle.ios_acl.proofs.BlockTexts.{lines_more}
use Rattle.ios_acl.proofs.WrittenBlocks.{whole_text, written_block}
use Rattle.ios_acl.proofs.written.write_acl.Goals as goal

pub loop-entry-preserved : goal.loop-entry-preserved
loop-entry-preserved c =
    let inside : c.loop-entry.entry-index < length c.entries-entry-items.result.now = omega arith in
    lines_more (opening_line c.args.acl.now.extended c.args.acl.now.name) c.loop-entry.text.items c.push_entry.new.text.items c.args.acl.now.extended c.entries-entry-items.result.now c.loop-entry.entry-index _
    inside c.loop-entry.invariant (rw c.is_extended-extended.ensures at c.in_ok-push_entry.ensures)

pub returns : goal.returns
returns c =
    let text : c.loop-entry.text.items ≡ opening_line c.args.acl.now.extended c.args.acl.now.name ++ entry_lines c.args.acl.now.extended c.args.acl.now.entries =
    c.loop-entry.invariant ∙ ap (λ es. opening_line c.args.acl.now.extended c.args.acl.now.name ++ entry_lines c.args.acl.now.extended es)
    (take_all c.loop-entry.entry-index c.entries-entry-items.result.now (omega arith) ∙ c.entries-entry-items.ensures.entries) in
    let written = whole_text c.args.acl.now c.loop-entry.text.items text in
    record { block = rw written (written_block c.args.acl.now c.entries-entry-items.ensures.whole c.requires.name); text = written }
