use Rattle.solver_run.specs.Lists.{IsNoList}
use Rattle.solver_run.proofs.Comparisons.{compared_ends, first_unread_ends, second_unread_ends}
use Rattle.solver_run.proofs.Readings.{list_moves, no_list_moves, unread_weaker}
use Rattle.solver_run.proofs.lists.compare.Goals as goal

pub returns-in-Err : goal.returns-in-Err
returns-in-Err g c log =
    first_unread_ends (g.F.Files.holds c.args.files.now) c.args.asked c.args.first.now c.args.second.now _ _ c.end_unread.result log _ _ c.in-Err.why c.in-Err.ensures.unread c.end_unread.ensures

pub returns-in-Err-read_list : goal.returns-in-Err-read_list
returns-in-Err-read_list g c log =
    let first = c.args.first.now in
    let second = c.args.second.now in
    let told = g.F.Files.holds c.args.files.now in
    let told' = g.F.Files.holds c.read_list.new.files in
    second_unread_ends told c.args.asked first second _ _ c.end_unread-in-Err-read_list.result log c.in-Ok.list.entries c.in-Ok.ensures.holds _ _ _ c.in-Ok.ensures.read c.in-Err-read_list.why
    (unread_weaker (IsNoList told' second) (IsNoList told second) second _ _ (no_list_moves told told' second (c.in-Ok.ensures.same second)) c.in-Err-read_list.why c.in-Err-read_list.ensures.unread)
    c.end_unread-in-Err-read_list.ensures

pub returns : goal.returns
returns g c log =
    let first = c.args.first.now in
    let second = c.args.second.now in
    let told = g.F.Files.holds c.args.files.now in
    let told' = g.F.Files.holds c.read_list.new.files in
    let ends = rw (c.entries.ensures.entries, c.entries-2.ensures.entries) at c.answer.ensures in
    compared_ends told c.args.asked first second _ _ c.answer.result log c.in-Ok.list.entries c.in-Ok.ensures.holds _ _ _ c.in-Ok.ensures.read c.in-Ok-read_list.list.entries
    (list_moves told told' second (c.in-Ok.ensures.same second) c.in-Ok-read_list.list.entries c.in-Ok-read_list.ensures.holds) c.in-Ok-read_list.ensures.read ends
