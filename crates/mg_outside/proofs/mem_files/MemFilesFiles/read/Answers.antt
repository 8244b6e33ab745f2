use Rattle.std.proofs.Common.{◌≡◌, true, sym, ◌∙◌, arith, rules}
use Rattle.std.proofs.lemmas.Bool.{false≢true}
use Rattle.mg_outside.specs.Memory.{read_is_to_fail}
use Rattle.mg_outside.proofs.Failures.{failures_more, is_not_to_fail}
use Rattle.mg_outside.proofs.mem_files.MemFilesFiles.read.Goals as goal
use Rattle.mg_outside.proofs.mem_files.MemFilesFiles.read.Goals.{in_default-via-in-Some+else-not-told_to, in_default-via-in_default}

pub returns-in-Some-clause-fails : goal.returns-in-Some-clause-fails
returns-in-Some-clause-fails c fails =
    absurd (is_not_to_fail c.args.self.now c.args.name.now c.in-Some.entry.now.1 (search rules) (search rules) fails)

pub returns-in_default-clause-failed : goal.returns-in_default-clause-failed
returns-in_default-clause-failed c failed =
    let noted = c.note_failure.ensures.noted (cc) in
    elim c.in_default.branch [
      | in_default-via-in-Some+else-not-told_to w ↦ rw (noted, w.self-inside-is, failures_more, ← c.self.view_is) (omega arith)
      | in_default-via-in_default w ↦ rw (noted, w.self-inside-is, failures_more, ← c.self.view_is) (omega arith)
    ]

pub returns-in_default-clause-long : goal.returns-in_default-clause-long
returns-in_default-clause-long c calm =
    let fails : read_is_to_fail c.args.self.now c.args.name.now ≡ true =
    elim c.in_default.branch [
      | in_default-via-in-Some+else-not-told_to w ↦ search rules
      | in_default-via-in_default w ↦ search rules
    ] in
    absurd (false≢true (sym calm ∙ fails))
