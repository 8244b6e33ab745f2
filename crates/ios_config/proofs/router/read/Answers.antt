use Rattle.std.proofs.Common.{◌≡◌, map}
use Rattle.std.proofs.lemmas.Result.{IfErr-weaker, IfOk-weaker, err_from_is_err_and}
use Rattle.ios_lex.specs.LineReadings.{reading_of}
use Rattle.ios_config.specs.Reading.{AreTaken, Reads, TakesAll}
use Rattle.ios_config.specs.Router.{no_lines}
use Rattle.ios_config.specs.Taking.{IsMade, IsWholeFault}
use Rattle.ios_config.proofs.KnownNames.{known_of}
use Rattle.ios_config.proofs.Refusals.{finish_fault, made_reads, whole_fault}
use Rattle.ios_config.proofs.router.read.Goals as goal

pub returns-in_err-draft_of-in-Ok-clause-refused : goal.returns-in_err-draft_of-in-Ok-clause-refused
returns-in_err-draft_of-in-Ok-clause-refused c =
    let p = err_from_is_err_and c.from_residual.result c.from_residual.ensures.1 in
    rw (p.1, p.2)
    (whole_fault c.args.known.now c.args.bytes.now (map reading_of c.in-Ok.lines.items) c.in_err-draft_of-in-Ok.field-0.0 c.in-Ok.ensures.read (rw c.as_slice.ensures.value at c.in_err-draft_of-in-Ok.ensures.refused))

pub returns-in_ok-draft_of-in-Ok-clause-read : goal.returns-in_ok-draft_of-in-Ok-clause-read
returns-in_ok-draft_of-in-Ok-clause-read c =
    let draft = c.in_ok-draft_of-in-Ok.field-0 in
    let lines : TakesAll (no_lines c.args.known.now) (map reading_of c.in-Ok.lines.items) draft = rw c.as_slice.ensures.value at c.in_ok-draft_of-in-Ok.ensures.read in
    let taken : AreTaken c.args.known.now c.args.bytes.now draft = record { readings = map reading_of c.in-Ok.lines.items; are_lines = c.in-Ok.ensures.read; taken = lines } in
    IfOk-weaker c.finish.result (IsMade draft) (Reads c.args.known.now c.args.bytes.now) (λ router. made_reads c.args.known.now c.args.bytes.now draft router taken) c.finish.ensures.made

pub returns-in_ok-draft_of-in-Ok-clause-refused : goal.returns-in_ok-draft_of-in-Ok-clause-refused
returns-in_ok-draft_of-in-Ok-clause-refused c =
    let draft = c.in_ok-draft_of-in-Ok.field-0 in
    let lines : TakesAll (no_lines c.args.known.now) (map reading_of c.in-Ok.lines.items) draft = rw c.as_slice.ensures.value at c.in_ok-draft_of-in-Ok.ensures.read in
    let taken : AreTaken c.args.known.now c.args.bytes.now draft = record { readings = map reading_of c.in-Ok.lines.items; are_lines = c.in-Ok.ensures.read; taken = lines } in
    IfErr-weaker c.finish.result (IsWholeFault draft) _ (λ fault. finish_fault c.args.known.now c.args.bytes.now draft fault taken) c.finish.ensures.refused

pub returns-in_ok-draft_of-in-Ok-clause-few : goal.returns-in_ok-draft_of-in-Ok-clause-few
returns-in_ok-draft_of-in-Ok-clause-few c =
    let known : c.in_ok-draft_of-in-Ok.field-0.interfaces.known ≡ c.args.known.now = known_of c.in_ok-draft_of-in-Ok.ensures.read in
    rw known at c.finish.ensures.few

pub returns-in_ok-draft_of-in-Ok-clause-numbers : goal.returns-in_ok-draft_of-in-Ok-clause-numbers
returns-in_ok-draft_of-in-Ok-clause-numbers c =
    let known : c.in_ok-draft_of-in-Ok.field-0.interfaces.known ≡ c.args.known.now = known_of c.in_ok-draft_of-in-Ok.ensures.read in
    rw known at c.finish.ensures.numbers
