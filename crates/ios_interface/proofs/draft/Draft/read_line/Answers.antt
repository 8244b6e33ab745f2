use Rattle.std.proofs.Common.{rules}
use Rattle.ios_lex.specs.Refusal.{texts}
use Rattle.ios_interface.specs.declared.kind.Kind.TheVariants as kinds
use Rattle.ios_interface.specs.Faults.{IsFault}
use Rattle.ios_interface.specs.Reading.{unmodelled}
use Rattle.ios_interface.proofs.LineFaults.{rest_fault}
use Rattle.ios_interface.proofs.draft.Draft.read_line.Goals as goal

pub returns-in-Some-clause-refused : goal.returns-in-Some-clause-refused
returns-in-Some-clause-refused c = rw c.in_ok-unmodelled_words.ensures (unmodelled (texts c.in-Some.opening.now) c.in-Some.ensures.found)

pub returns-in_err-read_address-in-Address-clause-refused : goal.returns-in_err-read_address-in-Address-clause-refused
returns-in_err-read_address-in-Address-clause-refused c =
    let fault : IsFault c.args.words.now c.in_err-read_address-in-Address.field-0.0 =
    rest_fault kinds.Address c.args.words.now c.in-Some-opening.rest.now c.in_err-read_address-in-Address.field-0.0 c.in_default.ensures.none
    (rw c.in-Address.is at c.in-Some-opening.ensures.found) c.in_err-read_address-in-Address.ensures.refused in
    search rules

pub returns-in_err-read_group-in-AccessGroup-clause-refused : goal.returns-in_err-read_group-in-AccessGroup-clause-refused
returns-in_err-read_group-in-AccessGroup-clause-refused c =
    let fault : IsFault c.args.words.now c.in_err-read_group-in-AccessGroup.field-0.0 =
    rest_fault kinds.AccessGroup c.args.words.now c.in-Some-opening.rest.now c.in_err-read_group-in-AccessGroup.field-0.0 c.in_default.ensures.none
    (rw c.in-AccessGroup.is at c.in-Some-opening.ensures.found) c.in_err-read_group-in-AccessGroup.ensures.refused in
    search rules

pub returns-in_err-read_setting-in-Setting-clause-refused : goal.returns-in_err-read_setting-in-Setting-clause-refused
returns-in_err-read_setting-in-Setting-clause-refused c =
    let fault : IsFault c.args.words.now c.in_err-read_setting-in-Setting.field-0.0 =
    rest_fault (kinds.Setting c.in-Setting.setting) c.args.words.now c.in-Some-opening.rest.now c.in_err-read_setting-in-Setting.field-0.0 c.in_default.ensures.none
    (rw c.in-Setting.is at c.in-Some-opening.ensures.found) c.in_err-read_setting-in-Setting.ensures.refused in
    search rules
