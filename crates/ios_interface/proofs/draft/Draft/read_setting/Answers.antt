use Rattle.ios_interface.specs.declared.kind.Kind.TheVariants as kinds
use Rattle.ios_interface.specs.Reading.{Makes}
use Rattle.ios_interface.proofs.LineFaults.{setting_stop, stop_fails}
use Rattle.ios_interface.proofs.draft.Draft.read_setting.Goals as goal

pub returns-in-Err-clause-refused : goal.returns-in-Err-clause-refused
returns-in-Err-clause-refused c =
    rw c.in_ok-why.ensures
    (stop_fails (kinds.Setting c.args.setting) c.args.rest.now c.in-Err.stop (setting_stop c.args.setting c.args.rest.now c.in-Err.stop c.in-Err.ensures.stop))

pub returns-clause-read : goal.returns-clause-read
returns-clause-read c = Makes.setting c.args.setting c.in_default.ensures.read c.set.ensures
