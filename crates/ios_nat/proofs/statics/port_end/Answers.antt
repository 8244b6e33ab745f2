use Rattle.std.proofs.Common.{[], ◌∷◌, codes, true, false, rules}
use Rattle.ios_lex.specs.NextWords.{NoName, SomeAddress}
use Rattle.ios_lex.specs.Stops.{BeginsWith, IsStop}
use Rattle.ios_nat.specs.Parts.{Options, SomeGlobalPort, SomeGlobalSide, SomeLocalPort, SomePort, SomePortEnd}
use Rattle.ios_lex.proofs.LineParts.{address_part, number_part, some_address, some_number, stop_behind_first, stop_in_first, then_read}
use Rattle.ios_nat.proofs.StaticLines.{some_global_port, some_global_side, some_local_port, some_options}
use Rattle.ios_nat.proofs.statics.port_end.Goals as goal

pub returns-in_err-local-clause-stop : goal.returns-in_err-local-clause-stop
returns-in_err-local-clause-stop c =
    let stop : IsStop NoName SomePortEnd c.args.words.now c.in_err-local.field-0.0 =
    stop_in_first SomeAddress SomeLocalPort c.args.words.now (codes "0" ∷ codes "0.0.0.0" ∷ codes "0" ∷ []) c.in_err-local.field-0.0 address_part some_local_port c.in_err-local.ensures.part c.in_err-local.ensures.stop in
    search rules

pub returns-in_err-local_port-clause-stop : goal.returns-in_err-local_port-clause-stop
returns-in_err-local_port-clause-stop c =
    let local : BeginsWith (SomeAddress false) c.args.words.now c.in_ok-local.rest.now = some_address c.in_ok-local.local c.args.words.now c.in_ok-local.rest.now c.in_ok-local.ensures.read in
    let stop : IsStop NoName SomePortEnd c.args.words.now c.in_err-local_port.field-0.0 =
    stop_behind_first SomeAddress SomeLocalPort c.args.words.now c.in_ok-local.rest.now c.in_err-local_port.field-0.0 address_part local
    (stop_in_first SomePort SomeGlobalSide c.in_ok-local.rest.now (codes "0.0.0.0" ∷ codes "0" ∷ []) c.in_err-local_port.field-0.0 (number_part 0 65535) some_global_side c.in_err-local_port.ensures.part c.in_err-local_port.ensures.stop) in
    search rules

pub returns-in_err-global-clause-stop : goal.returns-in_err-global-clause-stop
returns-in_err-global-clause-stop c =
    let local : BeginsWith (SomeAddress false) c.args.words.now c.in_ok-local.rest.now = some_address c.in_ok-local.local c.args.words.now c.in_ok-local.rest.now c.in_ok-local.ensures.read in
    let port : BeginsWith (SomePort false) c.in_ok-local.rest.now c.in_ok-local_port.rest.now = some_number 0 65535 c.in_ok-local_port.local_port c.in_ok-local.rest.now c.in_ok-local_port.rest.now c.in_ok-local_port.ensures.read in
    let stop : IsStop NoName SomePortEnd c.args.words.now c.in_err-global.field-0.0 =
    stop_behind_first SomeAddress SomeLocalPort c.args.words.now c.in_ok-local.rest.now c.in_err-global.field-0.0 address_part local
    (stop_behind_first SomePort SomeGlobalSide c.in_ok-local.rest.now c.in_ok-local_port.rest.now c.in_err-global.field-0.0 (number_part 0 65535) port
    (stop_in_first SomeAddress SomeGlobalPort c.in_ok-local_port.rest.now (codes "0" ∷ []) c.in_err-global.field-0.0 address_part some_global_port c.in_err-global.ensures.part c.in_err-global.ensures.stop)) in
    search rules

pub returns-in_err-global_port-clause-stop : goal.returns-in_err-global_port-clause-stop
returns-in_err-global_port-clause-stop c =
    let local : BeginsWith (SomeAddress false) c.args.words.now c.in_ok-local.rest.now = some_address c.in_ok-local.local c.args.words.now c.in_ok-local.rest.now c.in_ok-local.ensures.read in
    let port : BeginsWith (SomePort false) c.in_ok-local.rest.now c.in_ok-local_port.rest.now = some_number 0 65535 c.in_ok-local_port.local_port c.in_ok-local.rest.now c.in_ok-local_port.rest.now c.in_ok-local_port.ensures.read in
    let global : BeginsWith (SomeAddress false) c.in_ok-local_port.rest.now c.in_ok-global.rest.now = some_address c.in_ok-global.global c.in_ok-local_port.rest.now c.in_ok-global.rest.now c.in_ok-global.ensures.read in
    let stop : IsStop NoName SomePortEnd c.args.words.now c.in_err-global_port.field-0.0 =
    stop_behind_first SomeAddress SomeLocalPort c.args.words.now c.in_ok-local.rest.now c.in_err-global_port.field-0.0 address_part local
    (stop_behind_first SomePort SomeGlobalSide c.in_ok-local.rest.now c.in_ok-local_port.rest.now c.in_err-global_port.field-0.0 (number_part 0 65535) port
    (stop_behind_first SomeAddress SomeGlobalPort c.in_ok-local_port.rest.now c.in_ok-global.rest.now c.in_err-global_port.field-0.0 address_part global
    (stop_in_first SomePort (Options true true) c.in_ok-global.rest.now [] c.in_err-global_port.field-0.0 (number_part 0 65535) some_options c.in_err-global_port.ensures.part c.in_err-global_port.ensures.stop))) in
    search rules

pub returns-in_err-options-clause-stop : goal.returns-in_err-options-clause-stop
returns-in_err-options-clause-stop c =
    let local : BeginsWith (SomeAddress false) c.args.words.now c.in_ok-local.rest.now = some_address c.in_ok-local.local c.args.words.now c.in_ok-local.rest.now c.in_ok-local.ensures.read in
    let port : BeginsWith (SomePort false) c.in_ok-local.rest.now c.in_ok-local_port.rest.now = some_number 0 65535 c.in_ok-local_port.local_port c.in_ok-local.rest.now c.in_ok-local_port.rest.now c.in_ok-local_port.ensures.read in
    let global : BeginsWith (SomeAddress false) c.in_ok-local_port.rest.now c.in_ok-global.rest.now = some_address c.in_ok-global.global c.in_ok-local_port.rest.now c.in_ok-global.rest.now c.in_ok-global.ensures.read in
    let last : BeginsWith (SomePort false) c.in_ok-global.rest.now c.in_ok-global_port.rest.now = some_number 0 65535 c.in_ok-global_port.global_port c.in_ok-global.rest.now c.in_ok-global_port.rest.now c.in_ok-global_port.ensures.read in
    let stop : IsStop NoName SomePortEnd c.args.words.now c.in_err-options.field-0.0 =
    stop_behind_first SomeAddress SomeLocalPort c.args.words.now c.in_ok-local.rest.now c.in_err-options.field-0.0 address_part local
    (stop_behind_first SomePort SomeGlobalSide c.in_ok-local.rest.now c.in_ok-local_port.rest.now c.in_err-options.field-0.0 (number_part 0 65535) port
    (stop_behind_first SomeAddress SomeGlobalPort c.in_ok-local_port.rest.now c.in_ok-global.rest.now c.in_err-options.field-0.0 address_part global
    (stop_behind_first SomePort (Options true true) c.in_ok-global.rest.now c.in_ok-global_port.rest.now c.in_err-options.field-0.0 (number_part 0 65535) last c.in_err-options.ensures.stop))) in
    search rules

pub returns-clause-read : goal.returns-clause-read
returns-clause-read c =
    then_read c.args.words.now c.in_ok-local.rest.now c.in_ok-local.ensures.read
    (then_read c.in_ok-local.rest.now c.in_ok-local_port.rest.now c.in_ok-local_port.ensures.read
    (then_read c.in_ok-local_port.rest.now c.in_ok-global.rest.now c.in_ok-global.ensures.read
    (then_read c.in_ok-global.rest.now c.in_ok-global_port.rest.now c.in_ok-global_port.ensures.read c.in_ok-options.ensures.read)))
