use Rattle.std.proofs.Common.{rules}
use Rattle.ios_lex.specs.NextWords.{NoName}
use Rattle.ios_lex.specs.Stops.{IsStop}
use Rattle.ios_interface.specs.declared.kind.Kind.TheVariants as kinds
use Rattle.ios_interface.specs.Grammar.{Line}
use Rattle.ios_interface.proofs.AddressLines.{stop_behind_address, stop_behind_mask, stop_in_address, stop_in_mask}
use Rattle.ios_interface.proofs.address_line.address_line.Goals as goal

pub returns-in_err-address-clause-stop : goal.returns-in_err-address-clause-stop
returns-in_err-address-clause-stop c =
    let stop : IsStop NoName (Line kinds.Address) c.args.words.now c.in_err-address.field-0.0 =
    stop_in_address c.args.words.now c.in_err-address.field-0.0 c.in_err-address.ensures.part c.in_err-address.ensures.stop in
    search rules

pub returns-in_err-len-clause-stop : goal.returns-in_err-len-clause-stop
returns-in_err-len-clause-stop c =
    let stop : IsStop NoName (Line kinds.Address) c.args.words.now c.in_err-len.field-0.0 =
    stop_behind_address c.in_ok-address.address c.args.words.now c.in_ok-address.rest.now c.in_err-len.field-0.0 c.in_ok-address.ensures.read
    (stop_in_mask c.in_ok-address.rest.now c.in_err-len.field-0.0 c.in_err-len.ensures.part c.in_err-len.ensures.stop) in
    search rules

pub returns-in_err-secondary-clause-stop : goal.returns-in_err-secondary-clause-stop
returns-in_err-secondary-clause-stop c =
    let stop : IsStop NoName (Line kinds.Address) c.args.words.now c.in_err-secondary.field-0.0 =
    stop_behind_address c.in_ok-address.address c.args.words.now c.in_ok-address.rest.now c.in_err-secondary.field-0.0 c.in_ok-address.ensures.read
    (stop_behind_mask c.in_ok-len.len c.in_ok-address.rest.now c.in_ok-len.rest.now c.in_err-secondary.field-0.0 c.in_ok-len.ensures.read c.in_err-secondary.ensures.stop) in
    search rules
