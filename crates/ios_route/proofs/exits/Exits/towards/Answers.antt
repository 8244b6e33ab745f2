use Rattle.std.proofs.Common.{◌∙◌, ◌-◌, sym}
use Rattle.ios_route.proofs.ExitTables.{none_mapped}
use Rattle.ios_route.proofs.TowardsHops.{around, exit_found, no_exit_found, search_more}
use Rattle.ios_route.proofs.exits.Exits.towards.Goals as goal

pub returns-in-Some : goal.returns-in-Some
returns-in-Some c = λ interfaces exits lengths.
    let value = rw (c.in-Some.is, c.first_bits.ensures) at c.get.ensures.value in
    exit_found interfaces c.args.hop c.loop-zeros.zeros c.in-Some.exit.now lengths (c.loop-zeros.invariant interfaces exits)
    (sym (exits.networks (around c.args.hop (32 - c.loop-zeros.zeros))) ∙ sym value)

pub loop-zeros-preserved : goal.loop-zeros-preserved
loop-zeros-preserved c = λ interfaces exits.
    let value = rw (c.in_default.is, c.first_bits.ensures) at c.get.ensures.value in
    search_more c.args.hop c.loop-zeros.zeros _ (c.loop-zeros.invariant interfaces exits)
    (none_mapped _ _ (sym (exits.networks (around c.args.hop (32 - c.loop-zeros.zeros))) ∙ sym value))

pub returns : goal.returns
returns c = λ interfaces exits lengths.
    no_exit_found interfaces c.args.hop c.loop-zeros.zeros lengths (c.loop-zeros.invariant interfaces exits) c.loop-zeros-test.false
