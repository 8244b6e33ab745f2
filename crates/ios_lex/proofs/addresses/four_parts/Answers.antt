use Rattle.std.proofs.Common.{refl, rules}
use Rattle.ios_lex.specs.Cut.{IsCut}
use Rattle.ios_lex.proofs.AddressParts.{no_second_cut, no_third_cut}
use Rattle.ios_lex.proofs.addresses.four_parts.Goals as goal

pub returns-in_err-second-clause-none : goal.returns-in_err-second-clause-none
returns-in_err-second-clause-none c =
    let cut : IsCut 46 c.args.text.now c.in_ok-first.first.now c.in_ok-first.rest.now = search rules in
    rw c.from_residual-in_err-second.ensures (no_second_cut c.args.text.now _ _ cut c.in_err-second.ensures.free)

pub returns-in_err-third-clause-none : goal.returns-in_err-third-clause-none
returns-in_err-third-clause-none c =
    let cut : IsCut 46 c.args.text.now c.in_ok-first.first.now c.in_ok-first.rest.now = search rules in
    let cut' : IsCut 46 c.in_ok-first.rest.now c.in_ok-second.second.now c.in_ok-second.rest.now = search rules in
    rw c.from_residual-in_err-third.ensures (no_third_cut c.args.text.now _ _ _ _ cut cut' c.in_err-third.ensures.free)

pub returns-clause-found : goal.returns-clause-found
returns-clause-found c =
    let cut : IsCut 46 c.args.text.now c.in_ok-first.first.now c.in_ok-first.rest.now = search rules in
    let cut' : IsCut 46 c.in_ok-first.rest.now c.in_ok-second.second.now c.in_ok-second.rest.now = search rules in
    let cut'' : IsCut 46 c.in_ok-second.rest.now c.in_ok-third.third.now c.in_ok-third.fourth.now = search rules in
    record {
      whole = rw (cut.whole, cut'.whole, cut''.whole) refl;
      first_free = cut.free;
      second_free = cut'.free;
      third_free = cut''.free;
    }
