use Rattle.std.proofs.Common.{arith, sym}
use Rattle.ios_acl.proofs.Rising.{greatest_of_last}
use Rattle.ios_acl.proofs.numbers.next_number.Goals as goal

pub returns-then-next-le-GREATEST-clause-found : goal.returns-then-next-le-GREATEST-clause-found
returns-then-next-le-GREATEST-clause-found c =
    let greatest = greatest_of_last c.args.entries.now c.in-Some.last.now c.requires (sym c.in-Some.ensures.value) in
    omega (arith, c.in_ok-next.ensures)
