use Rattle.ios_lex.specs.NextWords.{SomeAddress}
use Rattle.ios_lex.proofs.FirstStops.{lacks_word}
use Rattle.ios_lex.proofs.NextWordForms.{address_read, no_address_begins}
use Rattle.ios_lex.proofs.next.first_address.Goals as goal

pub returns-in_err-address-clause-none : goal.returns-in_err-address-clause-none
returns-in_err-address-clause-none c =
    let none = rw c.bytes.ensures at c.in_err-address.ensures.none in
    rw c.from_residual-in_err-address.ensures
    (λ lax. lacks_word (SomeAddress lax) c.args.words.now c.in_ok-first.rest.now c.in_ok-first.first.now c.in_ok-first.ensures.cases.0 (no_address_begins c.in_ok-first.first.now none lax))

pub returns-clause-found : goal.returns-clause-found
returns-clause-found c =
    address_read c.args.words.now c.in_ok-first.rest.now c.in_ok-first.first.now c.in_ok-address.field-0 c.in_ok-first.ensures.cases.0 (rw c.bytes.ensures at c.in_ok-address.ensures.found)
