use Rattle.std.proofs.Common.{◌≡◌, false, rules}
use Rattle.ios_lex.specs.ListNames.{is_name}
use Rattle.ios_interface.specs.Headings.{IsNoHeading}
use Rattle.ios_interface.specs.Headings as specs
use Rattle.ios_interface.proofs.heading.heading_name.Goals as goal

pub returns-then-not-is_name-clause-none : goal.returns-then-not-is_name-clause-none
returns-then-not-is_name-clause-none c =
    let other : is_name c.in_ok-name.name.now ≡ false = search rules in
    IsNoHeading.bytes c.in_ok-name.name.now c.in_ok-name.rest.now c.in_ok-name.ensures.cases.0 other

pub returns-else-ends_heading-clause-none : goal.returns-else-ends_heading-clause-none
returns-else-ends_heading-clause-none c =
    let other : specs.ends_heading c.in_ok-name.rest.now ≡ false = search rules in
    IsNoHeading.behind c.in_ok-name.name.now c.in_ok-name.rest.now c.in_ok-name.ensures.cases.0 other
