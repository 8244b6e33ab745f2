use Rattle.std.proofs.Common.{◌≡◌, ◌-◌, [], length, take, drop, rules, refl}
use Rattle.certificates.proofs.LineTexts.{last_line_some, no_line}
use Rattle.certificates.proofs.lines.last_line.Goals as goal

pub returns-then-is_empty-clause-none : goal.returns-then-is_empty-clause-none
returns-then-is_empty-clause-none c = no_line c.args.text.now (search rules)

pub returns-clause-found : goal.returns-clause-found
returns-clause-found c =
    let none : take (length c.args.text.now - length c.args.text.now) (drop (length c.args.text.now) c.args.text.now) ≡ [] = search rules in
    rw (none, no_line [] refl) (last_line_some c.args.text.now c.requires (search rules))
