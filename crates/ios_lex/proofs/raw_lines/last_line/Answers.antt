use Rattle.std.proofs.Common.{◌≡◌, ◌-◌, [], length, take, drop, rules}
use Rattle.ios_lex.proofs.RawTexts.{last_line_some}
use Rattle.ios_lex.proofs.raw_lines.last_line.Goals as goal

pub returns-clause-found : goal.returns-clause-found
returns-clause-found c =
    let none : take (length c.args.text.now - length c.args.text.now) (drop (length c.args.text.now) c.args.text.now) ≡ [] = search rules in
    rw none (last_line_some c.args.text.now c.requires (search rules))
