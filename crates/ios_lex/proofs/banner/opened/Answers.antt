use Rattle.std.proofs.Common.{◌≡◌, ◌<◌, codes, length, sym, ap, ◌∙◌, rules, arith}
use Rattle.std.specs.List.{before_first}
use Rattle.std.proofs.lemmas.Bool.Decides.{nat_tests}
use Rattle.ios_lex.specs.Words.{is_gap, from_next_word}
use Rattle.ios_lex.proofs.OpenedTexts.{opens_named, opens_third, opens_next}
use Rattle.ios_lex.proofs.banner.opened.Goals as goal

pub returns-then-ne-clause-none : goal.returns-then-ne-clause-none
returns-then-ne-clause-none c text opens =
    let named : c.first_part.result.now ≡ codes "banner" = c.first_part.ensures ∙ opens_named c.args.line.now text opens in
    search rules

pub returns-then-is_empty-clause-none : goal.returns-then-is_empty-clause-none
returns-then-is_empty-clause-none c text opens =
    let same : c.from_next_word-text.result.now ≡ text =
    c.from_next_word-text.ensures ∙ ap from_next_word c.from_next_word.ensures ∙ sym (opens_third c.args.line.now text opens) in
    let some : 0 < length c.from_next_word-text.result.now = rw same opens.some in
    absurd (grind (arith, nat_tests))

pub returns-else-is_empty-clause-found : goal.returns-else-is_empty-clause-found
returns-else-is_empty-clause-found c =
    let named : before_first is_gap c.args.line.now ≡ codes "banner" = search rules in
    let some : 0 < length (from_next_word (from_next_word c.args.line.now)) = rw (← c.from_next_word.ensures, ← c.from_next_word-text.ensures) (grind (arith, nat_tests)) in
    rw (c.from_next_word-text.ensures, c.from_next_word.ensures) (opens_next c.args.line.now named some)
