use Rattle.std.proofs.Common.{◌≡◌, ◌∷◌, [], ◌++◌, ap, ◌∙◌}
use Rattle.std.specs.Fmt.{decimal}
use Rattle.ios_acl.specs.Grammar.{verdict_word}
use Rattle.ios_acl.specs.declared.entry.Entry.{Entry}
use Rattle.ios_acl.specs.Spelling.{behind_blanks, match_words}
use Rattle.ios_acl.proofs.BlockTexts.{written_first, written_entry}
use Rattle.ios_acl.proofs.written.push_entry.Goals as goal

pub returns : goal.returns
returns c =
    let e : Entry = c.args.entry.now in
    let verdict : c.push_word.new.text.items ≡ c.push_number.new.text.items ++ behind_blanks (verdict_word e.verdict ∷ []) =
    c.in_ok-push_word.ensures ∙ ap (λ word. c.push_number.new.text.items ++ behind_blanks (word ∷ [])) c.verdict_word.ensures in
    let number : c.push_number.new.text.items ≡ c.args.text.now.items ++ behind_blanks (decimal e.number ∷ []) =
    c.in_ok-push_number.ensures ∙ ap (λ n. c.args.text.now.items ++ behind_blanks (decimal n ∷ [])) c.from.ensures in
    written_entry c.args.text.now.items c.push_match.new.text.items c.push.new.self.items c.args.extended e
    (written_first _ c.push_number.new.text.items _ (decimal e.number ∷ []) (verdict_word e.verdict ∷ match_words c.args.extended e) number
    (written_first _ c.push_word.new.text.items _ (verdict_word e.verdict ∷ []) (match_words c.args.extended e) verdict c.in_ok-push_match.ensures))
    c.in_ok-push.ensures.items
