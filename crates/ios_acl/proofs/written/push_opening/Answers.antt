use Rattle.std.proofs.Common.{◌≡◌, ◌∷◌, [], ◌++◌, codes, ap, ◌∙◌}
use Rattle.ios_acl.specs.Block.{kind_word}
use Rattle.ios_acl.specs.Spelling.{behind_blanks}
use Rattle.ios_acl.proofs.BlockTexts.{written_first, written_opening}
use Rattle.ios_acl.proofs.written.push_opening.Goals as goal

pub returns : goal.returns
returns c =
    let kind : c.push_word-2.new.text.items ≡ c.push_word.new.text.items ++ behind_blanks (kind_word c.args.extended ∷ []) =
    c.in_ok-push_word-2.ensures ∙ ap (λ word. c.push_word.new.text.items ++ behind_blanks (word ∷ [])) c.kind_word.ensures in
    written_opening c.args.text.now.items c.extend_from_slice.new.self.items c.push_word-3.new.text.items c.push.new.self.items c.args.extended c.args.name.now
    c.in_ok-extend_from_slice.ensures.items
    (written_first _ c.push_word.new.text.items _ (codes "access-list" ∷ []) (kind_word c.args.extended ∷ c.args.name.now ∷ []) c.in_ok-push_word.ensures
    (written_first _ c.push_word-2.new.text.items _ (kind_word c.args.extended ∷ []) (c.args.name.now ∷ []) kind c.in_ok-push_word-3.ensures))
    c.in_ok-push.ensures.items
