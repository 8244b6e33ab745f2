use Rattle.std.proofs.Common.{◌≡◌, true, ◌∷◌, [], ◌++◌, rules}
use Rattle.std.proofs.lemmas.Result.{IfOk-weaker}
use Rattle.ios_acl.specs.declared.entry.Entry.{Entry}
use Rattle.ios_acl.specs.Spelling.{behind_blanks, proto_word, place_words, ports_words, message_words, established_words, match_words}
use Rattle.ios_acl.proofs.BlockTexts.{written_first}
use Rattle.ios_acl.proofs.written.push_match.Goals as goal

pub returns : goal.returns
returns c =
    let e : Entry = c.args.entry.now in
    let on : c.args.extended ≡ true = search rules in
    rw on (IfOk-weaker c.push_established.result
    (λ _. c.push_established.new.text.items ≡ c.push_message.new.text.items ++ behind_blanks (established_words e.established))
    (λ _. c.push_established.new.text.items ≡ c.args.text.now.items ++ behind_blanks (match_words true e))
    (λ _ last.
    written_first _ c.push_proto.new.text.items _ (proto_word e.proto ∷ []) _ c.in_ok-push_proto.ensures
    (written_first _ c.push_place-2.new.text.items _ (place_words e.src) _ c.in_ok-push_place.ensures
    (written_first _ c.push_ports.new.text.items _ (ports_words e.sport) _ c.in_ok-push_ports.ensures
    (written_first _ c.push_place-3.new.text.items _ (place_words e.dst) _ c.in_ok-push_place-2.ensures
    (written_first _ c.push_ports-2.new.text.items _ (ports_words e.dport) _ c.in_ok-push_ports-2.ensures
    (written_first _ c.push_message.new.text.items _ (message_words e.icmp) (established_words e.established) c.in_ok-push_message.ensures last))))))
    c.push_established.ensures)
