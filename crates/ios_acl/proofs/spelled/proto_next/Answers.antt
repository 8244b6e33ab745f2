use Rattle.std.proofs.Common.{◌≡◌, [], true, false, codes, rules}
use Rattle.std.specs.Str.{bytes_eq}
use Rattle.std.proofs.lemmas.List.{nil_from_length}
use Rattle.ios_lex.proofs.FirstStops.{begins_with_text, lacks_none, lacks_word}
use Rattle.ios_lex.proofs.WordForms.{words_differ}
use Rattle.ios_acl.specs.Parts.{SomeProto}
use Rattle.ios_acl.proofs.ProtocolWords.{every_read, no_proto_begins, proto_stop, protocol_read}
use Rattle.ios_acl.proofs.spelled.proto_next.Goals as goal

pub returns-in_default-clause-stop : goal.returns-in_default-clause-stop
returns-in_default-clause-stop c =
    let none : c.args.words.now ≡ [] = nil_from_length c.args.words.now c.in_default.ensures.cases in
    proto_stop c.args.words.now c.stop_before.result c.stop_before.ensures.left c.stop_before.ensures.due (λ b. lacks_none (SomeProto b) c.args.words.now none)

pub returns-then-is-clause-read : goal.returns-then-is-clause-read
returns-then-is-clause-read c =
    let test : bytes_eq c.in-Some.first.now (codes "ip") ≡ true = search rules in
    every_read c.args.words.now c.in-Some.rest.now (begins_with_text c.args.words.now c.in-Some.rest.now c.in-Some.first.now (codes "ip") c.in-Some.ensures.cases.0 test)

pub returns-in_default-protocol-clause-stop : goal.returns-in_default-protocol-clause-stop
returns-in_default-protocol-clause-stop c =
    let test : bytes_eq c.in-Some.first.now (codes "ip") ≡ false = search rules in
    let none = rw c.bytes.ensures at c.in_default-protocol.ensures.none in
    proto_stop c.args.words.now c.stop_before-in_default-protocol.result c.stop_before-in_default-protocol.ensures.left c.stop_before-in_default-protocol.ensures.due
    (λ b. lacks_word (SomeProto b) c.args.words.now c.in-Some.rest.now c.in-Some.first.now c.in-Some.ensures.cases.0
    (no_proto_begins c.in-Some.first.now (words_differ c.in-Some.first.now (codes "ip") test) none b))

pub returns-clause-read : goal.returns-clause-read
returns-clause-read c =
    protocol_read c.args.words.now c.in-Some.rest.now c.in-Some.first.now c.in-Some-protocol.proto c.in-Some.ensures.cases.0 (rw c.bytes.ensures at c.in-Some-protocol.ensures.found)
