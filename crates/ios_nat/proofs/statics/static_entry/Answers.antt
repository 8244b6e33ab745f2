use Rattle.std.proofs.Common.{◌≡◌, [], true, false, codes, refl, rules}
use Rattle.std.specs.Str.{bytes_eq}
use Rattle.std.proofs.lemmas.List.{nil_from_length}
use Rattle.ios_lex.specs.Address.{IsAddress}
use Rattle.ios_lex.specs.NextWords.{NoName}
use Rattle.ios_lex.specs.Stops.{IsStop}
use Rattle.ios_lex.proofs.FirstStops.{begins_with_text, lacks_none}
use Rattle.ios_lex.proofs.WordForms.{words_differ}
use Rattle.ios_nat.specs.declared.kind.Kind.TheVariants as kinds
use Rattle.ios_nat.specs.Grammar.{Line, IsProto}
use Rattle.ios_nat.proofs.StaticLines.{lacks_static, local_read, local_stop, proto_read, proto_stop, static_stop}
use Rattle.ios_nat.proofs.statics.static_entry.Goals as goal

pub returns-in_default-clause-stop : goal.returns-in_default-clause-stop
returns-in_default-clause-stop c =
    let none : c.args.words.now ≡ [] = nil_from_length c.args.words.now c.in_default.ensures.cases in
    static_stop c.args.words.now c.stop_before.result c.stop_before.ensures.left c.stop_before.ensures.due (λ b. lacks_none (Line kinds.Static b) c.args.words.now none)

pub returns-in_err-entry-clause-stop : goal.returns-in_err-entry-clause-stop
returns-in_err-entry-clause-stop c =
    let test : bytes_eq c.in-Some.first.now (codes "tcp") ≡ true = search rules in
    let whole = begins_with_text c.args.words.now c.in-Some.rest.now c.in-Some.first.now (codes "tcp") c.in-Some.ensures.cases.0 test in
    let stop : IsStop NoName (Line kinds.Static) c.args.words.now c.in_err-entry.field-0.0 =
    proto_stop 6 c.args.words.now c.in-Some.rest.now (codes "tcp") c.in_err-entry.field-0.0 whole (IsProto.tcp refl refl) c.in_err-entry.ensures.stop in
    search rules

pub returns-then-is-clause-read : goal.returns-then-is-clause-read
returns-then-is-clause-read c =
    let test : bytes_eq c.in-Some.first.now (codes "tcp") ≡ true = search rules in
    let whole = begins_with_text c.args.words.now c.in-Some.rest.now c.in-Some.first.now (codes "tcp") c.in-Some.ensures.cases.0 test in
    proto_read c.in_ok-entry.entry c.args.words.now c.in-Some.rest.now (codes "tcp") whole (IsProto.tcp refl c.in_ok-entry.ensures.proto) c.in_ok-entry.ensures.read

pub returns-in_err-entry-2-clause-stop : goal.returns-in_err-entry-2-clause-stop
returns-in_err-entry-2-clause-stop c =
    let test : bytes_eq c.in-Some.first.now (codes "udp") ≡ true = search rules in
    let whole = begins_with_text c.args.words.now c.in-Some.rest.now c.in-Some.first.now (codes "udp") c.in-Some.ensures.cases.0 test in
    let stop : IsStop NoName (Line kinds.Static) c.args.words.now c.in_err-entry-2.field-0.0 =
    proto_stop 17 c.args.words.now c.in-Some.rest.now (codes "udp") c.in_err-entry-2.field-0.0 whole (IsProto.udp refl refl) c.in_err-entry-2.ensures.stop in
    search rules

pub returns-then-is-2-clause-read : goal.returns-then-is-2-clause-read
returns-then-is-2-clause-read c =
    let test : bytes_eq c.in-Some.first.now (codes "udp") ≡ true = search rules in
    let whole = begins_with_text c.args.words.now c.in-Some.rest.now c.in-Some.first.now (codes "udp") c.in-Some.ensures.cases.0 test in
    proto_read c.in_ok-entry-2.entry c.args.words.now c.in-Some.rest.now (codes "udp") whole (IsProto.udp refl c.in_ok-entry-2.ensures.proto) c.in_ok-entry-2.ensures.read

pub returns-in_default-address-clause-stop : goal.returns-in_default-address-clause-stop
returns-in_default-address-clause-stop c =
    let tcp : bytes_eq c.in-Some.first.now (codes "tcp") ≡ false = search rules in
    let udp : bytes_eq c.in-Some.first.now (codes "udp") ≡ false = search rules in
    let none = rw c.bytes.ensures at c.in_default-address.ensures.none in
    static_stop c.args.words.now c.stop_before-in_default-address.result c.stop_before-in_default-address.ensures.left c.stop_before-in_default-address.ensures.due
    (lacks_static c.args.words.now c.in-Some.rest.now c.in-Some.first.now c.in-Some.ensures.cases.0 (words_differ c.in-Some.first.now (codes "tcp") tcp) (words_differ c.in-Some.first.now (codes "udp") udp) none)

pub returns-in_err-global-clause-stop : goal.returns-in_err-global-clause-stop
returns-in_err-global-clause-stop c =
    let address : IsAddress c.in-Some.first.now c.in-Some-address.local = search rules in
    let stop : IsStop NoName (Line kinds.Static) c.args.words.now c.in_err-global.field-0.0 =
    local_stop c.args.words.now c.in-Some.rest.now c.in-Some.first.now c.in-Some-address.local c.in_err-global.field-0.0 c.in-Some.ensures.cases.0 address c.in_err-global.ensures.stop in
    search rules

pub returns-clause-read : goal.returns-clause-read
returns-clause-read c =
    let address : IsAddress c.in-Some.first.now c.in-Some-address.local = search rules in
    local_read (record { local = c.in-Some-address.local; global = c.in_ok-global.global }) c.args.words.now c.in-Some.rest.now c.in-Some.first.now c.in-Some.ensures.cases.0 address c.in_ok-global.ensures.read
