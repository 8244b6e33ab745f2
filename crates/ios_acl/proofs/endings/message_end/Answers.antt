use Rattle.std.proofs.Common.{◌≡◌, ◌∷◌, sym, ◌∙◌, rules}
use Rattle.ios_acl.specs.Stops.{IsStop}
use Rattle.ios_acl.specs.Parts.{SomeMessageEnd}
use Rattle.ios_acl.proofs.LastWords.{one_message, with_code, stop_log_message, stop_behind_type, stop_behind_message, stop_no_message}
use Rattle.ios_acl.proofs.endings.message_end.Goals as goal

pub returns-in_err-end-clause-stop : goal.returns-in_err-end-clause-stop
returns-in_err-end-clause-stop c =
    let stop : IsStop SomeMessageEnd c.args.words.now c.in_err-end.field-0.0 =
    stop_log_message c.args.words.now c.in_err-end.field-0.0 (sym c.is_at_end.ensures ∙ c.if-is_at_end.true) c.in_err-end.ensures.stop in
    search rules

pub returns-in_err-code-clause-stop : goal.returns-in_err-code-clause-stop
returns-in_err-code-clause-stop c =
    let whole : c.args.words.now ≡ c.in-Some.first.now ∷ c.in-Some.rest.now = search rules in
    let stop : IsStop SomeMessageEnd c.args.words.now c.in_err-code.field-0.0 =
    stop_behind_type c.in-Some.first.now c.in-Some-number.kind c.args.words.now c.in-Some.rest.now c.in_err-code.field-0.0 whole
    (rw c.bytes.ensures at c.in-Some-number.ensures.found) c.in_err-code.ensures.stop in
    search rules

pub returns-in-Some-number-clause-read : goal.returns-in-Some-number-clause-read
returns-in-Some-number-clause-read c =
    let whole : c.args.words.now ≡ c.in-Some.first.now ∷ c.in-Some.rest.now = search rules in
    rw whole (with_code c.in-Some.first.now c.in-Some-number.kind c.in_ok-code.code c.in-Some.rest.now (rw c.bytes.ensures at c.in-Some-number.ensures.found) c.in_ok-code.ensures.read)

pub returns-in_default-icmp-clause-stop : goal.returns-in_default-icmp-clause-stop
returns-in_default-icmp-clause-stop c =
    let whole : c.args.words.now ≡ c.in-Some.first.now ∷ c.in-Some.rest.now = search rules in
    stop_no_message c.args.words.now c.stop_before.result c.in-Some.first.now c.in-Some.rest.now whole (sym c.is_at_end.ensures ∙ c.if-is_at_end.false)
    (rw c.bytes-2.ensures at c.in_default-icmp.ensures.none) c.stop_before.ensures.due c.stop_before.ensures.left

pub returns-in_err-end-2-clause-stop : goal.returns-in_err-end-2-clause-stop
returns-in_err-end-2-clause-stop c =
    let whole : c.args.words.now ≡ c.in-Some.first.now ∷ c.in-Some.rest.now = search rules in
    let stop : IsStop SomeMessageEnd c.args.words.now c.in_err-end-2.field-0.0 =
    stop_behind_message c.in-Some.first.now c.in-Some-icmp.message c.args.words.now c.in-Some.rest.now c.in_err-end-2.field-0.0 whole
    (rw c.bytes.ensures at c.in_default-number.ensures.none) (rw c.bytes-2.ensures at c.in-Some-icmp.ensures.found) c.in_err-end-2.ensures.stop in
    search rules

pub returns-clause-read : goal.returns-clause-read
returns-clause-read c =
    let whole : c.args.words.now ≡ c.in-Some.first.now ∷ c.in-Some.rest.now = search rules in
    rw whole (one_message c.in-Some.first.now c.in-Some-icmp.message c.in-Some.rest.now (rw c.bytes-2.ensures at c.in-Some-icmp.ensures.found) c.in_ok-end-2.ensures.read)
