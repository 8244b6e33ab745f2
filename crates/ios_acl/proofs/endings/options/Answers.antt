use Rattle.std.proofs.Common.{◌≡◌, Some, ◌∙◌, rules}
use Rattle.ios_acl.specs.Stops.{IsStop}
use Rattle.ios_acl.specs.Parts.{SomeEnd}
use Rattle.ios_acl.proofs.EndWords.{IsOther, other_number, no_protocol, stop_icmp, stop_tcp_ports, stop_udp_ports, stop_tcp, stop_udp, stop_other, read_icmp, read_tcp, read_udp}
use Rattle.ios_acl.proofs.endings.options.Goals as goal
use Rattle.ios_acl.proofs.endings.options.Goals.{in_default-via-in-Some+in_default, in_default-via-in_default}

pub returns-in_err-message_end-in-Some-eq1-clause-stop : goal.returns-in_err-message_end-in-Some-eq1-clause-stop
returns-in_err-message_end-in-Some-eq1-clause-stop c =
    let icmp : c.args.proto ≡ Some 1 = search rules in
    let stop : IsStop (SomeEnd c.args.proto) c.args.words.now c.in_err-message_end-in-Some-eq1.field-0.0 =
    stop_icmp c.args.proto c.args.words.now c.in_err-message_end-in-Some-eq1.field-0.0 icmp c.in_err-message_end-in-Some-eq1.ensures.stop in
    search rules

pub returns-in_err-ports-in-Some-eq6-clause-stop : goal.returns-in_err-ports-in-Some-eq6-clause-stop
returns-in_err-ports-in-Some-eq6-clause-stop c =
    let tcp : c.args.proto ≡ Some 6 = search rules in
    let stop : IsStop (SomeEnd c.args.proto) c.args.words.now c.in_err-ports-in-Some-eq6.field-0.0 =
    stop_tcp_ports c.args.proto c.args.words.now c.in_err-ports-in-Some-eq6.field-0.0 tcp c.in_err-ports-in-Some-eq6.ensures.part
    c.in_err-ports-in-Some-eq6.ensures.later c.in_err-ports-in-Some-eq6.ensures.stop in
    search rules

pub returns-in_err-connection_end-in-Some-eq6-clause-stop : goal.returns-in_err-connection_end-in-Some-eq6-clause-stop
returns-in_err-connection_end-in-Some-eq6-clause-stop c =
    let tcp : c.args.proto ≡ Some 6 = search rules in
    let stop : IsStop (SomeEnd c.args.proto) c.args.words.now c.in_err-connection_end-in-Some-eq6.field-0.0 =
    stop_tcp c.args.proto c.in_ok-ports-in-Some-eq6.ports c.args.words.now c.in_ok-ports-in-Some-eq6.rest.now c.in_err-connection_end-in-Some-eq6.field-0.0 tcp
    c.in_ok-ports-in-Some-eq6.ensures.read c.in_err-connection_end-in-Some-eq6.ensures.stop in
    search rules

pub returns-in_err-ports-in-Some-eq17-clause-stop : goal.returns-in_err-ports-in-Some-eq17-clause-stop
returns-in_err-ports-in-Some-eq17-clause-stop c =
    let udp : c.args.proto ≡ Some 17 = search rules in
    let stop : IsStop (SomeEnd c.args.proto) c.args.words.now c.in_err-ports-in-Some-eq17.field-0.0 =
    stop_udp_ports c.args.proto c.args.words.now c.in_err-ports-in-Some-eq17.field-0.0 udp c.in_err-ports-in-Some-eq17.ensures.part
    c.in_err-ports-in-Some-eq17.ensures.later c.in_err-ports-in-Some-eq17.ensures.stop in
    search rules

pub returns-in_err-end-in-Some-eq17-clause-stop : goal.returns-in_err-end-in-Some-eq17-clause-stop
returns-in_err-end-in-Some-eq17-clause-stop c =
    let udp : c.args.proto ≡ Some 17 = search rules in
    let stop : IsStop (SomeEnd c.args.proto) c.args.words.now c.in_err-end-in-Some-eq17.field-0.0 =
    stop_udp c.args.proto c.in_ok-ports-in-Some-eq17.ports c.args.words.now c.in_ok-ports-in-Some-eq17.rest.now c.in_err-end-in-Some-eq17.field-0.0 udp
    c.in_ok-ports-in-Some-eq17.ensures.read c.in_err-end-in-Some-eq17.ensures.stop in
    search rules

pub returns-in_err-end-in_default-clause-stop : goal.returns-in_err-end-in_default-clause-stop
returns-in_err-end-in_default-clause-stop c =
    let other : IsOther c.args.proto = elim c.in_default.branch [
      | in_default-via-in-Some+in_default w ↦
          let tests = w.in_default.field-0-test in
          other_number c.args.proto w.in_default.field-0 w.in_default.is (λ e. tests.0.0.1 (w.in_default.field-0-is ∙ e))
          (λ e. tests.0.1 (w.in_default.field-0-is ∙ e)) (λ e. tests.1 (w.in_default.field-0-is ∙ e))
      | in_default-via-in_default w ↦ no_protocol c.args.proto w.in_default.is
    ] in
    let stop : IsStop (SomeEnd c.args.proto) c.args.words.now c.in_err-end-in_default.field-0.0 =
    stop_other c.args.proto c.args.words.now c.in_err-end-in_default.field-0.0 other c.in_err-end-in_default.ensures.stop in
    search rules

pub returns-in_ok-message_end-in-Some-eq1-clause-read : goal.returns-in_ok-message_end-in-Some-eq1-clause-read
returns-in_ok-message_end-in-Some-eq1-clause-read c =
    let icmp : c.args.proto ≡ Some 1 = search rules in
    read_icmp c.args.proto c.in_ok-message_end-in-Some-eq1.field-0 c.args.words.now icmp c.in_ok-message_end-in-Some-eq1.ensures.read

pub returns-in_ok-connection_end-in-Some-eq6-clause-read : goal.returns-in_ok-connection_end-in-Some-eq6-clause-read
returns-in_ok-connection_end-in-Some-eq6-clause-read c =
    let tcp : c.args.proto ≡ Some 6 = search rules in
    read_tcp c.args.proto c.in_ok-connection_end-in-Some-eq6.field-0 c.in_ok-ports-in-Some-eq6.ports c.args.words.now c.in_ok-ports-in-Some-eq6.rest.now tcp
    c.in_ok-ports-in-Some-eq6.ensures.read c.in_ok-connection_end-in-Some-eq6.ensures.read

pub returns-in_ok-end-in-Some-eq17-clause-read : goal.returns-in_ok-end-in-Some-eq17-clause-read
returns-in_ok-end-in-Some-eq17-clause-read c =
    let udp : c.args.proto ≡ Some 17 = search rules in
    read_udp c.args.proto c.in_ok-ports-in-Some-eq17.ports c.args.words.now c.in_ok-ports-in-Some-eq17.rest.now udp
    c.in_ok-ports-in-Some-eq17.ensures.read c.in_ok-end-in-Some-eq17.ensures.read
