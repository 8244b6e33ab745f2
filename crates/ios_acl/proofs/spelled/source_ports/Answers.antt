use Rattle.std.proofs.Common.{◌≡◌, true, false, rules}
use Rattle.std.proofs.lemmas.Result.{IfErr-weaker, IfOk-weaker}
use Rattle.ios_acl.specs.Grammar.{with_ports}
use Rattle.ios_acl.proofs.ExtendedStops.{stop_in_test, test_read, test_skipped}
use Rattle.ios_acl.proofs.spelled.source_ports.Goals as goal

pub returns-in-Some-eq6-clause-read : goal.returns-in-Some-eq6-clause-read
returns-in-Some-eq6-clause-read c =
    let tcp : c.args.proto ≡ with_ports true = search rules in
    IfOk-weaker c.ports.result _ _ (λ found read. test_read true c.args.proto found.0 c.args.words.now found.1.now tcp read) c.ports.ensures.read

pub returns-in-Some-eq6-clause-skipped : goal.returns-in-Some-eq6-clause-skipped
returns-in-Some-eq6-clause-skipped c =
    let tcp : c.args.proto ≡ with_ports true = search rules in
    IfOk-weaker c.ports.result _ _ (λ found read. test_skipped true c.args.proto found.0 c.args.words.now found.1.now tcp read) c.ports.ensures.read

pub returns-in-Some-eq6-clause-stop : goal.returns-in-Some-eq6-clause-stop
returns-in-Some-eq6-clause-stop c =
    let tcp : c.args.proto ≡ with_ports true = search rules in
    IfErr-weaker c.ports.result _ _ (λ stop stops. stop_in_test true c.args.proto c.args.words.now stop tcp stops) c.ports.ensures.stop

pub returns-in-Some-eq17-clause-read : goal.returns-in-Some-eq17-clause-read
returns-in-Some-eq17-clause-read c =
    let udp : c.args.proto ≡ with_ports false = search rules in
    IfOk-weaker c.ports-in-Some-eq17.result _ _ (λ found read. test_read false c.args.proto found.0 c.args.words.now found.1.now udp read) c.ports-in-Some-eq17.ensures.read

pub returns-in-Some-eq17-clause-skipped : goal.returns-in-Some-eq17-clause-skipped
returns-in-Some-eq17-clause-skipped c =
    let udp : c.args.proto ≡ with_ports false = search rules in
    IfOk-weaker c.ports-in-Some-eq17.result _ _ (λ found read. test_skipped false c.args.proto found.0 c.args.words.now found.1.now udp read) c.ports-in-Some-eq17.ensures.read

pub returns-in-Some-eq17-clause-stop : goal.returns-in-Some-eq17-clause-stop
returns-in-Some-eq17-clause-stop c =
    let udp : c.args.proto ≡ with_ports false = search rules in
    IfErr-weaker c.ports-in-Some-eq17.result _ _ (λ stop stops. stop_in_test false c.args.proto c.args.words.now stop udp stops) c.ports-in-Some-eq17.ensures.stop
