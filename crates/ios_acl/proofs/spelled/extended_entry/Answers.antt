use Rattle.std.proofs.Common.{[], ◌∷◌, codes, rules}
use Rattle.ios_acl.specs.declared.entry.Entry.{Entry}
use Rattle.ios_acl.specs.Stops.{IsStop}
use Rattle.ios_acl.specs.Parts.{SomeEnd, SomeExtended}
use Rattle.ios_acl.proofs.ExtendedParts.{BehindSource, some_behind_source, some_end}
use Rattle.ios_acl.proofs.ExtendedStops.{read_extended, stop_behind_place, stop_behind_ports, stop_behind_proto, stop_in_place, stop_in_ports, stop_in_proto}
use Rattle.ios_acl.proofs.spelled.extended_entry.Goals as goal

pub returns-in_err-proto-clause-stop : goal.returns-in_err-proto-clause-stop
returns-in_err-proto-clause-stop c =
    let stop : IsStop SomeExtended c.args.words.now c.in_err-proto.field-0.0 =
    stop_in_proto c.args.words.now c.in_err-proto.field-0.0 c.in_err-proto.ensures.part c.in_err-proto.ensures.stop in
    search rules

pub returns-in_err-src-clause-stop : goal.returns-in_err-src-clause-stop
returns-in_err-src-clause-stop c =
    let stop : IsStop SomeExtended c.args.words.now c.in_err-src.field-0.0 =
    stop_behind_proto c.in_ok-proto.proto c.args.words.now c.in_ok-proto.rest.now c.in_err-src.field-0.0 c.in_ok-proto.ensures.read
    (stop_in_place (BehindSource c.in_ok-proto.proto) c.in_ok-proto.rest.now (codes "any" ∷ []) c.in_err-src.field-0.0 (some_behind_source c.in_ok-proto.proto) c.in_err-src.ensures.part c.in_err-src.ensures.stop) in
    search rules

pub returns-in_err-sport-clause-stop : goal.returns-in_err-sport-clause-stop
returns-in_err-sport-clause-stop c =
    let stop : IsStop SomeExtended c.args.words.now c.in_err-sport.field-0.0 =
    stop_behind_proto c.in_ok-proto.proto c.args.words.now c.in_ok-proto.rest.now c.in_err-sport.field-0.0 c.in_ok-proto.ensures.read
    (stop_behind_place (BehindSource c.in_ok-proto.proto) c.in_ok-src.src c.in_ok-proto.rest.now c.in_ok-src.rest.now c.in_err-sport.field-0.0 c.in_ok-src.ensures.read
    (stop_in_ports c.in_ok-proto.proto c.in_ok-src.rest.now c.in_err-sport.field-0.0 c.in_err-sport.ensures.part c.in_err-sport.ensures.later c.in_err-sport.ensures.stop)) in
    search rules

pub returns-in_err-dst-clause-stop : goal.returns-in_err-dst-clause-stop
returns-in_err-dst-clause-stop c =
    let stop : IsStop SomeExtended c.args.words.now c.in_err-dst.field-0.0 =
    stop_behind_proto c.in_ok-proto.proto c.args.words.now c.in_ok-proto.rest.now c.in_err-dst.field-0.0 c.in_ok-proto.ensures.read
    (stop_behind_place (BehindSource c.in_ok-proto.proto) c.in_ok-src.src c.in_ok-proto.rest.now c.in_ok-src.rest.now c.in_err-dst.field-0.0 c.in_ok-src.ensures.read
    (stop_behind_ports c.in_ok-proto.proto c.in_ok-sport.sport c.in_ok-src.rest.now c.in_ok-sport.rest.now c.in_err-dst.field-0.0 c.in_ok-sport.ensures.read c.in_ok-sport.ensures.skipped
    (stop_in_place (SomeEnd c.in_ok-proto.proto) c.in_ok-sport.rest.now [] c.in_err-dst.field-0.0 (some_end c.in_ok-proto.proto) c.in_err-dst.ensures.part c.in_err-dst.ensures.stop))) in
    search rules

pub returns-in_err-dport-clause-stop : goal.returns-in_err-dport-clause-stop
returns-in_err-dport-clause-stop c =
    let stop : IsStop SomeExtended c.args.words.now c.in_err-dport.field-0.0 =
    stop_behind_proto c.in_ok-proto.proto c.args.words.now c.in_ok-proto.rest.now c.in_err-dport.field-0.0 c.in_ok-proto.ensures.read
    (stop_behind_place (BehindSource c.in_ok-proto.proto) c.in_ok-src.src c.in_ok-proto.rest.now c.in_ok-src.rest.now c.in_err-dport.field-0.0 c.in_ok-src.ensures.read
    (stop_behind_ports c.in_ok-proto.proto c.in_ok-sport.sport c.in_ok-src.rest.now c.in_ok-sport.rest.now c.in_err-dport.field-0.0 c.in_ok-sport.ensures.read c.in_ok-sport.ensures.skipped
    (stop_behind_place (SomeEnd c.in_ok-proto.proto) c.in_ok-dst.dst c.in_ok-sport.rest.now c.in_ok-dst.rest.now c.in_err-dport.field-0.0 c.in_ok-dst.ensures.read c.in_err-dport.ensures.stop))) in
    search rules

pub returns-clause-read : goal.returns-clause-read
returns-clause-read c =
    let entry : Entry = record {
      number = 0;
      verdict = c.args.verdict;
      proto = c.in_ok-proto.proto;
      src = c.in_ok-src.src;
      dst = c.in_ok-dst.dst;
      sport = c.in_ok-sport.sport;
      dport = c.in_ok-dport.dport;
      icmp = c.in_ok-dport.icmp;
      established = c.in_ok-dport.established;
    } in
    read_extended entry c.args.words.now c.in_ok-proto.rest.now c.in_ok-src.rest.now c.in_ok-sport.rest.now c.in_ok-dst.rest.now c.in_ok-proto.ensures.read c.in_ok-src.ensures.read
    c.in_ok-sport.ensures.read c.in_ok-dst.ensures.read c.in_ok-dport.ensures.read
