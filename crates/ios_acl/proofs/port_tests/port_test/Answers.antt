use Rattle.std.proofs.Common.{◌∷◌, refl, sym, ◌∙◌, rules, codes}
use Rattle.std.proofs.lemmas.Slice.Eq.{bytes_eq-Decides}
use Rattle.ios_acl.specs.declared.entry.Ports.TheVariants as ports
use Rattle.ios_acl.specs.Grammar.{ArePorts}
use Rattle.ios_acl.specs.Stops.{IsStop}
use Rattle.ios_acl.specs.Parts.{SomePorts}
use Rattle.ios_acl.proofs.PortWords.{stop_in_port, stop_in_range, read_one_port, read_range, last_word}
use Rattle.ios_acl.proofs.port_tests.port_test.Goals as goal

pub returns-in_err-low-clause-stop : goal.returns-in_err-low-clause-stop
returns-in_err-low-clause-stop c =
    let stop : IsStop (SomePorts c.args.tcp) (c.args.first.now ∷ c.args.rest.now) c.in_err-low.field-0.0 =
    stop_in_port c.args.tcp c.args.first.now c.args.rest.now c.in_err-low.field-0.0 c.requires c.in_err-low.ensures.part c.in_err-low.ensures.stop in
    search rules

pub returns-then-is-clause-read : goal.returns-then-is-clause-read
returns-then-is-clause-read c =
    let same = (bytes_eq-Decides c.args.first.now (codes "eq")).0 (sym c.is.ensures ∙ c.if-is.true) in
    rw same (read_one_port c.args.tcp (ports.Within c.in_ok-low.low c.in_ok-low.low) c.in_ok-low.low (codes "eq") c.args.rest.now c.in_ok-low.others.now
    (λ word is. ArePorts.eq word c.in_ok-low.low refl is refl) c.in_ok-low.ensures.read)

pub returns-then-is-2-clause-read : goal.returns-then-is-2-clause-read
returns-then-is-2-clause-read c =
    let same = (bytes_eq-Decides c.args.first.now (codes "neq")).0 (sym c.is-else-is.ensures ∙ c.if-is-2.true) in
    rw same (read_one_port c.args.tcp (ports.Not c.in_ok-low.low) c.in_ok-low.low (codes "neq") c.args.rest.now c.in_ok-low.others.now
    (λ word is. ArePorts.neq word c.in_ok-low.low refl is refl) c.in_ok-low.ensures.read)

pub returns-then-is-3-clause-read : goal.returns-then-is-3-clause-read
returns-then-is-3-clause-read c =
    let same = (bytes_eq-Decides c.args.first.now (codes "lt")).0 (sym c.is-else-is-2.ensures ∙ c.if-is-3.true) in
    rw same (read_one_port c.args.tcp c.below.result c.in_ok-low.low (codes "lt") c.args.rest.now c.in_ok-low.others.now
    (λ word is. ArePorts.lt word c.in_ok-low.low refl is c.below.ensures) c.in_ok-low.ensures.read)

pub returns-then-is-4-clause-read : goal.returns-then-is-4-clause-read
returns-then-is-4-clause-read c =
    let same = (bytes_eq-Decides c.args.first.now (codes "gt")).0 (sym c.is-else-is-3.ensures ∙ c.if-is-4.true) in
    rw same (read_one_port c.args.tcp c.above.result c.in_ok-low.low (codes "gt") c.args.rest.now c.in_ok-low.others.now
    (λ word is. ArePorts.gt word c.in_ok-low.low refl is c.above.ensures) c.in_ok-low.ensures.read)

pub returns-in_err-high-clause-stop : goal.returns-in_err-high-clause-stop
returns-in_err-high-clause-stop c =
    let same = last_word c.args.first.now c.requires (sym c.is.ensures ∙ c.if-is.false) (sym c.is-else-is.ensures ∙ c.if-is-2.false)
    (sym c.is-else-is-2.ensures ∙ c.if-is-3.false) (sym c.is-else-is-3.ensures ∙ c.if-is-4.false) in
    let stop : IsStop (SomePorts c.args.tcp) (c.args.first.now ∷ c.args.rest.now) c.in_err-high.field-0.0 =
    rw same (stop_in_range c.args.tcp c.in_ok-low.low c.args.rest.now c.in_ok-low.others.now c.in_err-high.field-0.0 c.in_ok-low.ensures.read c.in_err-high.ensures.stop) in
    search rules

pub returns-in_ok-high-clause-read : goal.returns-in_ok-high-clause-read
returns-in_ok-high-clause-read c =
    let same = last_word c.args.first.now c.requires (sym c.is.ensures ∙ c.if-is.false) (sym c.is-else-is.ensures ∙ c.if-is-2.false)
    (sym c.is-else-is-2.ensures ∙ c.if-is-3.false) (sym c.is-else-is-3.ensures ∙ c.if-is-4.false) in
    rw same (read_range c.args.tcp c.in_ok-low.low c.in_ok-high.high c.args.rest.now c.in_ok-low.others.now c.in_ok-high.others.now
    c.in_ok-high.ensures.order c.in_ok-low.ensures.read c.in_ok-high.ensures.read)
