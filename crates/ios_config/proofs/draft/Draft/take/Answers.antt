use Rattle.std.proofs.lemmas.Result.{IfErr-weaker, on_ok_weaker}
use Rattle.ios_lex.specs.LineReadings.{reading_of}
use Rattle.ios_lex.specs.Refusal.{texts}
use Rattle.ios_config.specs.Line.{IsOfRule, Rule}
use Rattle.ios_config.specs.Taking.{IsRuleFault}
use Rattle.ios_config.proofs.Taken.{bannered, commanded, commanded_fault, passed_over, unmodelled_refused}
use Rattle.ios_config.proofs.draft.Draft.take.Goals as goal

pub returns-then-line-clause-taken : goal.returns-then-line-clause-taken
returns-then-line-clause-taken c = rw c.ignore.ensures (bannered c.args.self.now (reading_of c.args.line.now) c.if-line.true)

pub returns-in-Some-clause-refused : goal.returns-in-Some-clause-refused
returns-in-Some-clause-refused c =
    unmodelled_refused c.args.self.now (reading_of c.args.line.now) (texts c.in-Some.opening.now) c.in_ok-unmodelled_words.field-0 (record { unindented = c.if-line-2.false; outside = c.if-line.false })
    (rw c.as_slice-words.ensures.value at c.in-Some.ensures.found) c.in_ok-unmodelled_words.ensures

pub returns-in_default-opened_command-clause-taken : goal.returns-in_default-opened_command-clause-taken
returns-in_default-opened_command-clause-taken c =
    rw c.ignore-in_default-opened_command.ensures
    (passed_over c.args.self.now (reading_of c.args.line.now) (record { unindented = c.if-line-2.false; outside = c.if-line.false })
    (rw c.as_slice-words.ensures.value at c.in_default-opened_command.ensures.none) (rw c.as_slice-words.ensures.value at c.in_default.ensures.none))

pub returns-clause-taken : goal.returns-clause-taken
returns-clause-taken c =
    on_ok_weaker c.take_command.result
    (commanded c.args.self.now c.take_command.new.self (reading_of c.args.line.now) (Rule.command c.in-Some-opened_command.command c.in-Some-opened_command.rest.now)
    (record { unindented = c.if-line-2.false; outside = c.if-line.false })
    (IsOfRule.command c.in-Some-opened_command.command c.in-Some-opened_command.rest.now (rw c.as_slice-words.ensures.value at c.in-Some-opened_command.ensures.found)))
    (rw c.as_slice-words.ensures.value at c.take_command.ensures.taken)

pub returns-clause-refused : goal.returns-clause-refused
returns-clause-refused c =
    IfErr-weaker c.take_command.result
    (IsRuleFault (Rule.command c.in-Some-opened_command.command c.in-Some-opened_command.rest.now) c.args.self.now c.args.line.now.words.items) _
    (λ fault. commanded_fault c.args.self.now (reading_of c.args.line.now) (Rule.command c.in-Some-opened_command.command c.in-Some-opened_command.rest.now) fault
    (record { unindented = c.if-line-2.false; outside = c.if-line.false })
    (IsOfRule.command c.in-Some-opened_command.command c.in-Some-opened_command.rest.now (rw c.as_slice-words.ensures.value at c.in-Some-opened_command.ensures.found)))
    (rw c.as_slice-words.ensures.value at c.take_command.ensures.refused)
