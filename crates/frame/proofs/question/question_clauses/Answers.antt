use Rattle.std.proofs.lemmas.Result.{IfOk-weaker}
use Rattle.frame.proofs.MissedEntries.{means_same}
use Rattle.frame.proofs.Scenarios.{answers, first_request, packet_answers}
use Rattle.frame.proofs.question.question_clauses.Goals as goal

pub clauses-requires : goal.clauses-requires
clauses-requires c = (c.in_ok-root.ensures _ c.in_ok-decided.ensures.means).means.within

pub returns : goal.returns
returns c =
    let entries = c.args.entries.now in
    let tests = c.args.tests.now in
    let verdict = c.args.verdict in
    let means =
    means_same _ _ c.as_slice.result.now entries verdict tests (λ packet passed. rw c.as_slice.ensures.value (c.in_ok-kept.ensures packet passed)) (c.in_ok-root.ensures _ c.in_ok-decided.ensures.means).means in
    IfOk-weaker c.clauses.result _ _
    (λ clauses ask. record {
      bits = ask.bits;
      first = λ values packet least is. first_request entries verdict tests packet c.requires (ask.first (answers entries verdict tests) values packet means least is);
      none = λ no request solves. ask.none (answers entries verdict tests) solves.packet means no (packet_answers entries verdict tests request c.requires solves);
    })
    c.clauses.ensures
