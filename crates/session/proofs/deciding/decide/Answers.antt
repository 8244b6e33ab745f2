use Rattle.std.proofs.Common.{ℕ, List, [], ◌∷◌, Some, None, ◌≡◌, ◌∙◌, sym, ap, subst}
use Rattle.std.specs.String.{string_bytes}
use Rattle.std.proofs.lemmas.Result.{on_ok_weaker, IfErr-weaker}
use Rattle.ios_acl.specs.Decision.{decision}
use Rattle.sorted_logic.specs.Field.{packet_fields}
use Rattle.list_questions.specs.Ranges.{ArePacket, literal_fault}
use Rattle.mg_outside.proofs.EffectLaws.{has_read_nothing, has_written_nothing}
use Rattle.query_lang.specs.declared.script.Kind.TheVariants as kind
use Rattle.session.specs.Text.{decision_line}
use Rattle.session.specs.declared.ended.Reason.TheVariants as reason
use Rattle.session.specs.Steps.{arity, decides, literal, literal_reason, no_list, refused}
use Rattle.session.proofs.Ends.{cut_here, stops_here, wants_here}
use Rattle.session.proofs.Progress.{refusal}
use Rattle.session.proofs.deciding.decide.Goals as goal

pub returns-in_default-clause-stopped : goal.returns-in_default-clause-stopped
returns-in_default-clause-stopped g c told files =
    let script = c.args.at.now.script.now in
    let line = c.args.at.now.number in
    let none = sym (rw (c.in_default.is, c.as_slice.ensures) at c.list_at_path.ensures) in
    stops_here script told line c.args.state.now (kind.Decide c.args.path.now c.args.packet.now) files files _ _ _ _ c.refuse_line.result
    (refused _ _ _ _ (no_list c.args.path.now c.args.packet.now none) (refusal script line reason.UnknownPolicy))
    (has_read_nothing files) c.refuse_line.ensures

pub returns-then-packet-ne8-clause-stopped : goal.returns-then-packet-ne8-clause-stopped
returns-then-packet-ne8-clause-stopped g c told files =
    let script = c.args.at.now.script.now in
    let line = c.args.at.now.number in
    let named = sym (rw (c.in-Some.is, c.as_slice.ensures) at c.list_at_path.ensures) in
    stops_here script told line c.args.state.now (kind.Decide c.args.path.now c.args.packet.now) files files _ _ _ _ c.refuse_line-then-packet-ne8.result
    (refused _ _ _ _ (arity c.args.path.now c.args.packet.now c.in-Some.list.now named c.if-packet-ne8.true) (refusal script line reason.Arity))
    (has_read_nothing files) c.refuse_line-then-packet-ne8.ensures

pub returns-in-Err-clause-stopped : goal.returns-in-Err-clause-stopped
returns-in-Err-clause-stopped g c told files =
    let script = c.args.at.now.script.now in
    let line = c.args.at.now.number in
    let fault = c.in-Err.fault in
    let named = sym (rw (c.in-Some.is, c.as_slice.ensures) at c.list_at_path.ensures) in
    let wrong = subst (λ (names : List (List ℕ)). literal_fault names packet_fields c.args.packet.now ≡ Some fault) c.names.ensures c.in-Err.ensures.fault in
    let says = rw c.reason.ensures at c.refuse_line-in-Err.ensures in
    stops_here script told line c.args.state.now (kind.Decide c.args.path.now c.args.packet.now) files files _ _ _ _ c.refuse_line-in-Err.result
    (refused _ _ _ _ (literal c.args.path.now c.args.packet.now c.in-Some.list.now fault named c.if-packet-ne8.false wrong)
    (refusal script line (literal_reason fault)))
    (has_read_nothing files) says

pub returns-in_default-decision_text-clause-stopped : goal.returns-in_default-decision_text-clause-stopped
returns-in_default-decision_text-clause-stopped g c told files =
    wants_here c.args.at.now.script.now told c.args.at.now.number c.args.state.now (kind.Decide c.args.path.now c.args.packet.now) files files _ _
    (has_read_nothing files) (has_written_nothing _)

pub returns-clause-carried : goal.returns-clause-carried
returns-clause-carried g c told files =
    let named = sym (rw (c.in-Some.is, c.as_slice.ensures) at c.list_at_path.ensures) in
    let fit = subst (λ (names : List (List ℕ)). literal_fault names packet_fields c.args.packet.now ≡ None) c.names.ensures c.in-Ok.ensures.fit in
    let are = subst (λ (names : List (List ℕ)). ArePacket names c.args.packet.now c.in-Ok.packet) c.names.ensures c.in-Ok.ensures.packet in
    let carries = decides c.args.path.now c.args.packet.now c.in-Some.list.now c.in-Ok.packet named c.if-packet-ne8.false fit are in
    let is : string_bytes c.in-Ok-decision_text.text ≡ decision_line (decision c.in-Some.list.now.entries c.in-Ok.packet) =
    c.in-Ok-decision_text.ensures ∙ ap decision_line c.decide-verdict.ensures in
    on_ok_weaker c.write.result
    (λ written. record {
      pieces = string_bytes c.in-Ok-decision_text.text ∷ [];
      carries = rw is carries;
      on_files = has_read_nothing files;
      on_sink = rw c.as_bytes.ensures.value at written;
    })
    c.write.ensures.written

pub returns-clause-stopped : goal.returns-clause-stopped
returns-clause-stopped g c told files =
    let named = sym (rw (c.in-Some.is, c.as_slice.ensures) at c.list_at_path.ensures) in
    let fit = subst (λ (names : List (List ℕ)). literal_fault names packet_fields c.args.packet.now ≡ None) c.names.ensures c.in-Ok.ensures.fit in
    let are = subst (λ (names : List (List ℕ)). ArePacket names c.args.packet.now c.in-Ok.packet) c.names.ensures c.in-Ok.ensures.packet in
    let carries = decides c.args.path.now c.args.packet.now c.in-Some.list.now c.in-Ok.packet named c.if-packet-ne8.false fit are in
    let is : string_bytes c.in-Ok-decision_text.text ≡ decision_line (decision c.in-Some.list.now.entries c.in-Ok.packet) =
    c.in-Ok-decision_text.ensures ∙ ap decision_line c.decide-verdict.ensures in
    IfErr-weaker c.write.result _ _
    (λ end is_cut. cut_here c.args.at.now.script.now told c.args.at.now.number c.args.state.now (kind.Decide c.args.path.now c.args.packet.now) files files _ _
    (string_bytes c.in-Ok-decision_text.text) c.args.state.now end (rw is carries) (has_read_nothing files) is_cut)
    (rw c.as_bytes.ensures.value at c.write.ensures.cut)
