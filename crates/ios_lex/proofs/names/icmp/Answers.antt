use Rattle.std.proofs.Common.{ℕ, inl, Option, sym, ◌∙◌}
use Rattle.ios_lex.specs.Names.{icmp_messages, IsMessage, IsType}
use Rattle.ios_lex.proofs.NameTables.{found_is_name, nothing_spelled}
use Rattle.ios_lex.proofs.Spellings.{message_names}
use Rattle.ios_lex.proofs.names.icmp.Goals as goal

pub returns-in-Some-clause-found : goal.returns-in-Some-clause-found
unfolding icmp_messages
returns-in-Some-clause-found c = inl (found_is_name icmp_messages c.args.word.now c.in-Some.message (sym c.named.ensures ∙ c.in-Some.is))

pub returns-in_err-number-in-None-clause-none : goal.returns-in_err-number-in-None-clause-none
unfolding icmp_messages
returns-in_err-number-in-None-clause-none c =
    let refuted : (message : ℕ × Option ℕ) → IsMessage c.args.word.now message → ⊥ =
    nothing_spelled icmp_messages IsType message_names c.args.word.now (sym c.named.ensures ∙ c.in-None.is)
    (λ message number. c.in_err-number-in-None.ensures.none message.0 number.0) in
    rw c.from_residual.ensures refuted
