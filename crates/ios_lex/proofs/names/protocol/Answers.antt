use Rattle.std.proofs.Common.{ℕ, inl, sym, ◌∙◌}
use Rattle.ios_lex.specs.Decimal.{IsNumber}
use Rattle.ios_lex.specs.Names.{protocols, IsProtocol}
use Rattle.ios_lex.proofs.NameTables.{found_is_name, nothing_spelled}
use Rattle.ios_lex.proofs.Spellings.{protocol_names}
use Rattle.ios_lex.proofs.names.protocol.Goals as goal

pub returns-in-Some-clause-found : goal.returns-in-Some-clause-found
unfolding protocols
returns-in-Some-clause-found c = inl (found_is_name protocols c.args.word.now c.in-Some.n (sym c.named.ensures ∙ c.in-Some.is))

pub returns-in_err-number-in-None-clause-none : goal.returns-in_err-number-in-None-clause-none
unfolding protocols
returns-in_err-number-in-None-clause-none c =
    let refuted : (n : ℕ) → IsProtocol c.args.word.now n → ⊥ =
    nothing_spelled protocols (IsNumber 255) protocol_names c.args.word.now (sym c.named.ensures ∙ c.in-None.is) c.in_err-number-in-None.ensures.none in
    rw c.from_residual.ensures refuted
