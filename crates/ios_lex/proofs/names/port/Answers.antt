use Rattle.std.proofs.Common.{ℕ, inl, cond, sym, ◌∙◌}
use Rattle.ios_lex.specs.Decimal.{IsNumber}
use Rattle.ios_lex.specs.Names.{tcp_ports, udp_ports, IsPort}
use Rattle.ios_lex.proofs.NameTables.{found_is_name, nothing_spelled}
use Rattle.ios_lex.proofs.Spellings.{port_names}
use Rattle.ios_lex.proofs.names.port.Goals as goal

pub returns-in-Some-clause-found : goal.returns-in-Some-clause-found
returns-in-Some-clause-found c =
    inl (found_is_name (cond c.args.tcp tcp_ports udp_ports) c.args.word.now c.in-Some.n (sym c.named_port.ensures ∙ c.in-Some.is))

pub returns-in_err-number-in-None-clause-none : goal.returns-in_err-number-in-None-clause-none
returns-in_err-number-in-None-clause-none c =
    let refuted : (n : ℕ) → IsPort c.args.tcp c.args.word.now n → ⊥ =
    nothing_spelled (cond c.args.tcp tcp_ports udp_ports) (IsNumber 65535) (port_names c.args.tcp) c.args.word.now (sym c.named_port.ensures ∙ c.in-None.is) c.in_err-number-in-None.ensures.none in
    rw c.from_residual.ensures refuted
