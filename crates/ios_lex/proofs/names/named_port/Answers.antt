use Rattle.ios_lex.specs.Names.{tcp_ports, udp_ports}
use Rattle.ios_lex.proofs.names.named_port.Goals as goal

pub returns-then-tcp : goal.returns-then-tcp
unfolding tcp_ports
returns-then-tcp c = rw c.if-tcp.true c.named.ensures

pub returns-else-tcp : goal.returns-else-tcp
unfolding udp_ports
returns-else-tcp c = rw c.if-tcp.false c.named-else-tcp.ensures
