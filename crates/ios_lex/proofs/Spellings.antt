-- What names and numbers spell.
use Rattle.std.proofs.Common.{◌≡◌, ℕ, Bool, true, false, cond, List, Option, refl}
use Rattle.ios_lex.specs.Decimal.{IsNumber}
use Rattle.ios_lex.specs.Names.{protocols, tcp_ports, udp_ports, icmp_messages, IsProtocol, IsPort, IsType, IsMessage}
use Rattle.ios_lex.proofs.DecimalTexts.{decimal_is_one}
use Rattle.ios_lex.proofs.NameTables.{begins_apart, IsNameTable, spelled_is_one}

pub number_is_one : (most : ℕ) (word : List ℕ) (m n : ℕ) → IsNumber most word m → IsNumber most word n → m ≡ n
number_is_one most word m n first second = decimal_is_one 10 word m n first.decimal second.decimal

pub protocol_names : IsNameTable protocols
unfolding begins_apart protocols
protocol_names = record { differ = refl; begin_apart = refl }

pub port_names : (tcp : Bool) → IsNameTable (cond tcp tcp_ports udp_ports)
unfolding begins_apart tcp_ports udp_ports
port_names true = record { differ = refl; begin_apart = refl }
port_names false = record { differ = refl; begin_apart = refl }

pub message_names : IsNameTable icmp_messages
unfolding begins_apart icmp_messages
message_names = record { differ = refl; begin_apart = refl }

pub protocol_is_one : (word : List ℕ) (m n : ℕ) → IsProtocol word m → IsProtocol word n → m ≡ n
protocol_is_one = spelled_is_one protocols (IsNumber 255) protocol_names (λ word n number. number.decimal.digits) (number_is_one 255)

pub port_is_one : (tcp : Bool) (word : List ℕ) (m n : ℕ) → IsPort tcp word m → IsPort tcp word n → m ≡ n
port_is_one tcp =
    spelled_is_one (cond tcp tcp_ports udp_ports) (IsNumber 65535) (port_names tcp) (λ word n number. number.decimal.digits) (number_is_one 65535)

type_is_one : (word : List ℕ) (m n : ℕ × Option ℕ) → IsType word m → IsType word n → m ≡ n
type_is_one word (m, code) (n, code') first second = let same = number_is_one 255 word m n first.0 second.0 in cc

pub message_is_one : (word : List ℕ) (m n : ℕ × Option ℕ) → IsMessage word m → IsMessage word n → m ≡ n
message_is_one =
    spelled_is_one icmp_messages IsType message_names (λ word message number. number.0.decimal.digits) type_is_one
