-- The values that names and numbers spell fit their fields.
use Rattle.std.proofs.Common.{◌≡◌, inl, inr, ℕ, ◌≤◌, ◌&&◌, nat_le, Bool, true, false, cond, List, Option, Some, None, Contains, codes, refl, lit<}
use Rattle.std.specs.List.{list_all}
use Rattle.std.proofs.lemmas.Bool.{and_from, le-leb, leb-true}
use Rattle.std.proofs.lemmas.List.Elements.{All-contains}
use Rattle.std.proofs.lemmas.List.Sums.{AllPass-from_list_all}
use Rattle.ios_lex.specs.Names.{protocols, tcp_ports, udp_ports, icmp_messages, IsProtocol, IsPort, IsMessage}

in_table : {V : Type 0} (table : List (List ℕ × V)) (fits : V → Bool) (word : List ℕ) (v : V) → list_all (λ entry. fits entry.1) table ≡ true → Contains table (word, v) → fits v ≡ true
in_table table fits word v all has =
    All-contains (λ entry. fits entry.1 ≡ true) table (word, v) (AllPass-from_list_all (λ entry. fits entry.1) table all) has

protocols_fit : list_all (λ (entry : List ℕ × ℕ). nat_le entry.1 255) protocols ≡ true
unfolding protocols
protocols_fit = refl

pub protocol_fits : (word : List ℕ) (n : ℕ) → IsProtocol word n → n ≤ 255
protocol_fits word n (inl name) = leb-true n 255 (in_table protocols (λ m. nat_le m 255) word n protocols_fit name)
protocol_fits word n (inr number) = number.within

pub icmp_is_one : IsProtocol (codes "icmp") 1
unfolding protocols
icmp_is_one = inl (0, lit< tt, refl)

pub tcp_is_six : IsProtocol (codes "tcp") 6
unfolding protocols
tcp_is_six = inl (3, lit< tt, refl)

pub udp_is_seventeen : IsProtocol (codes "udp") 17
unfolding protocols
udp_is_seventeen = inl (4, lit< tt, refl)

ports_fit : (tcp : Bool) → list_all (λ (entry : List ℕ × ℕ). nat_le entry.1 65535) (cond tcp tcp_ports udp_ports) ≡ true
unfolding tcp_ports udp_ports
ports_fit true = refl
ports_fit false = refl

pub port_fits : (tcp : Bool) (word : List ℕ) (n : ℕ) → IsPort tcp word n → n ≤ 65535
port_fits tcp word n (inl name) = leb-true n 65535 (in_table (cond tcp tcp_ports udp_ports) (λ m. nat_le m 65535) word n (ports_fit tcp) name)
port_fits tcp word n (inr number) = number.within

pub is_code : Option ℕ → Bool
is_code None = true
is_code (Some n) = nat_le n 255

-- a type of 8 bits, and a code of 8 bits where there is one
abbrev pub is_message : ℕ × Option ℕ → Bool
is_message message = nat_le message.0 255 && is_code message.1

messages_fit : list_all (λ (entry : List ℕ × (ℕ × Option ℕ)). is_message entry.1) icmp_messages ≡ true
unfolding icmp_messages is_code
messages_fit = refl

no_code : (code : Option ℕ) → code ≡ None → is_code code ≡ true
unfolding is_code
no_code None is = refl
no_code (Some n) is = absurd (cc)

pub message_fits : (word : List ℕ) (message : ℕ × Option ℕ) → IsMessage word message → is_message message ≡ true
message_fits word message (inl name) = in_table icmp_messages is_message word message messages_fit name
message_fits word message (inr kind) =
    and_from (nat_le message.0 255) (is_code message.1) (le-leb message.0 255 kind.0.within) (no_code message.1 kind.1)

pub code_fits : (n : ℕ) → n ≤ 255 → is_code (Some n) ≡ true
unfolding is_code
code_fits n within = le-leb n 255 within

pub code_within : (n : ℕ) → is_code (Some n) ≡ true → n ≤ 255
unfolding is_code
code_within n fits = leb-true n 255 fits
