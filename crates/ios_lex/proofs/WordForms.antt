-- Words of one form are no words of another: keywords, names, numbers and addresses.
use Rattle.std.proofs.Common.{◌≡◌, ◌⊎◌, inl, inr, ℕ, Bool, true, false, cond, List, [], ◌∷◌, ◌++◌, Option, None, Contains, refl, codes, arith}
use Rattle.std.specs.Map.{lookup}
use Rattle.std.specs.Str.{bytes_eq}
use Rattle.std.specs.Str.Parse.{IsNumeral}
use Rattle.std.proofs.lemmas.List.{append-nil}
use Rattle.std.proofs.lemmas.Bool.{iff_false}
use Rattle.std.proofs.lemmas.Bool.Decides.{nat_tests}
use Rattle.std.proofs.lemmas.List.Elements.{All-contains}
use Rattle.std.proofs.lemmas.List.Sums.{AllPass-from_list_all}
use Rattle.std.proofs.lemmas.Slice.Eq.{bytes_eq-Decides}
use Rattle.ios_lex.specs.Address.{IsAddress}
use Rattle.ios_lex.specs.Decimal.{IsByte, IsNumber}
use Rattle.ios_lex.specs.Names.{protocols, tcp_ports, udp_ports, IsProtocol, IsPort, IsType, IsMessage, icmp_messages, IsMessageName}
use Rattle.ios_lex.specs.Following.{IsNumberWord}
use Rattle.ios_lex.specs.Refusal.{begins_with_digit}
use Rattle.ios_lex.proofs.AddressParts.{no_address}
use Rattle.ios_lex.proofs.Cuts.{digits_are_free}
use Rattle.ios_lex.proofs.NameTables.{begins_apart, IsNameTable, nothing_spelled}
use Rattle.ios_lex.proofs.Spellings.{protocol_names, port_names, message_names}

-- words that a test tells apart; of two keywords it is `refl`
pub words_differ : (word other : List ℕ) → bytes_eq word other ≡ false → word ≡ other → ⊥
words_differ word other differ same = iff_false (bytes_eq-Decides word other) differ same

-- a word that begins with a numeral begins with a digit
front_digit : (front rest : List ℕ) → IsNumeral 10 front → begins_with_digit (front ++ rest) ≡ true
front_digit [] rest numeral = absurd (omega (arith, numeral.0))
front_digit (x ∷ xs) rest numeral = let digit = numeral.1.0 in grind (arith, nat_tests)

pub address_digit : (word : List ℕ) (n : ℕ) → IsAddress word n → begins_with_digit word ≡ true
address_digit word n is = rw is.spelled (front_digit is.first _ is.first_byte.decimal.digits)

pub numeral_digit : (word : List ℕ) → IsNumberWord word → begins_with_digit word ≡ true
numeral_digit word is = rw append-nil at (front_digit word [] is)

pub number_word : (max : ℕ) (word : List ℕ) (n : ℕ) → IsNumber max word n → IsNumberWord word
number_word max word n is = is.decimal.digits

pub no_number_address : (word : List ℕ) (n : ℕ) → IsNumberWord word → IsAddress word n → ⊥
no_number_address word n number is = no_address word (digits_are_free 46 (omega arith) word number.1) n is

-- no name of a table begins with a digit
apart_no_digit : (word : List ℕ) → begins_apart word ≡ true → begins_with_digit word ≡ false
unfolding begins_apart
apart_no_digit [] apart = refl
apart_no_digit (x ∷ xs) apart = grind (arith, nat_tests)

name_no_digit : {V : Type 0} (table : List (List ℕ × V)) → IsNameTable table → (word : List ℕ) (v : V) → Contains table (word, v) → begins_with_digit word ≡ false
name_no_digit table names word v has =
    apart_no_digit word (All-contains (λ entry. begins_apart entry.0 ≡ true) table (word, v) (AllPass-from_list_all (λ entry. begins_apart entry.0) table names.begin_apart) has)

-- a word that begins with a digit and is a protocol, a port or a message is a number
pub protocol_form : (word : List ℕ) (n : ℕ) → IsProtocol word n → (begins_with_digit word ≡ false) ⊎ IsNumber 255 word n
protocol_form word n (inl name) = inl (name_no_digit protocols protocol_names word n name)
protocol_form word n (inr number) = inr number

pub port_form : (tcp : Bool) (word : List ℕ) (n : ℕ) → IsPort tcp word n → (begins_with_digit word ≡ false) ⊎ IsNumber 65535 word n
port_form tcp word n (inl name) = inl (name_no_digit (cond tcp tcp_ports udp_ports) (port_names tcp) word n name)
port_form tcp word n (inr number) = inr number

pub message_form : (word : List ℕ) (message : ℕ × Option ℕ) → IsMessage word message → (begins_with_digit word ≡ false) ⊎ IsNumber 255 word message.0
message_form word message (inl name) = inl (name_no_digit icmp_messages message_names word message name)
message_form word message (inr number) = inr number.0

pub message_name_form : (word : List ℕ) → IsMessageName word → begins_with_digit word ≡ false
message_name_form word is = name_no_digit icmp_messages message_names word is.0 is.1

-- a word that begins with no digit is no number, and no address
pub other_no_number : (word : List ℕ) → begins_with_digit word ≡ false → IsNumberWord word → ⊥
other_no_number word other number = let digit = numeral_digit word number in absurd (cc)

pub other_no_address : (word : List ℕ) (n : ℕ) → begins_with_digit word ≡ false → IsAddress word n → ⊥
other_no_address word n other address = let digit = address_digit word n address in absurd (cc)

-- a word that is a number or begins with no digit is no address
no_address_form : (max : ℕ) (word : List ℕ) (m n : ℕ) → IsAddress word m → (begins_with_digit word ≡ false) ⊎ IsNumber max word n → ⊥
no_address_form max word m n address (inl other) = other_no_address word m other address
no_address_form max word m n address (inr number) = no_number_address word m (number_word max word n number) address

-- an address is no protocol, no port and no message
pub no_address_protocol : (word : List ℕ) (m n : ℕ) → IsAddress word m → IsProtocol word n → ⊥
no_address_protocol word m n address is = no_address_form 255 word m n address (protocol_form word n is)

pub no_address_port : (tcp : Bool) (word : List ℕ) (m n : ℕ) → IsAddress word m → IsPort tcp word n → ⊥
no_address_port tcp word m n address is = no_address_form 65535 word m n address (port_form tcp word n is)

pub no_address_message : (word : List ℕ) (m : ℕ) (message : ℕ × Option ℕ) → IsAddress word m → IsMessage word message → ⊥
no_address_message word m message address is = no_address_form 255 word m message.0 address (message_form word message is)

-- a word that the table lacks, and that begins with no digit, is no message
no_message : (word : List ℕ) → lookup (bytes_eq word) icmp_messages ≡ None → begins_with_digit word ≡ false → (message : ℕ × Option ℕ) → IsMessage word message → ⊥
no_message word absent other =
    nothing_spelled icmp_messages IsType message_names word absent (λ message number. other_no_number word other (number_word 255 word message.0 number.0))

pub log_no_message : (message : ℕ × Option ℕ) → IsMessage (codes "log") message → ⊥
unfolding icmp_messages
log_no_message = no_message (codes "log") refl refl

pub log_input_no_message : (message : ℕ × Option ℕ) → IsMessage (codes "log-input") message → ⊥
unfolding icmp_messages
log_input_no_message = no_message (codes "log-input") refl refl

pub no_ip_protocol : (n : ℕ) → IsProtocol (codes "ip") n → ⊥
unfolding protocols
no_ip_protocol = nothing_spelled protocols (IsNumber 255) protocol_names (codes "ip") refl
    (λ n number. other_no_number (codes "ip") refl (number_word 255 (codes "ip") n number))

-- some word spells an address, and some word a number
zero_byte : IsByte (codes "0") 0
zero_byte = record { decimal = record { digits = (omega arith, (omega arith, tt)); few = omega arith; value = refl }; within = omega arith }

pub zero_address : IsAddress (codes "0.0.0.0") 0
zero_address = record {
  first = codes "0";
  second = codes "0";
  third = codes "0";
  fourth = codes "0";
  a = 0;
  b = 0;
  c = 0;
  d = 0;
  spelled = refl;
  first_byte = zero_byte;
  second_byte = zero_byte;
  third_byte = zero_byte;
  fourth_byte = zero_byte;
  value = refl;
}

pub zero_number : (max : ℕ) → IsNumber max (codes "0") 0
zero_number max = record { decimal = record { digits = (omega arith, (omega arith, tt)); few = omega arith; value = refl }; within = omega arith }
