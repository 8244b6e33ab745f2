-- Addresses as they are written.
use Rattle.std.proofs.Common.{ℕ, ◌/◌, ◌%◌, ◌^◌, ◌<◌, List, refl, arith}
use Rattle.std.specs.Fmt.{decimal}
use Rattle.ios_lex.specs.Address.{IsAddress, dotted}
use Rattle.ios_lex.proofs.DecimalTexts.{decimal_byte}

-- an address is spelled by its four bytes
pub dotted_address : (n : ℕ) → n < 2 ^ 32 → IsAddress (dotted n) n
unfolding dotted
dotted_address n small = record {
  first = decimal (n / 2 ^ 24);
  second = decimal (n / 2 ^ 16 % 256);
  third = decimal (n / 2 ^ 8 % 256);
  fourth = decimal (n % 256);
  a = n / 2 ^ 24;
  b = n / 2 ^ 16 % 256;
  c = n / 2 ^ 8 % 256;
  d = n % 256;
  spelled = refl;
  first_byte = decimal_byte (n / 2 ^ 24) (omega arith);
  second_byte = decimal_byte (n / 2 ^ 16 % 256) (omega arith);
  third_byte = decimal_byte (n / 2 ^ 8 % 256) (omega arith);
  fourth_byte = decimal_byte (n % 256) (omega arith);
  value = omega arith;
}

-- and each address is less than 2 ^ 32
pub address_small : (word : List ℕ) (n : ℕ) → IsAddress word n → n < 2 ^ 32
address_small word n is = omega (arith, is.value, is.first_byte.within, is.second_byte.within, is.third_byte.within, is.fourth_byte.within)
