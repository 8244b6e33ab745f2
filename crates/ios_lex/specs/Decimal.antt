-- Decimal numbers as a configuration writes them; zeros may stand in front.
use Rattle.std.specs.Prelude.{◌≡◌, ℕ, ◌≤◌, List, length}
use Rattle.std.specs.Str.Parse.{IsNumeral, digits_value}

-- one to so many decimal digits, and their number
pub record IsDecimal (most : ℕ) (text : List ℕ) (n : ℕ) : Type 0 where
  pub digits : IsNumeral 10 text
  pub few : length text ≤ most
  pub value : n ≡ digits_value 10 text

-- a number has one to ten digits and is at most max
pub record IsNumber (max : ℕ) (text : List ℕ) (n : ℕ) : Type 0 where
  pub decimal : IsDecimal 10 text n
  pub within : n ≤ max

-- one of the four bytes of an address has one to three digits and is at most 255
pub record IsByte (text : List ℕ) (n : ℕ) : Type 0 where
  pub decimal : IsDecimal 3 text n
  pub within : n ≤ 255
