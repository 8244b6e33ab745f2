-- Four bytes joined by dots, as addresses are written.
use Rattle.std.specs.Prelude.{◌≡◌, ℕ, ◌/◌, ◌%◌, ◌^◌, List, [], ◌∷◌, ◌++◌}
use Rattle.std.specs.Fmt.{decimal}
use Rattle.std.specs.Int.{w32, from_be_bytes}
use Rattle.ios_lex.specs.Cut.{IsFree}
use Rattle.ios_lex.specs.Decimal.{IsByte}

-- the four parts of a text between its first three dots, 46
pub record AreParts (text first second third fourth : List ℕ) : Type 0 where
  pub whole : text ≡ first ++ 46 ∷ (second ++ 46 ∷ (third ++ 46 ∷ fourth))
  pub first_free : IsFree 46 first
  pub second_free : IsFree 46 second
  pub third_free : IsFree 46 third

-- the text spells the number of four bytes joined by dots, the first the heaviest; which texts spell a byte is given
pub record IsDotted (Spells : List ℕ → ℕ → Type 0) (text : List ℕ) (number : ℕ) : Type 0 where
  pub first : List ℕ
  pub second : List ℕ
  pub third : List ℕ
  pub fourth : List ℕ
  pub a : ℕ
  pub b : ℕ
  pub c : ℕ
  pub d : ℕ
  pub spelled : text ≡ first ++ 46 ∷ (second ++ 46 ∷ (third ++ 46 ∷ fourth))
  pub first_byte : Spells first a
  pub second_byte : Spells second b
  pub third_byte : Spells third c
  pub fourth_byte : Spells fourth d
  pub value : number ≡ from_be_bytes w32 (a ∷ b ∷ c ∷ d ∷ [])

-- the text spells this address; each of its bytes has one to three digits
abbrev pub IsAddress : List ℕ → ℕ → Type 0
IsAddress = IsDotted IsByte

-- an address as it is written, without zeros in front
unfoldable pub dotted : ℕ → List ℕ
dotted address =
    decimal (address / 2 ^ 24)
    ++ 46 ∷ (decimal (address / 2 ^ 16 % 256)
    ++ 46 ∷ (decimal (address / 2 ^ 8 % 256)
    ++ 46 ∷ decimal (address % 256)))
