-- One word of a line, as a kind of words: an address, a mask, a number, a name. Lines may be lax about names, and about masks.
use Rattle.std.specs.Prelude.{◌≡◌, ℕ, ◌≤◌, Bool, true, false, List, [], ◌∷◌}
use Rattle.std.specs.List.{list_any}
use Rattle.ios_lex.specs.Address.{IsAddress}
use Rattle.ios_lex.specs.Decimal.{IsNumber}
use Rattle.ios_lex.specs.ListNames.{is_name}
use Rattle.ios_lex.specs.Mask.{IsPrefixMask}
use Rattle.ios_lex.specs.Phrases.{Words}
use Rattle.ios_lex.specs.Refusal.{is_among, begins_with_digit}

abbrev pub IsAddressOf : ℕ → Words → Type 0
IsAddressOf n words = (word : List ℕ) × (words ≡ word ∷ []) × IsAddress word n

abbrev pub SomeAddress : Bool → Words → Type 0
SomeAddress lax words = (n : ℕ) × IsAddressOf n words

-- a mask of so many ones; where masks are lax, any address is one
abbrev pub IsMaskOf : Bool → ℕ → Words → Type 0
IsMaskOf lax ones words =
    (mask : ℕ) × IsAddressOf mask words × (lax ≡ false → IsPrefixMask mask ones)

abbrev pub SomeMask : Bool → Words → Type 0
SomeMask lax words = (ones : ℕ) × IsMaskOf lax ones words

-- a number from `low` to `high`
abbrev pub IsNumberOf : ℕ → ℕ → ℕ → Words → Type 0
IsNumberOf low high n words =
    (word : List ℕ) × (words ≡ word ∷ []) × IsNumber high word n × (low ≤ n)

abbrev pub SomeNumber : ℕ → ℕ → Bool → Words → Type 0
SomeNumber low high lax words = (n : ℕ) × IsNumberOf low high n words

-- a name is made of the bytes of names, and is no word of the table
abbrev pub IsNameBeside : Words → List ℕ → Type 0
IsNameBeside table word = (is_name word ≡ true) × (is_among table word ≡ false)

-- where names are lax, any word is one
abbrev pub IsNameOf : Words → Bool → List ℕ → Words → Type 0
IsNameOf table lax name words = (words ≡ name ∷ []) × (lax ≡ false → IsNameBeside table name)

abbrev pub SomeName : Words → Bool → Words → Type 0
SomeName table lax words = (name : List ℕ) × IsNameOf table lax name words

-- no more words
abbrev pub NoMore : Bool → Words → Type 0
NoMore lax words = words ≡ []

-- a grammar whose words are looked up in no table of names
abbrev pub NoName : List ℕ → Type 0
NoName word = ⊥

-- no word of the table begins with a digit
abbrev pub HasNoDigit : Words → Type 0
HasNoDigit table = list_any begins_with_digit table ≡ false
