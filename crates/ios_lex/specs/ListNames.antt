-- The names of access lists, and the kinds of those that are numbers (Cisco IOS command references, `access-list` and
-- `ip access-list`).
use Rattle.std.specs.Prelude.{◌≡◌, ℕ, ◌==◌, ◌&&◌, ◌||◌, not, nat_le, Bool, true, false, List}
use Rattle.std.specs.List.{list_all}
use Rattle.ios_lex.specs.Decimal.{IsDecimal}

abbrev pub is_between : ℕ → ℕ → ℕ → Bool
is_between low high n = nat_le low n && nat_le n high

abbrev pub is_standard : ℕ → Bool
is_standard n = is_between 1 99 n || is_between 1300 1999 n

abbrev pub is_extended : ℕ → Bool
is_extended n = is_between 100 199 n || is_between 2000 2699 n

-- lists of other protocols have these numbers
abbrev pub is_foreign : ℕ → Bool
is_foreign n = is_between 200 1299 n

abbrev pub has_kind : Bool → ℕ → Bool
has_kind true n = is_extended n
has_kind false n = is_standard n

-- a number has one to ten digits
abbrev pub IsListNumber : List ℕ → ℕ → Type 0
IsListNumber word n = IsDecimal 10 word n

-- a byte from 33 to 126 but the double quote, 34
abbrev pub is_name_byte : ℕ → Bool
is_name_byte byte = is_between 33 126 byte && not (byte == 34)

-- a name is made of such bytes
abbrev pub is_name : List ℕ → Bool
is_name word = list_all is_name_byte word

-- a list of this name, which is no number of the other kind, may have this kind
abbrev pub FitsName : List ℕ → Bool → Type 0
FitsName name extended = (n : ℕ) → IsListNumber name n → has_kind (not extended) n ≡ true → ⊥
