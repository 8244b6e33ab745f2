-- How the values of fields are written, and the patterns that tests ask of them.
use Rattle.std.specs.Prelude.{ℕ, Bool, true, false, List, ◌==◌, ◌++◌, codes, slice_get}
use Rattle.std.specs.Bool.{if◌then◌else◌}
use Rattle.std.specs.Fmt.{decimal}
use Rattle.std.specs.Option.{option_map_or}
use Rattle.sorted_logic.specs.declared.request.Field.{Field}
use Rattle.sorted_logic.specs.declared.request.Field.TheVariants as field
use Rattle.ios_lex.specs.Address.{dotted}
use Rattle.frame.specs.declared.question.Pattern.{Pattern}
use Rattle.frame.specs.declared.question.Pattern.TheVariants as pattern

-- whether the values of a field are addresses: the source, the destination and the next hop
abbrev pub is_address : Field → Bool
is_address field.SrcIn = true
is_address field.DstIn = true
is_address field.SrcOut = true
is_address field.DstOut = true
is_address field.NextHop = true
is_address other = false

-- a value as its field is written: an address with dots, and any other as a number
abbrev pub shown : Field → ℕ → List ℕ
shown f value = if is_address f then dotted value else decimal value

-- whether the values of a field are the numbers of interfaces
abbrev pub is_interface : Field → Bool
is_interface field.Entry = true
is_interface field.Exit = true
is_interface other = false

-- a name of an interface between quotes
abbrev pub quoted : List ℕ → List ℕ
quoted name = codes "\"" ++ (name ++ codes "\"")

-- the interface of a number: the quoted name at this place among the names, or the number where there is none
abbrev pub interface_text : List (List ℕ) → ℕ → List ℕ
interface_text names number = option_map_or quoted (slice_get names number) (decimal number)

-- the value of a field, where these names of interfaces are known
abbrev pub value_text : List (List ℕ) → Field → ℕ → List ℕ
value_text names f value = if is_interface f then interface_text names value else shown f value

-- the numbers of a pattern as its field is written: a value and a wildcard, one number, or the ends of a range
abbrev pub pattern_text : Field → Pattern → List ℕ
pattern_text f (pattern.Masked value wildcard) = shown f value ++ (codes " " ++ shown f wildcard)
pattern_text f (pattern.Range low high) = if low == high then shown f low else shown f low ++ (codes " TO " ++ shown f high)
