-- Which numbers are numbers of a field.
use Rattle.std.specs.Prelude.{◌≡◌, ◌&&◌, ◌^◌, ℕ, Bool, nat_lt, nat_le, List, ◌∷◌, Option, Some, None, map, position, if◌then◌else◌}
use Rattle.std.specs.Option.{option_map_or, option_or}
use Rattle.std.specs.Str.{bytes_eq}
use Rattle.ios_acl.specs.declared.packet.Packet.{Packet}
use Rattle.sorted_logic.specs.declared.request.Field.{Field}
use Rattle.sorted_logic.specs.Field.{bits, packet_fields}
use Rattle.frame.specs.declared.question.Pattern.TheVariants as pattern
use Rattle.frame.specs.declared.question.Test.{Test}
use Rattle.frame.specs.Scenario.{request_of}
use Rattle.query_lang.specs.declared.literal.Literal.{Literal}
use Rattle.query_lang.specs.declared.literal.Literal.TheVariants as literal
use Rattle.list_questions.specs.declared.field_test.FieldTest.{FieldTest}
use Rattle.list_questions.specs.declared.field_test.FieldTest.TheVariants as field_test
use Rattle.list_questions.specs.declared.packet.LiteralFault.{LiteralFault}
use Rattle.list_questions.specs.declared.packet.LiteralFault.TheVariants as fault

abbrev pub is_number_of : Field → ℕ → Bool
is_number_of f number = nat_lt number (2 ^ bits f)

-- the numbers of the test are its field's, and a range does not end before it begins
abbrev pub test_fits : FieldTest → Bool
test_fits (field_test.Masked f value wildcard) = is_number_of f value && is_number_of f wildcard
test_fits (field_test.Range f lo hi) = is_number_of f lo && is_number_of f hi && nat_le lo hi

-- the number that a literal stands for; the quoted name of an interface stands for its place among the names
abbrev pub number_in : List (List ℕ) → Literal → Option ℕ
number_in names (literal.Number number) = Some number
number_in names (literal.Interface name) = position (bytes_eq name) names

abbrev pub number_fault : Field → ℕ → Option LiteralFault
number_fault f number = if is_number_of f number then None else Some fault.OutOfRange

-- why a literal is no number of the field: no interface has its name, or the number is too great
abbrev pub fault_of : List (List ℕ) → Field → Literal → Option LiteralFault
fault_of names f literal =
    option_map_or (number_fault f) (number_in names literal) (Some fault.UnknownName)

-- the first literal from the left that is no number of its field, and why
abbrev pub literal_fault : List (List ℕ) → List Field → List Literal → Option LiteralFault
literal_fault names (f ∷ fields) (l ∷ literals) =
    option_or (fault_of names f l) (literal_fault names fields literals)
literal_fault names fields literals = None

-- the literals stand for the numbers of the packet, in order
abbrev pub ArePacket : List (List ℕ) → List Literal → Packet → Type 0
ArePacket names literals packet =
    map (number_in names) literals ≡ map (λ f. Some (request_of packet f)) packet_fields

-- the same test, as a question is asked with it
abbrev pub test_of : FieldTest → Test
test_of (field_test.Masked f value wildcard) = record { field = f; pattern = pattern.Masked value wildcard }
test_of (field_test.Range f lo hi) = record { field = f; pattern = pattern.Range lo hi }
