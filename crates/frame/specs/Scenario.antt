-- The first scenario of a question: the one of the least signature, and of these the one of the least values.
use Rattle.std.specs.Prelude.{◌≡◌, ◌⊎◌, ◌==◌, ◌&&◌, not, ℕ, ◌<◌, Bool, false, List, [], ◌∷◌, map}
use Rattle.std.specs.List.{filter}
use Rattle.cnf.specs.Order.{LexLe}
use Rattle.ios_acl.specs.declared.packet.Packet.{Packet}
use Rattle.sorted_logic.specs.declared.request.Field.TheVariants as field
use Rattle.sorted_logic.specs.Field.{fields, place}
use Rattle.ios_config.specs.Request.{Request}
use Rattle.frame.specs.declared.question.Pattern.{Pattern}
use Rattle.frame.specs.declared.question.Pattern.TheVariants as pattern
use Rattle.frame.specs.declared.question.Test.{Test}
use Rattle.frame.specs.Question.{Question, passes}
use Rattle.frame.specs.Solution.{Solves}

-- the same value and wildcard, or the same ends
abbrev pub same_pattern : Pattern → Pattern → Bool
same_pattern (pattern.Masked value wildcard) (pattern.Masked v w) = (value == v) && (wildcard == w)
same_pattern (pattern.Masked value wildcard) (pattern.Range low high) = false
same_pattern (pattern.Range low high) (pattern.Masked value wildcard) = false
same_pattern (pattern.Range low high) (pattern.Range l h) = (low == l) && (high == h)

abbrev pub same_test : Test → Test → Bool
same_test a b = (place a.field == place b.field) && same_pattern a.pattern b.pattern

-- the tests that are shown: one that is written twice is shown once, in its first place
abbrev pub visible : List Test → List Test
visible [] = []
visible (test ∷ tests) = test ∷ filter (λ other. not (same_test test other)) (visible tests)

-- which of the visible tests the request passes
abbrev pub signature : Question → Request → List Bool
signature question request = map (passes request) (visible question.tests)

-- the values of the fields in order
abbrev pub values : Request → List ℕ
values request = map request fields

-- in the dictionary of lists of numbers, the first list is not behind the second
abbrev pub IsNotBehind : List ℕ → List ℕ → Type 0
IsNotBehind [] ys = Unit {0}
IsNotBehind (x ∷ xs) [] = ⊥
IsNotBehind (x ∷ xs) (y ∷ ys) = (x < y) ⊎ ((x ≡ y) × IsNotBehind xs ys)

pub record IsFirst (question : Question) (request : Request) : Type 0 where
  pub solves : Solves question request
  pub least_signature : (other : Request) → Solves question other
      → LexLe (signature question request) (signature question other)
  pub least_values : (other : Request) → Solves question other
      → signature question other ≡ signature question request
      → IsNotBehind (values request) (values other)

-- the request of a packet whose other fields are 0
abbrev pub request_of : Packet → Request
request_of packet field.SrcIn = packet.src
request_of packet field.DstIn = packet.dst
request_of packet field.SportIn = packet.sport
request_of packet field.DportIn = packet.dport
request_of packet field.Proto = packet.proto
request_of packet field.Flags = packet.flags
request_of packet field.IcmpType = packet.icmp_type
request_of packet field.IcmpCode = packet.icmp_code
request_of packet field.Entry = 0
request_of packet field.SrcOut = 0
request_of packet field.DstOut = 0
request_of packet field.SportOut = 0
request_of packet field.DportOut = 0
request_of packet field.NextHop = 0
request_of packet field.Exit = 0
