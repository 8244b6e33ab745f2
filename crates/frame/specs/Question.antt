-- A question about an access list: which requests of a verdict pass these tests.
use Rattle.std.specs.Prelude.{ℕ, Bool, List, Contains}
use Rattle.bit_patterns.specs.Patterns.{agrees, within}
use Rattle.ios_acl.specs.declared.entry.Entry.{Entry}
use Rattle.ios_acl.specs.declared.entry.Verdict.{Verdict}
use Rattle.sorted_logic.specs.Field.{packet_fields}
use Rattle.ios_config.specs.Request.{Request}
use Rattle.frame.specs.declared.question.Pattern.{Pattern}
use Rattle.frame.specs.declared.question.Pattern.TheVariants as pattern
use Rattle.frame.specs.declared.question.Test.{Test}

-- the entries of a list, the verdict that is asked for, and tests of the fields that come in
pub record Question : Type 0 where
  pub entries : List Entry
  pub verdict : Verdict
  pub tests : List Test

-- the number differs from the value only in bits that are 1 in the wildcard; or it lies between two ends, both included
abbrev pub accepts : Pattern → ℕ → Bool
accepts (pattern.Masked value wildcard) number = agrees number value wildcard
accepts (pattern.Range low high) number = within low high number

abbrev pub passes : Request → Test → Bool
passes request test = accepts test.pattern (request test.field)

-- a test of a field of the packet that comes in
abbrev pub IsOfPacket : Test → Type 0
IsOfPacket test = Contains packet_fields test.field

abbrev pub asked : List Entry → Verdict → List Test → Question
asked entries verdict tests = record { entries = entries; verdict = verdict; tests = tests }
