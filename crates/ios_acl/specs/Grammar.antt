-- What the words of a line of an access list spell (Cisco IOS command references, `access-list` and `ip access-list`).
use Rattle.std.specs.Prelude.{◌≡◌, ℕ, ◌+◌, ◌-◌, ◌^◌, ◌≤◌, ◌==◌, Bool, true, false, List, [], ◌∷◌, Option, Some, None, codes}
use Rattle.std.specs.Bool.{if◌then◌else◌}
use Rattle.ios_lex.specs.Address.{IsAddress}
use Rattle.ios_lex.specs.Decimal.{IsNumber}
use Rattle.ios_lex.specs.Names.{IsProtocol, IsPort, IsMessage}
use Rattle.ios_lex.specs.Phrases.{Words, Then}
use Rattle.ios_acl.specs.declared.entry.Entry.{Entry}
use Rattle.ios_acl.specs.declared.entry.Ports.{Ports}
use Rattle.ios_acl.specs.declared.entry.Ports.TheVariants as ports
use Rattle.ios_acl.specs.declared.entry.Verdict.{Verdict}
use Rattle.ios_acl.specs.declared.entry.Verdict.TheVariants as verdict

abbrev pub verdict_word : Verdict → List ℕ
verdict_word verdict.Permit = codes "permit"
verdict_word verdict.Deny = codes "deny"

abbrev pub IsVerdict : Verdict → Words → Type 0
IsVerdict verdict words = words ≡ verdict_word verdict ∷ []

-- the addresses that differ from this one only in bits of the wildcard: all, one, or some. `any` and `host` are no
-- addresses, so the first word says which
pub data IsPlace (place : ℕ × ℕ) (words : Words) : Type 0 where
  any : words ≡ codes "any" ∷ [] → place ≡ (0, 2 ^ 32 - 1) → IsPlace place words
  host : (word : List ℕ) → words ≡ codes "host" ∷ word ∷ [] → IsAddress word place.0 → place.1 ≡ 0
      → IsPlace place words
  some : (word other : List ℕ) → words ≡ word ∷ other ∷ [] → IsAddress word place.0
      → IsAddress other place.1 → IsPlace place words

-- in a standard list an address alone is a host too
pub data IsSource (place : ℕ × ℕ) (words : Words) : Type 0 where
  place : IsPlace place words → IsSource place words
  single : (word : List ℕ) → words ≡ word ∷ [] → IsAddress word place.0 → place.1 ≡ 0
      → IsSource place words

-- `ip` is every protocol
pub data IsProto (proto : Option ℕ) (words : Words) : Type 0 where
  every : words ≡ codes "ip" ∷ [] → proto ≡ None → IsProto proto words
  one : (word : List ℕ) (n : ℕ) → words ≡ word ∷ [] → IsProtocol word n → proto ≡ Some n
      → IsProto proto words

-- the ports before this one
abbrev pub ports_below : ℕ → Ports
ports_below port = if port == 0 then ports.Nothing else ports.Within 0 (port - 1)

-- the ports behind this one
abbrev pub ports_above : ℕ → Ports
ports_above port = if port == 65535 then ports.Nothing else ports.Within (port + 1) 65535

-- a test of ports. A range ends where it begins or behind, unless it may be backward
pub data ArePorts (backward tcp : Bool) (tested : Ports) (words : Words) : Type 0 where
  eq : (word : List ℕ) (p : ℕ) → words ≡ codes "eq" ∷ word ∷ [] → IsPort tcp word p
      → tested ≡ ports.Within p p → ArePorts backward tcp tested words
  neq : (word : List ℕ) (p : ℕ) → words ≡ codes "neq" ∷ word ∷ [] → IsPort tcp word p
      → tested ≡ ports.Not p → ArePorts backward tcp tested words
  lt : (word : List ℕ) (p : ℕ) → words ≡ codes "lt" ∷ word ∷ [] → IsPort tcp word p
      → tested ≡ ports_below p → ArePorts backward tcp tested words
  gt : (word : List ℕ) (p : ℕ) → words ≡ codes "gt" ∷ word ∷ [] → IsPort tcp word p
      → tested ≡ ports_above p → ArePorts backward tcp tested words
  range : (word other : List ℕ) (p q : ℕ) → words ≡ codes "range" ∷ word ∷ other ∷ []
      → IsPort tcp word p → IsPort tcp other q → (backward ≡ false → p ≤ q)
      → tested ≡ ports.Within p q → ArePorts backward tcp tested words

-- the number of TCP is 6, that of UDP 17
abbrev pub with_ports : Bool → Option ℕ
with_ports tcp = Some (if tcp then 6 else 17)

-- TCP and UDP have ports, and a test of them may be left out
pub data ArePortsOf (backward : Bool) (proto : Option ℕ) (tested : Ports)
    (words : Words) : Type 0 where
  none : words ≡ [] → tested ≡ ports.Any → ArePortsOf backward proto tested words
  test : (tcp : Bool) → proto ≡ with_ports tcp → ArePorts backward tcp tested words
      → ArePortsOf backward proto tested words

-- a type or a name, or a type and a code
pub data AreMessages (message : ℕ × Option ℕ) (words : Words) : Type 0 where
  one : (word : List ℕ) → words ≡ word ∷ [] → IsMessage word message → AreMessages message words
  code : (word other : List ℕ) (n : ℕ) → words ≡ word ∷ other ∷ [] → IsNumber 255 word message.0
      → IsNumber 255 other n → message.1 ≡ Some n → AreMessages message words

-- ICMP, protocol 1, has messages, and they may be left out
pub data AreMessagesOf (proto : Option ℕ) (icmp : Option (ℕ × Option ℕ))
    (words : Words) : Type 0 where
  none : words ≡ [] → icmp ≡ None → AreMessagesOf proto icmp words
  some : (message : ℕ × Option ℕ) → proto ≡ Some 1 → AreMessages message words → icmp ≡ Some message
      → AreMessagesOf proto icmp words

-- TCP has connections, and that they are established may be left out
pub data IsEstablishedOf (proto : Option ℕ) (established : Bool) (words : Words) : Type 0 where
  none : words ≡ [] → established ≡ false → IsEstablishedOf proto established words
  some : proto ≡ Some 6 → words ≡ codes "established" ∷ [] → established ≡ true
      → IsEstablishedOf proto established words

-- a word on logging, without effect on what matches, may be left out
pub data IsLog (extended : Bool) (words : Words) : Type 0 where
  none : words ≡ [] → IsLog extended words
  log : words ≡ codes "log" ∷ [] → IsLog extended words
  input : extended ≡ true → words ≡ codes "log-input" ∷ [] → IsLog extended words

-- an entry of a standard list looks at the source alone
pub record IsStandard (entry : Entry) (words : Words) : Type 0 where
  pub source : Then (IsSource entry.src) (IsLog false) words
  pub proto : entry.proto ≡ None
  pub dst : entry.dst ≡ (0, 2 ^ 32 - 1)
  pub sport : entry.sport ≡ ports.Any
  pub dport : entry.dport ≡ ports.Any
  pub icmp : entry.icmp ≡ None
  pub established : entry.established ≡ false

-- what may stand in an entry of an extended list behind its protocol
abbrev pub IsBehindProto : Bool → Entry → Words → Type 0
IsBehindProto backward entry =
    Then (IsPlace entry.src) (
    Then (ArePortsOf backward entry.proto entry.sport) (
    Then (IsPlace entry.dst) (
    Then (ArePortsOf backward entry.proto entry.dport) (
    Then (AreMessagesOf entry.proto entry.icmp) (
    Then (IsEstablishedOf entry.proto entry.established) (
    IsLog true))))))

abbrev pub IsExtended : Bool → Entry → Words → Type 0
IsExtended backward entry = Then (IsProto entry.proto) (IsBehindProto backward entry)

-- the words spell this entry, whatever its number
abbrev pub IsEntry : Bool → Bool → Entry → Words → Type 0
IsEntry true backward entry = Then (IsVerdict entry.verdict) (IsExtended backward entry)
IsEntry false backward entry = Then (IsVerdict entry.verdict) (IsStandard entry)

-- words of a remark, of which none has a meaning
pub record IsRemark (words : Words) : Type 0 where
  pub text : Words
  pub whole : words ≡ codes "remark" ∷ text

-- what stands on a line behind its number: an entry, or a remark, which is none
pub data IsSentence (extended backward : Bool) (words : Words) : Option Entry → Type 0 where
  entry : (entry : Entry) → IsEntry extended backward entry words
      → IsSentence extended backward words (Some entry)
  remark : IsRemark words → IsSentence extended backward words None
