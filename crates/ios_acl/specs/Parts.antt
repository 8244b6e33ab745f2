-- The parts of a line as kinds of words, whatever their values. Private calls are stated by them, and no public one.
use Rattle.std.specs.Prelude.{◌≡◌, ◌⊎◌, ℕ, ◌≤◌, Bool, true, false, ◌||◌, ◌&&◌, List, [], ◌∷◌, Option, Some, None, codes}
use Rattle.std.specs.Str.{bytes_eq}
use Rattle.ios_lex.specs.Decimal.{IsNumber}
use Rattle.ios_lex.specs.Names.{IsPort}
use Rattle.ios_lex.specs.NextWords.{IsAddressOf}
use Rattle.ios_lex.specs.Phrases.{Words, Then}
use Rattle.ios_acl.specs.declared.entry.Entry.{Entry}
use Rattle.ios_acl.specs.declared.entry.Ports.{Ports}
use Rattle.ios_acl.specs.Grammar.{IsPlace, IsSource, IsProto, ArePorts, ArePortsOf, AreMessagesOf, IsEstablishedOf, IsLog, IsExtended, with_ports}

abbrev pub SomePlace : Bool → Words → Type 0
SomePlace backward words = (place : ℕ × ℕ) × IsPlace place words

abbrev pub SomeProto : Bool → Words → Type 0
SomeProto backward words = (proto : Option ℕ) × IsProto proto words

abbrev pub IsPortOf : Bool → ℕ → Words → Type 0
IsPortOf tcp n words = (word : List ℕ) × (words ≡ word ∷ []) × IsPort tcp word n

abbrev pub SomePort : Bool → Bool → Words → Type 0
SomePort tcp backward words = (n : ℕ) × IsPortOf tcp n words

-- a port that is not before the first of a range
abbrev pub SomePortFrom : Bool → ℕ → Bool → Words → Type 0
SomePortFrom tcp first backward words =
    (n : ℕ) × IsPortOf tcp n words × (backward ≡ false → first ≤ n)

abbrev pub SomePorts : Bool → Bool → Words → Type 0
SomePorts tcp backward words = (tested : Ports) × ArePorts backward tcp tested words

-- what may stand behind the destination
abbrev pub IsEnd : Bool → Option ℕ → Ports → Option (ℕ × Option ℕ) → Bool → Words → Type 0
IsEnd backward proto tested icmp established =
    Then (ArePortsOf backward proto tested) (
    Then (AreMessagesOf proto icmp) (
    Then (IsEstablishedOf proto established) (
    IsLog true)))

abbrev pub SomeEnd : Option ℕ → Bool → Words → Type 0
SomeEnd proto backward words =
    (tested : Ports) × (icmp : Option (ℕ × Option ℕ)) × (established : Bool)
    × IsEnd backward proto tested icmp established words

-- a type or a name, or a type and a code, or nothing; and then perhaps a word on logging
abbrev pub IsMessageEnd : Option (ℕ × Option ℕ) → Words → Type 0
IsMessageEnd icmp = Then (AreMessagesOf (Some 1) icmp) (IsLog true)

abbrev pub SomeMessageEnd : Bool → Words → Type 0
SomeMessageEnd backward words = (icmp : Option (ℕ × Option ℕ)) × IsMessageEnd icmp words

-- what may stand behind the type of an ICMP message
abbrev pub IsCodeOf : Option ℕ → Words → Type 0
IsCodeOf None words = words ≡ []
IsCodeOf (Some n) words = (word : List ℕ) × (words ≡ word ∷ []) × IsNumber 255 word n

abbrev pub IsCodeEnd : Option ℕ → Words → Type 0
IsCodeEnd code = Then (IsCodeOf code) (IsLog true)

abbrev pub SomeCodeEnd : Bool → Words → Type 0
SomeCodeEnd backward words = (code : Option ℕ) × IsCodeEnd code words

abbrev pub IsConnectionEnd : Bool → Words → Type 0
IsConnectionEnd established = Then (IsEstablishedOf (Some 6) established) (IsLog true)

abbrev pub SomeConnectionEnd : Bool → Words → Type 0
SomeConnectionEnd backward words = (established : Bool) × IsConnectionEnd established words

abbrev pub SomeLog : Bool → Bool → Words → Type 0
SomeLog extended backward words = IsLog extended words

-- an address is a host unless a wildcard stands behind it
abbrev pub IsWildcardOf : ℕ → Words → Type 0
IsWildcardOf wildcard words = ((words ≡ []) × (wildcard ≡ 0)) ⊎ IsAddressOf wildcard words

abbrev pub IsWildcardEnd : ℕ → Words → Type 0
IsWildcardEnd wildcard = Then (IsWildcardOf wildcard) (IsLog false)

abbrev pub SomeWildcardEnd : Bool → Words → Type 0
SomeWildcardEnd backward words = (wildcard : ℕ) × IsWildcardEnd wildcard words

abbrev pub IsSourceEnd : ℕ × ℕ → Words → Type 0
IsSourceEnd source = Then (IsSource source) (IsLog false)

abbrev pub SomeSourceEnd : Bool → Words → Type 0
SomeSourceEnd backward words = (source : ℕ × ℕ) × IsSourceEnd source words

-- the rest of an entry of an extended list behind its verdict
abbrev pub SomeExtended : Bool → Words → Type 0
SomeExtended backward words = (entry : Entry) × IsExtended backward entry words

-- the words that begin a test of ports
abbrev pub port_words : Words
port_words = codes "eq" ∷ codes "neq" ∷ codes "lt" ∷ codes "gt" ∷ codes "range" ∷ []

abbrev pub is_log_word : Bool → List ℕ → Bool
is_log_word extended word =
    bytes_eq word (codes "log") || (extended && bytes_eq word (codes "log-input"))

-- nothing stands there, or a word on logging
abbrev pub is_log_next : Words → Bool
is_log_next [] = true
is_log_next (word ∷ words) = is_log_word true word

-- a test of ports, where the protocol has any
abbrev pub SomePortsOf : Option ℕ → Bool → Words → Type 0
SomePortsOf proto backward words =
    (tcp : Bool) × (proto ≡ with_ports tcp) × SomePorts tcp backward words
