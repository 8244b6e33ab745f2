-- How a list is written: a line `ip access-list`, the kind and the name, and an indented line for each entry, its number first.
use Rattle.std.specs.Prelude.{ℕ, ◌-◌, ◌^◌, ◌==◌, ◌&&◌, Bool, true, false, List, [], ◌∷◌, ◌++◌, Option, Some, None, codes}
use Rattle.std.specs.Bool.{if◌then◌else◌}
use Rattle.std.specs.Fmt.{decimal}
use Rattle.ios_lex.specs.Address.{dotted}
use Rattle.ios_lex.specs.Phrases.{Words}
use Rattle.ios_acl.specs.declared.entry.Entry.{Entry}
use Rattle.ios_acl.specs.declared.entry.Ports.{Ports}
use Rattle.ios_acl.specs.declared.entry.Ports.TheVariants as ports
use Rattle.ios_acl.specs.Grammar.{verdict_word}
use Rattle.ios_acl.specs.List.{AccessList}
use Rattle.ios_acl.specs.Block.{kind_word}

abbrev pub place_words : ℕ × ℕ → Words
place_words place =
    if place.1 == 0 then codes "host" ∷ dotted place.0 ∷ []
    else if (place.0 == 0) && (place.1 == 2 ^ 32 - 1) then codes "any" ∷ []
    else dotted place.0 ∷ dotted place.1 ∷ []

-- the protocols that have words of their own behind them, ICMP, TCP and UDP, are named
abbrev pub proto_word : Option ℕ → List ℕ
proto_word None = codes "ip"
proto_word (Some n) =
    if n == 1 then codes "icmp"
    else if n == 6 then codes "tcp"
    else if n == 17 then codes "udp"
    else decimal n

abbrev pub range_words : ℕ → ℕ → Words
range_words low high =
    if low == high then codes "eq" ∷ decimal low ∷ []
    else codes "range" ∷ decimal low ∷ decimal high ∷ []

abbrev pub ports_words : Ports → Words
ports_words ports.Any = []
ports_words (ports.Within low high) = range_words low high
ports_words (ports.Not p) = codes "neq" ∷ decimal p ∷ []
ports_words ports.Nothing = codes "lt" ∷ decimal 0 ∷ []

abbrev pub code_words : Option ℕ → Words
code_words None = []
code_words (Some n) = decimal n ∷ []

abbrev pub message_words : Option (ℕ × Option ℕ) → Words
message_words None = []
message_words (Some message) = decimal message.0 ∷ code_words message.1

abbrev pub established_words : Bool → Words
established_words true = codes "established" ∷ []
established_words false = []

-- the words behind the verdict
abbrev pub match_words : Bool → Entry → Words
match_words true entry =
    proto_word entry.proto
    ∷ (place_words entry.src
    ++ (ports_words entry.sport
    ++ (place_words entry.dst
    ++ (ports_words entry.dport
    ++ (message_words entry.icmp
    ++ established_words entry.established)))))
match_words false entry = place_words entry.src

-- the words behind the number
abbrev pub sentence_words : Bool → Entry → Words
sentence_words extended entry = verdict_word entry.verdict ∷ match_words extended entry

abbrev pub entry_words : Bool → Entry → Words
entry_words extended entry = decimal entry.number ∷ sentence_words extended entry

-- each word behind a blank, 32
abbrev pub behind_blanks : Words → List ℕ
behind_blanks [] = []
behind_blanks (word ∷ words) = 32 ∷ (word ++ behind_blanks words)

-- a line feed, 10, ends the line
unfoldable pub opening_line : Bool → List ℕ → List ℕ
opening_line extended name =
    codes "ip" ++ (behind_blanks (codes "access-list" ∷ kind_word extended ∷ name ∷ []) ++ 10 ∷ [])

unfoldable pub entry_line : Bool → Entry → List ℕ
entry_line extended entry = behind_blanks (entry_words extended entry) ++ 10 ∷ []

-- the lines of the entries, one after another
abbrev pub entry_lines : Bool → List Entry → List ℕ
entry_lines extended [] = []
entry_lines extended (entry ∷ entries) = entry_line extended entry ++ entry_lines extended entries

-- the bytes of a list as it is written
unfoldable pub block_text : AccessList → List ℕ
block_text list = opening_line list.extended list.name ++ entry_lines list.extended list.entries
