-- Why a line of a list is refused at a word (Cisco IOS command references: what is read, and what is not modelled).
use Rattle.std.specs.Prelude.{ℕ, Bool, List, [], ◌∷◌, Option, Some, None, codes, length}
use Rattle.ios_lex.specs.declared.reason.IosReason.{IosReason}
use Rattle.ios_lex.specs.declared.reason.IosReason.TheVariants as reason
use Rattle.ios_lex.specs.Phrases.{Words}
use Rattle.ios_lex.specs.Following.{Expected}
use Rattle.ios_lex.specs.Refusal.{reason_of, table_at}

-- words that narrow what an entry matches in a way that is not modelled
abbrev pub unmodelled : Words
unmodelled =
    codes "evaluate" ∷ codes "reflect" ∷ codes "time-range" ∷ codes "object-group"
    ∷ codes "fragments" ∷ codes "dscp" ∷ codes "tos" ∷ codes "precedence" ∷ codes "option"
    ∷ codes "ttl" ∷ codes "ack" ∷ codes "fin" ∷ codes "psh" ∷ codes "rst" ∷ codes "syn"
    ∷ codes "urg" ∷ codes "match-all" ∷ codes "match-any" ∷ []

-- words that are not modelled as the first of a line
abbrev pub unmodelled_first : Words
unmodelled_first = codes "evaluate" ∷ codes "dynamic" ∷ []

-- behind a number the first word is one as the others
abbrev pub from_word : Option ℕ → ℕ
from_word None = 1
from_word (Some n) = 0

-- the words that are not modelled at a place behind this number, or behind none
abbrev pub unmodelled_at : Option ℕ → ℕ → Words
unmodelled_at number place = table_at (from_word number) unmodelled_first unmodelled place

-- the reason of a word behind these, in a line of this number or of none. A range of ports that would end before it begins is a
-- number that is none
abbrev pub reason_at : Option ℕ → Words → Expected → Bool → List ℕ → IosReason
reason_at number front expected backward word =
    reason_of (unmodelled_at number (length front)) reason.BadNumber expected backward word
