-- Why a word that nothing goes on with is refused, over any grammar: what of it is arguments.
use Rattle.std.specs.Prelude.{◌&&◌, ◌||◌, not, ℕ, Bool, List, map, slice_index, nat_le, nat_lt}
use Rattle.std.specs.Bool.{if◌then◌else◌}
use Rattle.std.specs.Borrow.{Bor}
use Rattle.std.specs.List.{list_any}
use Rattle.std.specs.Str.{bytes_eq}
use Rattle.ios_lex.specs.declared.reason.IosReason.{IosReason}
use Rattle.ios_lex.specs.declared.reason.IosReason.TheVariants as reason
use Rattle.ios_lex.specs.Phrases.{Words}
use Rattle.ios_lex.specs.Following.{Expected}

-- the words that some texts are
abbrev pub texts : List (Bor (List ℕ)) → Words
texts = map (λ (text : Bor (List ℕ)). text.now)

abbrev pub is_among : Words → List ℕ → Bool
is_among words word = list_any (bytes_eq word) words

-- the digits are 48 to 57
abbrev pub begins_with_digit : List ℕ → Bool
begins_with_digit word = nat_le 48 (slice_index word 0) && nat_le (slice_index word 0) 57

-- the reason why a word can't stand where that is expected: the first that fits. It may begin with a digit, and a line that is lax may
-- go on with it, for which the grammar has a reason. A word with a digit is taken for a number where an address and a number may be left out
abbrev pub due_reason : IosReason → Expected → Bool → Bool → IosReason
due_reason lax expected over digit =
    if over then lax
    else if expected.address && (not expected.whole || (digit && not expected.number))
    then reason.BadAddress
    else if expected.number && digit then reason.BadNumber
    else if (expected.number && not expected.whole) || expected.name then reason.UnknownName
    else reason.BadEntry

-- a word of the table is not modelled, whatever is expected
abbrev pub reason_of : Words → IosReason → Expected → Bool → List ℕ → IosReason
reason_of table lax expected over word =
    if is_among table word then reason.Unmodelled word
    else due_reason lax expected over (begins_with_digit word)

-- the words that are not modelled at a place of a line: from the place `from` on those of the table, and before it others
abbrev pub table_at : ℕ → Words → Words → ℕ → Words
table_at from before table place = if nat_lt place from then before else table
