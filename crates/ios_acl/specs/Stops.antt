-- Where a line of a list goes wrong: the definitions over any grammar, at the grammar of these lines. Of the parts that may be left
-- out, the name of an ICMP message is due to a word that begins with no digit.
use Rattle.std.specs.Prelude.{ℕ, Bool, List}
use Rattle.ios_lex.specs.declared.stop.Due.{Due}
use Rattle.ios_lex.specs.declared.stop.Stop.{Stop}
use Rattle.ios_lex.specs.Names.{IsMessageName}
use Rattle.ios_lex.specs.Phrases.{Words}
use Rattle.ios_lex.specs.Following.{Expected}
use Rattle.ios_lex.specs.Following as following
use Rattle.ios_lex.specs.Stops as stops

abbrev pub IsExpected : (Words → Type 0) → Words → Expected → Type 0
IsExpected = following.IsExpected IsMessageName

abbrev pub StopsAt : (Bool → Words → Type 0) → Words → List ℕ → Expected → Bool → Type 0
StopsAt = following.StopsAt IsMessageName

abbrev pub StopsBefore : (Bool → Words → Type 0) → Words → Due → Words → Type 0
StopsBefore = stops.StopsBefore IsMessageName

abbrev pub IsStop : (Bool → Words → Type 0) → Words → Stop → Type 0
IsStop = stops.IsStop IsMessageName
