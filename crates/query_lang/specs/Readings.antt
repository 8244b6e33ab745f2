-- What the bytes of a script say, or where and why they are refused.
use Rattle.std.specs.Prelude.{◌≡◌, ℕ, false, List, [], ◌∷◌}
use Rattle.query_tokens.specs.Lines.{last_line}
use Rattle.query_tokens.specs.Tokens.{AreTokens}
use Rattle.query_lang.specs.declared.script.Script.{Script}
use Rattle.query_lang.specs.declared.script.ScriptFault.{ScriptFault}
use Rattle.query_lang.specs.declared.script.ScriptFault.TheVariants as fault
use Rattle.query_lang.specs.declared.script.ScriptReason.{ScriptReason}
use Rattle.query_lang.specs.Rules.{levelled}
use Rattle.query_lang.specs.Words.{Tokens}
use Rattle.query_lang.specs.Scripts.{IsScript}
use Rattle.query_lang.specs.Refusal.{IsRefused}

-- the bytes are a script, at most 64 levels deep, that asks only behind an EXPLORE
pub record Reads (bytes : List ℕ) (script : Script) : Type 0 where
  pub tokens : Tokens
  pub cut : AreTokens bytes tokens
  pub is : IsScript (levelled 64 0 false) script tokens

-- the line of the first token, or of the last byte where there is none
abbrev pub line_at : List ℕ → Tokens → ℕ
line_at bytes [] = last_line bytes
line_at bytes (token ∷ tokens) = token.line

-- the bytes are refused on this line
pub record Refuses (bytes : List ℕ) (line : ℕ) (why : ScriptReason) : Type 0 where
  pub tokens : Tokens
  pub cut : AreTokens bytes tokens
  pub back : Tokens
  pub refused : IsRefused tokens back why
  pub at : line ≡ line_at bytes back

-- the fault is such a refusal, or want of memory
abbrev pub IsFault : (ℕ → ScriptReason → Type 0) → ScriptFault → Type 0
IsFault Is (fault.At line why) = Is line why
IsFault Is fault.NoMemory = Unit {0}
