-- Why tokens are refused: at the first with which no script goes on, or at their end.
use Rattle.std.specs.Prelude.{◌≡◌, ℕ, Bool, true, false, [], ◌∷◌, ◌++◌, length, Option, Some, None}
use Rattle.query_tokens.specs.declared.token.Placed.{Placed}
use Rattle.query_lang.specs.declared.script.Script.{Script}
use Rattle.query_lang.specs.declared.script.ScriptReason.{ScriptReason}
use Rattle.query_lang.specs.declared.script.ScriptReason.TheVariants as reason
use Rattle.query_lang.specs.Rules.{levelled}
use Rattle.query_lang.specs.Words.{Tokens}
use Rattle.query_lang.specs.Scripts.{IsScript}

-- some script begins with these, among which at most so many levels are open; behind them it may open any
abbrev pub Begins : ℕ → Bool → Tokens → Type 0
Begins levels asks front =
    (more : Tokens) × (script : Script)
    × IsScript (levelled levels (length more) asks) script (front ++ more)

abbrev pub first_of : Tokens → Option Placed
first_of [] = None
first_of (token ∷ tokens) = Some token

-- some script goes on with this token, or ends here
abbrev pub GoesOn : ℕ → Bool → Tokens → Option Placed → Type 0
GoesOn levels asks front None = (script : Script) × IsScript (levelled levels 0 asks) script front
GoesOn levels asks front (Some token) = Begins levels asks (front ++ token ∷ [])

-- no script goes on so; or one with more levels; or one that may ask before any EXPLORE
abbrev pub IsReason : ScriptReason → Tokens → Option Placed → Type 0
IsReason reason.Syntax front next = (levels : ℕ) (asks : Bool) → GoesOn levels asks front next → ⊥
IsReason reason.Depth front next = (levels : ℕ) × GoesOn levels false front next
IsReason reason.NoExplore front next = GoesOn 64 true front next

-- `back` begins with the token that is refused, or is the end
pub record IsRefused (tokens back : Tokens) (why : ScriptReason) : Type 0 where
  pub front : Tokens
  pub whole : tokens ≡ front ++ back
  pub begun : Begins 64 false front
  pub stops : GoesOn 64 false front (first_of back) → ⊥
  pub reason : IsReason why front (first_of back)
