-- Where a loop of the reader stands: what was due before goes on as what is due now.
use Rattle.std.proofs.Common.{◌≡◌, ℕ, ◌<◌, ◌≤◌, Bool, cond, ◌||◌, nat_lt, ◌∷◌, length, ap, ◌∙◌, arith}
use Rattle.std.proofs.lemmas.Bool.{lt-ltb, le-ltb}
use Rattle.query_tokens.specs.declared.token.Token.{Token}
use Rattle.query_lang.specs.declared.script.ScriptReason.TheVariants as reason
use Rattle.query_lang.specs.Words.{Tokens, on}
use Rattle.query_lang.specs.Machine.Due.{State, Moved}
use Rattle.query_lang.specs.Machine.Outcome.{Outcome, outcome, settled, strict}

pub record Leads (Result : Type 0) (before now : (Result → State) → State) (ts mid : Tokens) : Type 0 where
  pub leads : (k : Result → State) → outcome strict ts (before k) ≡ outcome strict mid (now k)

abbrev pub by : Tokens → Tokens → Moved → Outcome
by tokens ts moved = settled strict tokens (length ts) (outcome strict ts) moved

-- a level that may be opened, and one too many
pub opened : (ts : Tokens) (state : State) (line : ℕ) (t : Token) (level : ℕ) → level < 64 → by (on line t ∷ ts) ts (Moved.opens level state) ≡ outcome strict ts state
opened ts state line t level less = ap (λ (b : Bool). cond (b || nat_lt (length ts) 0) (outcome strict ts state) (Outcome.refuses (on line t ∷ ts) reason.Depth)) (lt-ltb level 64 less)

pub too_deep : (ts : Tokens) (state : State) (line : ℕ) (t : Token) (level : ℕ) → 64 ≤ level → by (on line t ∷ ts) ts (Moved.opens level state) ≡ Outcome.refuses (on line t ∷ ts) reason.Depth
too_deep ts state line t level more =
    ap (λ (b : Bool). cond (b || nat_lt (length ts) 0) (outcome strict ts state) (Outcome.refuses (on line t ∷ ts) reason.Depth)) (le-ltb level 64 more)
    ∙ ap (λ (b : Bool). cond b (outcome strict ts state) (Outcome.refuses (on line t ∷ ts) reason.Depth)) (le-ltb (length ts) 0 (omega arith))
