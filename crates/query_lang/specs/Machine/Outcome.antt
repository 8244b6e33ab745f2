-- What comes of some tokens where something is due.
use Rattle.std.specs.Prelude.{ℕ, false, cond, [], ◌∷◌, length, None}
use Rattle.query_lang.specs.declared.literal.Literal.TheVariants as literal
use Rattle.query_lang.specs.declared.formula.Named.TheVariants as named
use Rattle.query_lang.specs.declared.script.Script.{Script}
use Rattle.query_lang.specs.declared.script.ScriptReason.{ScriptReason}
use Rattle.query_lang.specs.declared.script.ScriptReason.TheVariants as reason
use Rattle.query_lang.specs.declared.term.NamedTerm.TheVariants as term
use Rattle.query_lang.specs.Rules.{Rules, levelled}
use Rattle.query_lang.specs.Words.{Tokens, number}
use Rattle.query_lang.specs.Literals.{NumberTest}
use Rattle.query_lang.specs.Formulas.{conjunction, disjunction, equivalence}
use Rattle.query_lang.specs.Machine.Due.{Due, State, Moved}
use Rattle.query_lang.specs.Machine.Steps.{step}

-- a script, or a refusal at the first of these tokens, or at the end where there is none
pub data Outcome : Type 0 where
  reads : Script → Outcome
  refuses : Tokens → ScriptReason → Outcome

-- at the end of the tokens what may be left out is left out
abbrev pub ends : State → Outcome
ends (State.statements explored parts) = Outcome.reads (record { statements = parts })
ends (State.want (Due.dots text) k) = ends (k (literal.Number (number text)))
ends (State.want (Due.second first) k) = ends (k (NumberTest.range first first))
ends (State.want (Due.components parts) k) = ends (k (record { parts = parts }))
ends (State.want (Due.called level text) k) = ends (k (term.Name text))
ends (State.want (Due.holds_tail level text arguments) k) = ends (k (named.Holds text arguments))
ends (State.want (Due.more_and level parts) k) = ends (k (conjunction parts))
ends (State.want (Due.more_or level parts) k) = ends (k (disjunction parts))
ends (State.want (Due.implies level left) k) = ends (k left)
ends (State.want (Due.more_iff level parts) k) = ends (k (equivalence parts))
ends (State.want Due.vars k) = ends (k [])
ends (State.want Due.under k) = ends (k [])
ends (State.want (Due.more_names parts) k) = ends (k parts)
ends (State.want Due.include k) = ends (k [])
ends (State.want (Due.more_atoms parts) k) = ends (k parts)
ends (State.want (Due.more_tests parts) k) = ends (k parts)
ends (State.want due k) = Outcome.refuses [] reason.Syntax

-- behind what the first of the tokens did
abbrev pub settled : Rules → Tokens → ℕ → (State → Outcome) → Moved → Outcome
settled rules tokens behind go Moved.stops = Outcome.refuses tokens reason.Syntax
settled rules tokens behind go (Moved.moves state) = go state
settled rules tokens behind go (Moved.opens level state) =
    cond (rules.opens level behind) (go state) (Outcome.refuses tokens reason.Depth)
settled rules tokens behind go (Moved.asks state) =
    cond rules.asks (go state) (Outcome.refuses tokens reason.NoExplore)

abbrev pub outcome : Rules → Tokens → State → Outcome
outcome rules [] state = ends state
outcome rules (token ∷ tokens) state =
    settled rules (token ∷ tokens) (length tokens) (outcome rules tokens)
    (step state token.line token.token)

-- at most 64 levels, and no question before an EXPLORE
abbrev pub strict : Rules
strict = levelled 64 0 false

abbrev pub of_script : State
of_script = State.statements None []
