-- What a part of a script that is read, or that stops, says of what comes behind it.
use Rattle.std.specs.Prelude.{◌≡◌, ℕ, ◌<◌, ◌≤◌, Bool, true, false, List, [], ◌∷◌, ◌++◌, length, drop, Option}
use Rattle.query_lang.specs.declared.script.Kind.{Kind}
use Rattle.query_lang.specs.declared.script.Statement.{Statement}
use Rattle.query_tokens.specs.declared.keyword.Keyword.{Keyword}
use Rattle.query_tokens.specs.declared.token.Sign.{Sign}
use Rattle.query_tokens.specs.declared.token.Token.{Token}
use Rattle.query_tokens.specs.declared.token.Token.TheVariants as token
use Rattle.query_lang.specs.declared.read.stop.Stop.{Stop}
use Rattle.query_lang.specs.declared.read.stop.Stop.TheVariants as stop
use Rattle.query_lang.specs.declared.script.ScriptReason.{ScriptReason}
use Rattle.query_lang.specs.Words.{Tokens, on, is_number}
use Rattle.query_lang.specs.Scripts.{IsOffLine}
use Rattle.query_lang.specs.Machine.Due.{Due, State, one}
use Rattle.query_lang.specs.Machine.Steps.{is_word, is_sign, finished}
use Rattle.query_lang.specs.Machine.Outcome.{Outcome, outcome, strict, of_script}

-- what is due is read as this value, whatever comes behind it
pub record Goes (Result : Type 0) (due : (Result → State) → State) (v : Result)
    (ts rest : Tokens) : Type 0 where
  pub goes : (k : Result → State) → outcome strict ts (due k) ≡ outcome strict rest (k v)

-- what is due is refused there, whatever comes behind it
pub record Stops (Result : Type 0) (due : (Result → State) → State) (ts back : Tokens)
    (why : ScriptReason) : Type 0 where
  pub stops : (k : Result → State) → outcome strict ts (due k) ≡ Outcome.refuses back why

-- a number between two is due, as far as 1 lies between them
pub record GoesNumber (low high v : ℕ) (ts rest : Tokens) : Type 0 where
  pub goes : (fits : is_number low high one ≡ true) (k : ℕ → State)
      → outcome strict ts (State.want (Due.number low high fits) k) ≡ outcome strict rest (k v)

pub record StopsNumber (low high : ℕ) (ts back : Tokens) (why : ScriptReason) : Type 0 where
  pub stops : (fits : is_number low high one ≡ true) (k : ℕ → State)
      → outcome strict ts (State.want (Due.number low high fits) k) ≡ Outcome.refuses back why

abbrev pub HaltsNumber : ℕ → ℕ → Tokens → Tokens → Stop → Type 0
HaltsNumber low high ts tokens (stop.Refused at why) = StopsNumber low high ts (drop at tokens) why
HaltsNumber low high ts tokens stop.NoMemory = Unit {0}

-- the same for a stop at a place among all tokens
abbrev pub Halts : (Result : Type 0) → ((Result → State) → State) → Tokens → Tokens → Stop → Type 0
Halts Result due ts tokens (stop.Refused at why) = Stops Result due ts (drop at tokens) why
Halts Result due ts tokens stop.NoMemory = Unit {0}

-- the token stands first, and the rest behind it
pub record Starts (t : Token) (ts rest : Tokens) : Type 0 where
  pub line : ℕ
  pub is : ts ≡ on line t ∷ rest

-- the first token fails the test, if there is one
abbrev pub first_fails : (Token → Bool) → Tokens → Type 0
first_fails test [] = Unit {0}
first_fails test (t ∷ ts) = test t.token ≡ false

-- this keyword does not stand first
pub record NoWord (w : Keyword) (ts : Tokens) : Type 0 where
  pub away : first_fails (is_word w) ts

-- this sign does not stand first
pub record NoSign (s : Sign) (ts : Tokens) : Type 0 where
  pub away : first_fails (is_sign s) ts

abbrev pub is_keyword : Token → Bool
is_keyword (token.Keyword w) = true
is_keyword (token.Name text) = false
is_keyword (token.Digits text) = false
is_keyword (token.Word text) = false
is_keyword (token.Quoted text) = false
is_keyword (token.Sign s) = false
is_keyword token.Bad = false

-- no keyword stands first
pub record NoKeyword (ts : Tokens) : Type 0 where
  pub away : first_fails is_keyword ts

-- the token stands first, on this line
pub record StartsOn (line : ℕ) (t : Token) (ts rest : Tokens) : Type 0 where
  pub is : ts ≡ on line t ∷ rest

-- a statement that begins on this line is of this kind, and its semicolon is due, whatever statements stood before it;
-- `next` is the line of the last EXPLORE behind it
pub record Begun (explored next : Option ℕ) (line : ℕ) (what : Kind) (ts rest : Tokens) : Type 0
  where
    pub begun : (parts : List Statement)
        → outcome strict ts (State.statements explored parts) ≡ outcome strict rest
        (finished next parts line what)

-- a statement is read, or refused, whatever statements stood before it
pub record Stated (explored next : Option ℕ) (statement : Statement) (ts rest : Tokens) : Type 0
  where
    pub stated : (parts : List Statement)
        → outcome strict ts (State.statements explored parts) ≡ outcome strict rest
        (State.statements next (parts ++ statement ∷ []))

pub record Unstated (explored : Option ℕ) (ts back : Tokens) (why : ScriptReason) : Type 0 where
  pub unstated : (parts : List Statement)
      → outcome strict ts (State.statements explored parts) ≡ Outcome.refuses back why

abbrev pub HaltsStatement : Option ℕ → Tokens → Tokens → Stop → Type 0
HaltsStatement explored ts tokens (stop.Refused at why) = Unstated explored ts (drop at tokens) why
HaltsStatement explored ts tokens stop.NoMemory = Unit {0}

-- no EXPLORE before began on this line
pub record IsFresh (explored : Option ℕ) (line : ℕ) : Type 0 where
  pub off : IsOffLine explored line

-- all statements are read from the first token on, or stop
pub record IsRead (tokens : Tokens) (all : List Statement) : Type 0 where
  pub is : outcome strict tokens of_script ≡ Outcome.reads (record { statements = all })

pub record IsStopped (tokens back : Tokens) (why : ScriptReason) : Type 0 where
  pub is : outcome strict tokens of_script ≡ Outcome.refuses back why

abbrev pub HaltsScript : Tokens → Stop → Type 0
HaltsScript tokens (stop.Refused at why) = IsStopped tokens (drop at tokens) why
HaltsScript tokens stop.NoMemory = Unit {0}

-- what a call that began at a place found: a value, and the place behind it
abbrev pub Found : (Result : Type 0) → ((Result → State) → State) → Tokens → ℕ → Result × ℕ → Type 0
Found Result due tokens at found = Goes Result due found.0 (drop at tokens) (drop found.1 tokens)

-- where such a call stops
abbrev pub Stopped : (Result : Type 0) → ((Result → State) → State) → Tokens → ℕ → Stop → Type 0
Stopped Result due tokens at stop = Halts Result due (drop at tokens) tokens stop

-- the place behind is later, and no token is skipped
abbrev pub IsLater : {Result : Type 0} → Tokens → ℕ → Result × ℕ → Type 0
IsLater tokens at found = (at < found.1) × (found.1 ≤ length tokens)

abbrev pub IsNoEarlier : {Result : Type 0} → Tokens → ℕ → Result × ℕ → Type 0
IsNoEarlier tokens at found = (at ≤ found.1) × (found.1 ≤ length tokens)

-- the token stands at a place, and the rest behind it at the next
abbrev pub StartsAt : Token → Tokens → ℕ → ℕ → Type 0
StartsAt t tokens at next = Starts t (drop at tokens) (drop next tokens)

abbrev pub StartsOnAt : ℕ → Token → Tokens → ℕ → ℕ → Type 0
StartsOnAt line t tokens at next = StartsOn line t (drop at tokens) (drop next tokens)

-- what is due is read up to the next place, and has no value
abbrev pub GoesTo : ((Unit {0} → State) → State) → Tokens → ℕ → ℕ → Type 0
GoesTo due tokens at next = Goes (Unit {0}) due tt (drop at tokens) (drop next tokens)

-- a number between two, and the place behind it; or where none is read
abbrev pub FoundNumber : ℕ → ℕ → Tokens → ℕ → ℕ × ℕ → Type 0
FoundNumber low high tokens at found =
    GoesNumber low high found.0 (drop at tokens) (drop found.1 tokens)

abbrev pub StoppedNumber : ℕ → ℕ → Tokens → ℕ → Stop → Type 0
StoppedNumber low high tokens at stop = HaltsNumber low high (drop at tokens) tokens stop

-- a statement's kind, the line of the last EXPLORE behind it, and the place behind it
abbrev pub FoundKind : Option ℕ → ℕ → Tokens → ℕ → Kind × Option ℕ × ℕ → Type 0
FoundKind explored line tokens at found =
    Begun explored found.1 line found.0 (drop at tokens) (drop found.2 tokens)

-- the same for a whole statement; or where none is read
abbrev pub FoundStatement : Option ℕ → Tokens → ℕ → Statement × Option ℕ × ℕ → Type 0
FoundStatement explored tokens at found =
    Stated explored found.1 found.0 (drop at tokens) (drop found.2 tokens)

abbrev pub StoppedStatement : Option ℕ → Tokens → ℕ → Stop → Type 0
StoppedStatement explored tokens at stop = HaltsStatement explored (drop at tokens) tokens stop
