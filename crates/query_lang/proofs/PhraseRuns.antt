-- Phrases of the grammar are what the machine reads.
use Rattle.std.proofs.Common.{◌≡◌, ℕ, suc, ◌<◌, ◌≤◌, ◌^◌, ◌-◌, ◌||◌, Bool, true, false, cond, List, [], ◌∷◌, ◌++◌, length, refl, ap, ◌∙◌, append_assoc, arith}
use Rattle.query_tokens.specs.declared.keyword.Keyword.{Keyword}
use Rattle.query_tokens.specs.declared.keyword.Keyword.TheVariants as keyword
use Rattle.query_tokens.specs.declared.token.Sign.TheVariants as sign_of
use Rattle.query_tokens.specs.declared.token.Token.{Token}
use Rattle.query_tokens.specs.declared.token.Token.TheVariants as token
use Rattle.query_lang.specs.declared.formula.Named.{Named}
use Rattle.query_lang.specs.declared.formula.Named.TheVariants as named
use Rattle.query_lang.specs.declared.literal.Literal.{Literal}
use Rattle.query_lang.specs.declared.literal.Literal.TheVariants as literal
use Rattle.query_lang.specs.declared.literal.Path.{Path}
use Rattle.query_lang.specs.declared.term.Arg.{Arg}
use Rattle.query_lang.specs.declared.term.Arg.TheVariants as arg
use Rattle.query_lang.specs.declared.term.NamedTerm.{NamedTerm}
use Rattle.query_lang.specs.declared.term.NamedTerm.TheVariants as term
use Rattle.query_lang.specs.Rules.{Rules}
use Rattle.query_lang.specs.Words.{Tokens, on, word, sign, name, digits, number, is_number}
use Rattle.query_lang.specs.Chains.{IsChain}
use Rattle.query_lang.specs.Literals.{IsLiteral, NumberTest, IsNumberTest, dotted_number}
use Rattle.query_lang.specs.Paths.{IsPath, IsComponent}
use Rattle.query_lang.specs.Terms.{IsTerm, IsArgs, IsArg, IsArgChain}
use Rattle.query_lang.specs.Formulas.{IsAtom, IsUnary, IsConjunction, IsDisjunction, IsImplication, IsEquivalence, conjunction, disjunction, equivalence, tested}
use Rattle.query_lang.specs.Machine.Due.{Due, State, Moved}
use Rattle.query_lang.specs.Machine.Steps
use Rattle.query_lang.specs.Machine.Steps.{Behind, step, is_word, is_sign, literal_by, number_read, three_bytes, arg_by, unary_word, unary_by, load_word, show_word, statement_word, finished, a_term, a_conjunction, a_disjunction, implication, an_equivalence, number_test, at_path, decided, equal_to, tested_in, quantified, exploring, asking}
use Rattle.std.proofs.lemmas.Bool.{or_parts}
use Rattle.query_tokens.specs.declared.token.Sign.{Sign}
use Rattle.query_lang.specs.Machine.Outcome.{Outcome, outcome, ends, settled}
use Rattle.query_lang.specs.declared.script.ScriptReason.TheVariants as reason
use Rattle.query_lang.specs.Machine.Due.{one}
use Rattle.query_lang.proofs.Accepting.{dot}
use Rattle.query_lang.proofs.Choices.{At, at_word, at_sign}

-- the first of the tokens fails the test, if there is one
abbrev pub Away : (Token → Bool) → Tokens → Type 0
Away test [] = Unit {0}
Away test (t ∷ ts) = test t.token ≡ false

-- how tightly a token holds to the formula before it. What ends formulas is 0, and what joins no formulas 5
abbrev pub word_binds : Keyword → ℕ
word_binds keyword.Under = 0
word_binds keyword.Include = 0
word_binds keyword.Iff = 1
word_binds keyword.Implies = 2
word_binds keyword.Or = 3
word_binds keyword.And = 4
word_binds w = 5

abbrev pub sign_binds : Sign → ℕ
sign_binds sign_of.Semicolon = 0
sign_binds sign_of.Comma = 0
sign_binds sign_of.Close = 0
sign_binds s = 5

abbrev pub binds : Token → ℕ
binds (token.Keyword w) = word_binds w
binds (token.Sign s) = sign_binds s
binds (token.Name text) = 5
binds (token.Digits text) = 5
binds (token.Word text) = 5
binds (token.Quoted text) = 5
binds token.Bad = 5

abbrev pub Free : ℕ → Tokens → Type 0
Free n [] = Unit {0}
Free n (t ∷ ts) = binds t.token ≤ n

not_word : (w : Keyword) (n : ℕ) (t : Token) → At (is_word w) (token.Keyword w) t → n < word_binds w → binds t ≤ n → is_word w t ≡ false
not_word w n t (At.here hit) less few = absurd (omega arith)
not_word w n t (At.away _ miss) less few = miss

not_sign : (s : Sign) (n : ℕ) (t : Token) → At (is_sign s) (token.Sign s) t → n < sign_binds s → binds t ≤ n → is_sign s t ≡ false
not_sign s n t (At.here hit) less few = absurd (omega arith)
not_sign s n t (At.away _ miss) less few = miss

pub free_word : (w : Keyword) (n : ℕ) (rest : Tokens) → n < word_binds w → Free n rest → Away (is_word w) rest
free_word w n [] less free = tt
free_word w n (t ∷ rest) less free = not_word w n t.token (at_word w t.token) less free

pub free_sign : (s : Sign) (n : ℕ) (rest : Tokens) → n < sign_binds s → Free n rest → Away (is_sign s) rest
free_sign s n [] less free = tt
free_sign s n (t ∷ rest) less free = not_sign s n t.token (at_sign s t.token) less free

pub freer : (m n : ℕ) (rest : Tokens) → m ≤ n → Free m rest → Free n rest
freer m n [] less free = tt
freer m n (t ∷ rest) less free = omega arith

-- what may stand behind a first literal of a number test
abbrev pub seconds : Token → Bool
seconds (token.Keyword w) = is_word keyword.To (token.Keyword w)
seconds (token.Digits text) = true
seconds (token.Quoted text) = true
seconds (token.Name text) = false
seconds (token.Word text) = false
seconds (token.Sign s) = false
seconds token.Bad = false

few_seconds : (t : Token) → binds t ≤ 4 → seconds t ≡ false
few_seconds (token.Keyword w) few = not_word keyword.To 4 (token.Keyword w) (at_word keyword.To (token.Keyword w)) (omega arith) few
few_seconds (token.Digits text) few = absurd (omega arith)
few_seconds (token.Quoted text) few = absurd (omega arith)
few_seconds (token.Name text) few = refl
few_seconds (token.Word text) few = refl
few_seconds (token.Sign s) few = refl
few_seconds token.Bad few = refl

pub free_seconds : (rest : Tokens) → Free 4 rest → Away seconds rest
free_seconds [] free = tt
free_seconds (t ∷ rest) free = few_seconds t.token free

-- what may stand behind a term
abbrev pub compares : Token → Bool
compares t = is_sign sign_of.Equals t || is_word keyword.In t

few_compares : (t : Token) → binds t ≤ 4 → compares t ≡ false
few_compares t few =
    let a = not_sign sign_of.Equals 4 t (at_sign sign_of.Equals t) (omega arith) few in
    let b = not_word keyword.In 4 t (at_word keyword.In t) (omega arith) few in
    rw a b

free_compares : (rest : Tokens) → Free 4 rest → Away compares rest
free_compares [] free = tt
free_compares (t ∷ rest) free = few_compares t.token free

module _ (rules : Rules) where
  abbrev out : Tokens → State → Outcome
  out ts state = outcome rules ts state

  abbrev by : Tokens → Tokens → Moved → Outcome
  by tokens ts moved = settled rules tokens (length ts) (outcome rules ts) moved

  pub moved_by : (state : State) (line : ℕ) (t : Token) (ts : Tokens) (moved : Moved) → step state line t ≡ moved → out (on line t ∷ ts) state ≡ by (on line t ∷ ts) ts moved
  moved_by state line t ts moved e = ap (λ (m : Moved). by (on line t ∷ ts) ts m) e

  pub opened_by : (tokens ts : Tokens) (level : ℕ) (state : State) → rules.opens level (length ts) ≡ true → by tokens ts (Moved.opens level state) ≡ out ts state
  opened_by tokens ts level state may = ap (λ (b : Bool). cond b (out ts state) (Outcome.refuses tokens reason.Depth)) may

  -- what may be left out, where it is left out
  pub skipped : (test : Token → Bool) (state other : State) → ends state ≡ ends other → ((line : ℕ) (t : Token) → test t ≡ false → step state line t ≡ step other line t)
      → (rest : Tokens) → Away test rest → out rest state ≡ out rest other
  skipped test state other end same [] away = end
  skipped test state other end same (t ∷ rest) away = ap (λ (m : Moved). by (t ∷ rest) rest m) (same t.line t.token away)

  pub left_out : (b : Bool) (taken other : Moved) → b ≡ false → cond b taken other ≡ other
  left_out b taken other e = ap (λ (c : Bool). cond c taken other) e

  -- Literals and number tests.

  pub number_step : (low high : ℕ) (fits : is_number low high one ≡ true) (k : Behind ℕ) (line : ℕ) (text : List ℕ) (rest : Tokens) → is_number low high text ≡ true
      → out (digits line text ∷ rest) (State.want (Due.number low high fits) k) ≡ out rest (k (number text))
  number_step low high fits k line text rest e = ap (λ (b : Bool). by (digits line text ∷ rest) rest (cond b (Moved.moves (k (number text))) Moved.stops)) e

  no_dots : (text : List ℕ) (k : Behind Literal) (rest : Tokens) → Away (is_sign sign_of.Dot) rest → out rest (State.want (Due.dots text) k) ≡ out rest (k (literal.Number (number text)))
  no_dots text k rest away = skipped (is_sign sign_of.Dot) (State.want (Due.dots text) k) (k (literal.Number (number text))) refl (λ line t e. left_out (is_sign sign_of.Dot t) _ _ e) rest away

  number_is : (tokens : Tokens) (text : List ℕ) (k : Behind Literal) (rest : Tokens) (b : Bool) → is_number 0 255 text ≡ b → is_number 0 (2 ^ 128 - 1) text ≡ true → Away (is_sign sign_of.Dot) rest
      → by tokens rest (cond b (Moved.moves (State.want (Due.dots text) k)) (cond (is_number 0 (2 ^ 128 - 1) text) (Moved.moves (k (literal.Number (number text)))) Moved.stops)) ≡ out rest (k (literal.Number (number text)))
  number_is tokens text k rest true byte e away = no_dots text k rest away
  number_is tokens text k rest false byte e away = ap (λ (c : Bool). by tokens rest (cond c (Moved.moves (k (literal.Number (number text)))) Moved.stops)) e

  pub literal_runs : (v : Literal) (ts rest : Tokens) → IsLiteral v ts rest → Away (is_sign sign_of.Dot) rest → (state : State) (k : Behind Literal) (other : ℕ → Token → Moved)
      → ((line : ℕ) (t : Token) → step state line t ≡ literal_by k (other line t) t) → out ts state ≡ out rest (k v)
  literal_runs v ts rest (IsLiteral.decimal line text _ e) away state k other first =
      moved_by state line (token.Digits text) rest _ (first line (token.Digits text)) ∙ number_is (digits line text ∷ rest) text k rest (is_number 0 255 text) refl e away
  literal_runs v ts rest (IsLiteral.dotted i j h l m n o a b c d _ ea eb ec ed) away state k other first =
      let tail = sign j sign_of.Dot ∷ digits h b ∷ sign l sign_of.Dot ∷ digits m c ∷ sign n sign_of.Dot ∷ digits o d ∷ rest in
      let fourth : Behind ℕ = λ next. State.want (Due.sign sign_of.Dot) (λ _. State.want (Due.number 0 255 refl) (λ last. k (literal.Number (dotted_number (number a) (number b) next last)))) in
      let third : Behind ℕ = λ second. State.want (Due.sign sign_of.Dot) (λ _. State.want (Due.number 0 255 refl) (λ next. State.want (Due.sign sign_of.Dot) (λ _. State.want (Due.number 0 255 refl) (λ last. k (literal.Number (dotted_number (number a) second next last)))))) in
      moved_by state i (token.Digits a) tail _ (first i (token.Digits a))
      ∙ ap (λ (q : Bool). by (digits i a ∷ tail) tail (cond q (Moved.moves (State.want (Due.dots a) k)) (cond (is_number 0 (2 ^ 128 - 1) a) (Moved.moves (k (literal.Number (number a)))) Moved.stops))) ea
      ∙ number_step 0 255 refl third h b (sign l sign_of.Dot ∷ digits m c ∷ sign n sign_of.Dot ∷ digits o d ∷ rest) eb
      ∙ number_step 0 255 refl fourth m c (sign n sign_of.Dot ∷ digits o d ∷ rest) ec
      ∙ number_step 0 255 refl (λ last. k (literal.Number (dotted_number (number a) (number b) (number c) last))) o d rest ed
  literal_runs v ts rest (IsLiteral.interface line text _) away state k other first = moved_by state line (token.Quoted text) rest _ (first line (token.Quoted text))

  before_literal : (v : Literal) (ts rest : Tokens) → IsLiteral v ts rest → Away (is_sign sign_of.Dot) ts
  before_literal v ts rest (IsLiteral.decimal line text _ e) = refl
  before_literal v ts rest (IsLiteral.dotted i j h l m n o a b c d _ ea eb ec ed) = refl
  before_literal v ts rest (IsLiteral.interface line text _) = refl

  no_second : (first : Literal) (k : Behind NumberTest) (line : ℕ) (t : Token) → seconds t ≡ false → step (State.want (Due.second first) k) line t ≡ step (k (NumberTest.range first first)) line t
  no_second first k line (token.Keyword w) e = left_out (is_word keyword.To (token.Keyword w)) _ _ e
  no_second first k line (token.Digits text) e = absurd (cc e)
  no_second first k line (token.Quoted text) e = absurd (cc e)
  no_second first k line (token.Name text) e = refl
  no_second first k line (token.Word text) e = refl
  no_second first k line (token.Sign s) e = refl
  no_second first k line token.Bad e = refl

  pub test_runs : (test : NumberTest) (ts rest : Tokens) → IsNumberTest test ts rest → Away (is_sign sign_of.Dot) rest → Away seconds rest → (k : Behind NumberTest) → out ts (number_test k) ≡ out rest (k test)
  test_runs test ts rest (IsNumberTest.value v _ _ is) away free k =
      literal_runs v ts rest is away (number_test k) (λ first. State.want (Due.second first) k) (λ line t. Moved.stops) (λ line t. refl)
      ∙ skipped seconds (State.want (Due.second v) k) (k (NumberTest.range v v)) refl (no_second v k) rest free
  test_runs test ts rest (IsNumberTest.wildcard v w _ others _ is wild) away free k =
      literal_runs v ts others is (before_literal w others rest wild) (number_test k) (λ first. State.want (Due.second first) k) (λ line t. Moved.stops) (λ line t. refl)
      ∙ literal_runs w others rest wild away (State.want (Due.second v) k) (λ other. k (NumberTest.masked v other))
      (λ line t. cond (is_word keyword.To t) (Moved.moves (State.want Due.literal (λ high. k (NumberTest.range v high)))) (step (k (NumberTest.range v v)) line t)) (λ line t. refl)
  test_runs test ts rest (IsNumberTest.range line lo hi _ others _ is high) away free k =
      literal_runs lo ts (word line keyword.To ∷ others) is refl (number_test k) (λ first. State.want (Due.second first) k) (λ line t. Moved.stops) (λ line t. refl)
      ∙ literal_runs hi others rest high away (State.want Due.literal (λ high. k (NumberTest.range lo high))) (λ high. k (NumberTest.range lo high)) (λ line t. Moved.stops) (λ line t. refl)

  -- Chains, whose parts begin in a state and end in one.

  pub chain_runs : (Part : Type 0) (separator : Token) (Is : Part → Tokens → Tokens → Type 0) (begin after : List Part → State) (Ends : Tokens → Type 0)
      → ((part : Part) (ts mid : Tokens) (before : List Part) → Is part ts mid → Ends mid → out ts (begin before) ≡ out mid (after (before ++ part ∷ [])))
      → ((line : ℕ) (before : List Part) (ts : Tokens) → out (on line separator ∷ ts) (after before) ≡ out ts (begin before))
      → ((line : ℕ) (ts : Tokens) → Ends (on line separator ∷ ts))
      → (parts : List Part) (ts rest : Tokens) → IsChain Part separator Is parts ts rest → Ends rest → (before : List Part) → out ts (begin before) ≡ out rest (after (before ++ parts))
  chain_runs Part separator Is begin after Ends part_runs goes_on inside parts ts rest (IsChain.one part _ _ is) end before = part_runs part ts rest before is end
  chain_runs Part separator Is begin after Ends part_runs goes_on inside parts ts rest (IsChain.more line part more _ others _ is chain) end before =
      part_runs part ts (on line separator ∷ others) before is (inside line others) ∙ goes_on line (before ++ part ∷ []) others
      ∙ chain_runs Part separator Is begin after Ends part_runs goes_on inside more others rest chain end (before ++ part ∷ [])
      ∙ ap (λ (l : List Part). out rest (after l)) (append_assoc before (part ∷ []) more)

  component_runs : (part : List ℕ) (ts rest : Tokens) → IsComponent part ts rest → (k : Behind (List ℕ)) → out ts (State.want Due.component k) ≡ out rest (k part)
  component_runs part ts rest (IsComponent.keyword line w _) k = refl
  component_runs part ts rest (IsComponent.plain line text _) k = refl
  component_runs part ts rest (IsComponent.numeral line text _) k = refl
  component_runs part ts rest (IsComponent.other line text _) k = refl
  component_runs part ts rest (IsComponent.text line text _) k = refl

  components_run : (parts : List (List ℕ)) (ts rest : Tokens) → IsChain (List ℕ) dot IsComponent parts ts rest → (k : Behind Path) (before : List (List ℕ))
      → out ts (State.want Due.component (λ part. State.want (Due.components (before ++ part ∷ [])) k)) ≡ out rest (State.want (Due.components (before ++ parts)) k)
  components_run parts ts rest is k before =
      chain_runs (List ℕ) dot IsComponent (λ before. State.want Due.component (λ part. State.want (Due.components (before ++ part ∷ [])) k)) (λ before. State.want (Due.components before) k) (λ _. Unit {0})
      (λ part ts mid before is end. component_runs part ts mid is (λ part. State.want (Due.components (before ++ part ∷ [])) k)) (λ line before ts. refl) (λ line ts. tt) parts ts rest is tt before

  no_components : (parts : List (List ℕ)) (k : Behind Path) (rest : Tokens) → Away (is_sign sign_of.Dot) rest → out rest (State.want (Due.components parts) k) ≡ out rest (k (record { parts = parts }))
  no_components parts k rest away = skipped (is_sign sign_of.Dot) (State.want (Due.components parts) k) (k (record { parts = parts })) refl (λ line t e. left_out (is_sign sign_of.Dot t) _ _ e) rest away

  pub path_runs : (path : Path) (ts rest : Tokens) → IsPath path ts rest → Away (is_sign sign_of.Dot) rest → (k : Behind Path) → out ts (Steps.path k) ≡ out rest (k path)
  path_runs path ts rest (IsPath.alone line text _) away k = no_components (text ∷ []) k rest away
  path_runs path ts rest (IsPath.longer i j text parts tokens _ is) away k = components_run parts tokens rest is k (text ∷ []) ∙ no_components (text ∷ parts) k rest away

  -- Terms and arguments.

  no_call : (level : ℕ) (text : List ℕ) (k : Behind NamedTerm) (rest : Tokens) → Away (is_sign sign_of.Open) rest → out rest (State.want (Due.called level text) k) ≡ out rest (k (term.Name text))
  no_call level text k rest away = skipped (is_sign sign_of.Open) (State.want (Due.called level text) k) (k (term.Name text)) refl (λ line t e. left_out (is_sign sign_of.Open t) _ _ e) rest away

  mutual
    pub term_runs : (level : ℕ) (v : NamedTerm) (ts rest : Tokens) → IsTerm rules level v ts rest → Away (is_sign sign_of.Open) rest → (state : State) (k : Behind NamedTerm)
        → ((line : ℕ) (text : List ℕ) → step state line (token.Name text) ≡ Moved.moves (State.want (Due.called level text) k)) → out ts state ≡ out rest (k v)
    term_runs level v ts rest (IsTerm.plain _ line text _) away state k first = moved_by state line (token.Name text) rest _ (first line text) ∙ no_call level text k rest away
    term_runs level v ts rest (IsTerm.call _ line text parts tokens _ args) away state k first =
        moved_by state line (token.Name text) tokens _ (first line text)
        ∙ args_run level parts tokens rest args (State.want (Due.called level text) k) (λ arguments. k (term.Call text arguments)) (λ line. refl)

    pub args_run : (level : ℕ) (parts : List Arg) (ts rest : Tokens) → IsArgs rules level parts ts rest → (state : State) (k : Behind (List Arg))
        → ((line : ℕ) → step state line (token.Sign sign_of.Open) ≡ Moved.opens level (State.want (Due.first_arg (suc level)) k)) → out ts state ≡ out rest (k parts)
    args_run level parts ts rest (IsArgs.none _ i j _ may) state k first =
        moved_by state i (token.Sign sign_of.Open) (sign j sign_of.Close ∷ rest) _ (first i) ∙ opened_by _ (sign j sign_of.Close ∷ rest) level (State.want (Due.first_arg (suc level)) k) may
    args_run level parts ts rest (IsArgs.some _ i j _ tokens _ may chain) state k first =
        moved_by state i (token.Sign sign_of.Open) tokens _ (first i) ∙ opened_by _ tokens level (State.want (Due.first_arg (suc level)) k) may
        ∙ arg_chain_runs (suc level) parts tokens (sign j sign_of.Close ∷ rest) chain refl (State.want (Due.first_arg (suc level)) k) [] k (λ line t. cond (is_sign sign_of.Close t) (Moved.moves (k [])) Moved.stops) (λ line t. refl)

    arg_chain_runs : (level : ℕ) (parts : List Arg) (ts rest : Tokens) → IsArgChain rules level parts ts rest → Away (is_sign sign_of.Open) rest → (state : State) (before : List Arg) (k : Behind (List Arg)) (other : ℕ → Token → Moved)
        → ((line : ℕ) (t : Token) → step state line t ≡ arg_by level (λ part. State.want (Due.more_args level (before ++ part ∷ [])) k) (other line t) t)
        → out ts state ≡ out rest (State.want (Due.more_args level (before ++ parts)) k)
    arg_chain_runs level parts ts rest (IsArgChain.one _ part _ _ is) away state before k other first = arg_runs level part ts rest is away state (λ part. State.want (Due.more_args level (before ++ part ∷ [])) k) other first
    arg_chain_runs level parts ts rest (IsArgChain.more _ line part more _ others _ is chain) away state before k other first =
        arg_runs level part ts (sign line sign_of.Comma ∷ others) is refl state (λ part. State.want (Due.more_args level (before ++ part ∷ [])) k) other first
        ∙ arg_chain_runs level more others rest chain away (State.want (Due.arg level) (λ next. State.want (Due.more_args level ((before ++ part ∷ []) ++ next ∷ [])) k)) (before ++ part ∷ []) k (λ line t. Moved.stops) (λ line t. refl)
        ∙ ap (λ (l : List Arg). out rest (State.want (Due.more_args level l) k)) (append_assoc before (part ∷ []) more)

    arg_runs : (level : ℕ) (part : Arg) (ts rest : Tokens) → IsArg rules level part ts rest → Away (is_sign sign_of.Open) rest → (state : State) (k : Behind Arg) (other : ℕ → Token → Moved)
        → ((line : ℕ) (t : Token) → step state line t ≡ arg_by level k (other line t) t) → out ts state ≡ out rest (k part)
    arg_runs level part ts rest (IsArg.request _ line _) away state k other first = moved_by state line (token.Sign sign_of.Request) rest _ (first line (token.Sign sign_of.Request))
    arg_runs level part ts rest (IsArg.of_term _ v _ _ is) away state k other first = term_runs level v ts rest is away state (λ value. k (arg.Term value)) (λ line text. first line (token.Name text))

  -- Atoms.

  decided_runs : (level i j : ℕ) (path : Path) (verdict : List ℕ) (args : List Arg) (ts others rest : Tokens) → IsPath path ts (sign i sign_of.Colon ∷ name j verdict ∷ others) → IsArgs rules level args others rest
      → (state : State) (k : Behind Named) → ((line : ℕ) (text : List ℕ) → step state line (token.Name text) ≡ Moved.moves (State.want (Due.atom_tail level text) k)) → out ts state ≡ out rest (k (named.AtPath path verdict args))
  decided_runs level i j path verdict args ts others rest (IsPath.alone line text _) are state k first =
      moved_by state line (token.Name text) (sign i sign_of.Colon ∷ name j verdict ∷ others) _ (first line text)
      ∙ args_run level args others rest are (State.want (Due.args level) (λ parts. k (named.AtPath (record { parts = text ∷ [] }) verdict parts))) (λ parts. k (named.AtPath (record { parts = text ∷ [] }) verdict parts)) (λ line. refl)
  decided_runs level i j path verdict args ts others rest (IsPath.longer g h text more tokens _ is) are state k first =
      moved_by state g (token.Name text) (sign h sign_of.Dot ∷ tokens) _ (first g text)
      ∙ components_run more tokens (sign i sign_of.Colon ∷ name j verdict ∷ others) is (λ list. State.want (Due.sign sign_of.Colon) (λ _. decided level list k)) (text ∷ [])
      ∙ args_run level args others rest are (State.want (Due.args level) (λ parts. k (named.AtPath (record { parts = text ∷ more }) verdict parts))) (λ parts. k (named.AtPath (record { parts = text ∷ more }) verdict parts)) (λ line. refl)

  equal_runs : (level line : ℕ) (left right : NamedTerm) (ts others rest : Tokens) → IsTerm rules level left ts (sign line sign_of.Equals ∷ others) → IsTerm rules level right others rest → Away (is_sign sign_of.Open) rest
      → (state : State) (k : Behind Named) → ((line : ℕ) (text : List ℕ) → step state line (token.Name text) ≡ Moved.moves (State.want (Due.atom_tail level text) k)) → out ts state ≡ out rest (k (named.Equal left right))
  equal_runs level line left right ts others rest (IsTerm.plain _ i text _) is away state k first =
      moved_by state i (token.Name text) (sign line sign_of.Equals ∷ others) _ (first i text)
      ∙ term_runs level right others rest is away (equal_to level (term.Name text) k) (λ right. k (named.Equal (term.Name text) right)) (λ line text. refl)
  equal_runs level line left right ts others rest (IsTerm.call _ i text parts tokens _ args) is away state k first =
      moved_by state i (token.Name text) tokens _ (first i text)
      ∙ args_run level parts tokens (sign line sign_of.Equals ∷ others) args (State.want (Due.atom_tail level text) k) (λ arguments. State.want (Due.holds_tail level text arguments) k) (λ line. refl)
      ∙ term_runs level right others rest is away (equal_to level (term.Call text parts) k) (λ right. k (named.Equal (term.Call text parts) right)) (λ line text. refl)

  tested_runs : (level line : ℕ) (left : NamedTerm) (test : NumberTest) (ts others rest : Tokens) → IsTerm rules level left ts (word line keyword.In ∷ others) → IsNumberTest test others rest → Free 4 rest
      → (state : State) (k : Behind Named) → ((line : ℕ) (text : List ℕ) → step state line (token.Name text) ≡ Moved.moves (State.want (Due.atom_tail level text) k)) → out ts state ≡ out rest (k (tested left test))
  tested_runs level line left test ts others rest (IsTerm.plain _ i text _) is free state k first =
      moved_by state i (token.Name text) (word line keyword.In ∷ others) _ (first i text)
      ∙ test_runs test others rest is (free_sign sign_of.Dot 4 rest (omega arith) free) (free_seconds rest free) (λ test. k (tested (term.Name text) test))
  tested_runs level line left test ts others rest (IsTerm.call _ i text parts tokens _ args) is free state k first =
      moved_by state i (token.Name text) tokens _ (first i text)
      ∙ args_run level parts tokens (word line keyword.In ∷ others) args (State.want (Due.atom_tail level text) k) (λ arguments. State.want (Due.holds_tail level text arguments) k) (λ line. refl)
      ∙ test_runs test others rest is (free_sign sign_of.Dot 4 rest (omega arith) free) (free_seconds rest free) (λ test. k (tested (term.Call text parts) test))

  no_comparison : (level : ℕ) (text : List ℕ) (parts : List Arg) (k : Behind Named) (line : ℕ) (t : Token) → compares t ≡ false
      → step (State.want (Due.holds_tail level text parts) k) line t ≡ step (k (named.Holds text parts)) line t
  no_comparison level text parts k line t e =
      let b = or_parts (is_sign sign_of.Equals t) (is_word keyword.In t) e in
      left_out (is_sign sign_of.Equals t) _ _ b.0 ∙ left_out (is_word keyword.In t) _ _ b.1

  pub atom_runs : (level : ℕ) (v : Named) (ts rest : Tokens) → IsAtom rules level v ts rest → Free 4 rest → (state : State) (k : Behind Named)
      → ((line : ℕ) (text : List ℕ) → step state line (token.Name text) ≡ Moved.moves (State.want (Due.atom_tail level text) k)) → out ts state ≡ out rest (k v)
  atom_runs level v ts rest (IsAtom.decided _ i j path verdict args _ others _ is are) free state k first = decided_runs level i j path verdict args ts others rest is are state k first
  atom_runs level v ts rest (IsAtom.equal _ line left right _ others _ is other) free state k first = equal_runs level line left right ts others rest is other (free_sign sign_of.Open 4 rest (omega arith) free) state k first
  atom_runs level v ts rest (IsAtom.number_test _ line left test _ others _ is tests) free state k first = tested_runs level line left test ts others rest is tests free state k first
  atom_runs level v ts rest (IsAtom.holds _ line text args tokens _ are) free state k first =
      moved_by state line (token.Name text) tokens _ (first line text)
      ∙ args_run level args tokens rest are (State.want (Due.atom_tail level text) k) (λ arguments. State.want (Due.holds_tail level text arguments) k) (λ line. refl)
      ∙ skipped compares (State.want (Due.holds_tail level text args) k) (k (named.Holds text args)) refl (no_comparison level text args k) rest (free_compares rest free)

  -- Formulas.

  no_and : (level : ℕ) (parts : List Named) (k : Behind Named) (rest : Tokens) → Free 3 rest → out rest (State.want (Due.more_and level parts) k) ≡ out rest (k (conjunction parts))
  no_and level parts k rest free =
      skipped (is_word keyword.And) (State.want (Due.more_and level parts) k) (k (conjunction parts)) refl (λ line t e. left_out (is_word keyword.And t) _ _ e) rest (free_word keyword.And 3 rest (omega arith) free)

  no_or : (level : ℕ) (parts : List Named) (k : Behind Named) (rest : Tokens) → Free 2 rest → out rest (State.want (Due.more_or level parts) k) ≡ out rest (k (disjunction parts))
  no_or level parts k rest free =
      skipped (is_word keyword.Or) (State.want (Due.more_or level parts) k) (k (disjunction parts)) refl (λ line t e. left_out (is_word keyword.Or t) _ _ e) rest (free_word keyword.Or 2 rest (omega arith) free)

  no_implies : (level : ℕ) (left : Named) (k : Behind Named) (rest : Tokens) → Free 1 rest → out rest (State.want (Due.implies level left) k) ≡ out rest (k left)
  no_implies level left k rest free =
      skipped (is_word keyword.Implies) (State.want (Due.implies level left) k) (k left) refl (λ line t e. left_out (is_word keyword.Implies t) _ _ e) rest (free_word keyword.Implies 1 rest (omega arith) free)

  pub no_iff : (level : ℕ) (parts : List Named) (k : Behind Named) (rest : Tokens) → Free 0 rest → out rest (State.want (Due.more_iff level parts) k) ≡ out rest (k (equivalence parts))
  no_iff level parts k rest free =
      skipped (is_word keyword.Iff) (State.want (Due.more_iff level parts) k) (k (equivalence parts)) refl (λ line t e. left_out (is_word keyword.Iff t) _ _ e) rest (free_word keyword.Iff 0 rest (omega arith) free)

  mutual
    unary_runs : (level : ℕ) (v : Named) (ts rest : Tokens) → IsUnary rules level v ts rest → Free 4 rest → (k : Behind Named) → out ts (State.want (Due.unary level) k) ≡ out rest (k v)
    unary_runs level v ts rest (IsUnary.always _ line _) free k = refl
    unary_runs level v ts rest (IsUnary.never _ line _) free k = refl
    unary_runs level v ts rest (IsUnary.not _ line body tokens _ may is) free k =
        opened_by (word line keyword.Not ∷ tokens) tokens level (State.want (Due.unary (suc level)) (λ body. k (named.Not body))) may ∙ unary_runs (suc level) body tokens rest is free (λ body. k (named.Not body))
    unary_runs level v ts rest (IsUnary.forall _ g h i j variable sort body tokens _ may is) free k =
        opened_by (word g keyword.Forall ∷ name h variable ∷ sign i sign_of.Colon ∷ name j sort ∷ tokens) (name h variable ∷ sign i sign_of.Colon ∷ name j sort ∷ tokens) level (quantified level named.Forall k) may
        ∙ unary_runs (suc level) body tokens rest is free (λ body. k (named.Forall variable sort body))
    unary_runs level v ts rest (IsUnary.exists _ g h i j variable sort body tokens _ may is) free k =
        opened_by (word g keyword.Exists ∷ name h variable ∷ sign i sign_of.Colon ∷ name j sort ∷ tokens) (name h variable ∷ sign i sign_of.Colon ∷ name j sort ∷ tokens) level (quantified level named.Exists k) may
        ∙ unary_runs (suc level) body tokens rest is free (λ body. k (named.Exists variable sort body))
    unary_runs level v ts rest (IsUnary.group _ i j parts tokens _ may is) free k =
        let close : Behind Named = λ value. State.want (Due.sign sign_of.Close) (λ _. k value) in
        opened_by (sign i sign_of.Open ∷ tokens) tokens level (an_equivalence (suc level) [] close) may
        ∙ equivalence_runs (suc level) parts tokens (sign j sign_of.Close ∷ rest) is (omega arith) [] close ∙ no_iff (suc level) parts close (sign j sign_of.Close ∷ rest) (omega arith)
    unary_runs level v ts rest (IsUnary.atom _ _ _ _ is) free k = atom_runs level v ts rest is free (State.want (Due.unary level) k) k (λ line text. refl)

    conjunction_runs : (level : ℕ) (parts : List Named) (ts rest : Tokens) → IsConjunction rules level parts ts rest → Free 3 rest → (before : List Named) (k : Behind Named)
        → out ts (a_conjunction level before k) ≡ out rest (State.want (Due.more_and level (before ++ parts)) k)
    conjunction_runs level parts ts rest (IsConjunction.and_one _ part _ _ is) free before k = unary_runs level part ts rest is (freer 3 4 rest (omega arith) free) (λ part. State.want (Due.more_and level (before ++ part ∷ [])) k)
    conjunction_runs level parts ts rest (IsConjunction.and_more _ line part more _ others _ is chain) free before k =
        unary_runs level part ts (word line keyword.And ∷ others) is (omega arith) (λ part. State.want (Due.more_and level (before ++ part ∷ [])) k)
        ∙ conjunction_runs level more others rest chain free (before ++ part ∷ []) k ∙ ap (λ (l : List Named). out rest (State.want (Due.more_and level l) k)) (append_assoc before (part ∷ []) more)

    disjunction_runs : (level : ℕ) (parts : List Named) (ts rest : Tokens) → IsDisjunction rules level parts ts rest → Free 2 rest → (before : List Named) (k : Behind Named)
        → out ts (a_disjunction level before k) ≡ out rest (State.want (Due.more_or level (before ++ parts)) k)
    disjunction_runs level parts ts rest (IsDisjunction.or_one _ some _ _ is) free before k =
        let next : Behind Named = λ part. State.want (Due.more_or level (before ++ part ∷ [])) k in
        conjunction_runs level some ts rest is (freer 2 3 rest (omega arith) free) [] next ∙ no_and level some next rest (freer 2 3 rest (omega arith) free)
    disjunction_runs level parts ts rest (IsDisjunction.or_more _ line some more _ others _ is chain) free before k =
        let next : Behind Named = λ part. State.want (Due.more_or level (before ++ part ∷ [])) k in
        conjunction_runs level some ts (word line keyword.Or ∷ others) is (omega arith) [] next ∙ no_and level some next (word line keyword.Or ∷ others) (omega arith)
        ∙ disjunction_runs level more others rest chain free (before ++ conjunction some ∷ []) k ∙ ap (λ (l : List Named). out rest (State.want (Due.more_or level l) k)) (append_assoc before (conjunction some ∷ []) more)

    implication_runs : (level : ℕ) (v : Named) (ts rest : Tokens) → IsImplication rules level v ts rest → Free 1 rest → (k : Behind Named) → out ts (implication level k) ≡ out rest (k v)
    implication_runs level v ts rest (IsImplication.alone _ parts _ _ is) free k =
        let next : Behind Named = λ left. State.want (Due.implies level left) k in
        disjunction_runs level parts ts rest is (freer 1 2 rest (omega arith) free) [] next ∙ no_or level parts next rest (freer 1 2 rest (omega arith) free) ∙ no_implies level (disjunction parts) k rest free
    implication_runs level v ts rest (IsImplication.implies _ line parts right _ others _ may is other) free k =
        let next : Behind Named = λ left. State.want (Due.implies level left) k in
        let state = implication (suc level) (λ right. k (named.Implies (disjunction parts) right)) in
        disjunction_runs level parts ts (word line keyword.Implies ∷ others) is (omega arith) [] next ∙ no_or level parts next (word line keyword.Implies ∷ others) (omega arith)
        ∙ opened_by (word line keyword.Implies ∷ others) others level state may ∙ implication_runs (suc level) right others rest other free (λ right. k (named.Implies (disjunction parts) right))

    pub equivalence_runs : (level : ℕ) (parts : List Named) (ts rest : Tokens) → IsEquivalence rules level parts ts rest → Free 0 rest → (before : List Named) (k : Behind Named)
        → out ts (an_equivalence level before k) ≡ out rest (State.want (Due.more_iff level (before ++ parts)) k)
    equivalence_runs level parts ts rest (IsEquivalence.iff_one _ part _ _ is) free before k = implication_runs level part ts rest is (freer 0 1 rest (omega arith) free) (λ part. State.want (Due.more_iff level (before ++ part ∷ [])) k)
    equivalence_runs level parts ts rest (IsEquivalence.iff_more _ line part more _ others _ is chain) free before k =
        implication_runs level part ts (word line keyword.Iff ∷ others) is (omega arith) (λ part. State.want (Due.more_iff level (before ++ part ∷ [])) k)
        ∙ equivalence_runs level more others rest chain free (before ++ part ∷ []) k ∙ ap (λ (l : List Named). out rest (State.want (Due.more_iff level l) k)) (append_assoc before (part ∷ []) more)
