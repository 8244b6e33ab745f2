-- What is accepted where something is due: the grammar, at each place of a text.
use Rattle.std.proofs.Common.{◌≡◌, ℕ, suc, true, List, [], ◌∷◌, ◌++◌, length}
use Rattle.query_tokens.specs.declared.keyword.Keyword.TheVariants as keyword
use Rattle.query_tokens.specs.declared.token.Sign.TheVariants as sign_of
use Rattle.query_tokens.specs.declared.token.Token.{Token}
use Rattle.query_tokens.specs.declared.token.Token.TheVariants as token
use Rattle.query_lang.specs.declared.formula.Named.{Named}
use Rattle.query_lang.specs.declared.formula.Named.TheVariants as named
use Rattle.query_lang.specs.declared.literal.Literal.{Literal}
use Rattle.query_lang.specs.declared.literal.NamedTest.{NamedTest}
use Rattle.query_lang.specs.declared.script.Script.{Script}
use Rattle.query_lang.specs.declared.script.Statement.{Statement}
use Rattle.query_lang.specs.declared.term.Arg.{Arg}
use Rattle.query_lang.specs.Rules.{Rules}
use Rattle.query_lang.specs.Words.{Tokens, on, word, sign, name, digits, quoted, number, is_number}
use Rattle.query_lang.specs.Chains.{IsChain}
use Rattle.query_lang.specs.Literals.{IsLiteral, IsNumberTest}
use Rattle.query_lang.specs.Paths.{IsComponent}
use Rattle.query_lang.specs.Terms.{IsTerm, IsArgs, IsArg, IsArgChain}
use Rattle.query_lang.specs.Formulas.{IsAtom, IsUnary, IsConjunction, IsDisjunction, IsImplication, IsEquivalence, conjunction, disjunction, equivalence}
use Rattle.query_lang.specs.Statements.{IsAsk, IsCommand, IsName, IsDeclared, AreDeclared, AreUnder, AreIncluded, IsFieldTest}
use Rattle.query_lang.specs.Scripts.{AreStatements}
use Rattle.query_lang.specs.Machine.Due.{Due, Value, State, Moved}

pub data IsOne (t : Token) : Tokens → Tokens → Type 0 where
  one : (line : ℕ) (rest : Tokens) → IsOne t (on line t ∷ rest) rest

pub data IsQuoted : List ℕ → Tokens → Tokens → Type 0 where
  enclosed : (line : ℕ) (text : List ℕ) (rest : Tokens) → IsQuoted text (quoted line text ∷ rest) rest

pub data IsNumber (low high : ℕ) : ℕ → Tokens → Tokens → Type 0 where
  numeral : (line : ℕ) (text : List ℕ) (rest : Tokens) → is_number low high text ≡ true → IsNumber low high (number text) (digits line text ∷ rest) rest

-- nothing more, or more parts behind the separator
pub data More (Part : Type 0) (separator : Token) (Are : List Part → Tokens → Tokens → Type 0) : List Part → Tokens → Tokens → Type 0 where
  nothing : (rest : Tokens) → More Part separator Are [] rest rest
  others : (line : ℕ) (parts : List Part) (tokens rest : Tokens) → Are parts tokens rest → More Part separator Are parts (on line separator ∷ tokens) rest

-- the same behind the parts that were read, which are `all` with these
pub record Joined (Part : Type 0) (separator : Token) (Are : List Part → Tokens → Tokens → Type 0) (parts all : List Part) (tokens rest : Tokens) : Type 0 where
  pub more : List Part
  pub whole : all ≡ parts ++ more
  pub are : More Part separator Are more tokens rest

-- behind the opening parenthesis of arguments
pub data IsInside (rules : Rules) (level : ℕ) : List Arg → Tokens → Tokens → Type 0 where
  empty : (line : ℕ) (rest : Tokens) → IsInside rules level [] (sign line sign_of.Close ∷ rest) rest
  full : (line : ℕ) (args : List Arg) (tokens rest : Tokens) → IsArgChain rules level args tokens (sign line sign_of.Close ∷ rest) → IsInside rules level args tokens rest

-- behind the left side of what may be an implication
pub data AfterLeft (rules : Rules) (level : ℕ) (left : Named) : Named → Tokens → Tokens → Type 0 where
  alone : (rest : Tokens) → AfterLeft rules level left left rest rest
  implies : (line : ℕ) (right : Named) (tokens rest : Tokens) → rules.opens level (length tokens) ≡ true → IsImplication rules (suc level) right tokens rest
      → AfterLeft rules level left (named.Implies left right) (word line keyword.Implies ∷ tokens) rest

abbrev pub comma : Token
comma = token.Sign sign_of.Comma

abbrev pub dot : Token
dot = token.Sign sign_of.Dot

-- what is due is read as this value, and the rest stands behind it
abbrev pub Fits : Rules → (due : Due) → Value due → Tokens → Tokens → Type 0
Fits rules (Due.word w) v ts rest = IsOne (token.Keyword w) ts rest
Fits rules (Due.sign s) v ts rest = IsOne (token.Sign s) ts rest
Fits rules Due.name v ts rest = IsName v ts rest
Fits rules Due.quoted v ts rest = IsQuoted v ts rest
Fits rules Due.component v ts rest = IsComponent v ts rest
Fits rules (Due.number low high fits) v ts rest = IsNumber low high v ts rest
Fits rules Due.literal v ts rest = IsLiteral v ts rest
Fits rules (Due.dots text) v ts rest = is_number 0 255 text ≡ true → (line : ℕ) → IsLiteral v (digits line text ∷ ts) rest
Fits rules (Due.second first) v ts rest = (tokens : Tokens) → IsLiteral first tokens ts → IsNumberTest v tokens rest
Fits rules (Due.components parts) v ts rest = Joined (List ℕ) dot (IsChain (List ℕ) dot IsComponent) parts v.parts ts rest
Fits rules (Due.called level text) v ts rest = (line : ℕ) → IsTerm rules level v (name line text ∷ ts) rest
Fits rules (Due.args level) v ts rest = IsArgs rules level v ts rest
Fits rules (Due.first_arg level) v ts rest = IsInside rules level v ts rest
Fits rules (Due.arg level) v ts rest = IsArg rules level v ts rest
Fits rules (Due.more_args level parts) v ts rest = (line : ℕ) × Joined Arg comma (IsArgChain rules level) parts v ts (sign line sign_of.Close ∷ rest)
Fits rules (Due.atom_tail level text) v ts rest = (line : ℕ) → IsAtom rules level v (name line text ∷ ts) rest
Fits rules (Due.holds_tail level text parts) v ts rest = (line : ℕ) (tokens : Tokens) → IsArgs rules level parts tokens ts → IsAtom rules level v (name line text ∷ tokens) rest
Fits rules (Due.unary level) v ts rest = IsUnary rules level v ts rest
Fits rules (Due.more_and level parts) v ts rest = (all : List Named) × (v ≡ conjunction all) × Joined Named (token.Keyword keyword.And) (IsConjunction rules level) parts all ts rest
Fits rules (Due.more_or level parts) v ts rest = (all : List Named) × (v ≡ disjunction all) × Joined Named (token.Keyword keyword.Or) (IsDisjunction rules level) parts all ts rest
Fits rules (Due.implies level left) v ts rest = AfterLeft rules level left v ts rest
Fits rules (Due.more_iff level parts) v ts rest = (all : List Named) × (v ≡ equivalence all) × Joined Named (token.Keyword keyword.Iff) (IsEquivalence rules level) parts all ts rest
Fits rules Due.vars v ts rest = AreDeclared v ts rest
Fits rules (Due.more_vars parts) v ts rest = (line : ℕ) × Joined (List ℕ × List ℕ) comma (IsChain (List ℕ × List ℕ) comma IsDeclared) parts v ts (sign line sign_of.CloseBracket ∷ rest)
Fits rules Due.under v ts rest = AreUnder v ts rest
Fits rules (Due.more_names parts) v ts rest = Joined (List ℕ) comma (IsChain (List ℕ) comma IsName) parts v ts rest
Fits rules Due.include v ts rest = AreIncluded rules v ts rest
Fits rules (Due.more_atoms parts) v ts rest = Joined Named comma (IsChain Named comma (IsAtom rules 0)) parts v ts rest
Fits rules (Due.more_literals parts) v ts rest = (line : ℕ) × Joined Literal comma (IsChain Literal comma IsLiteral) parts v ts (sign line sign_of.Close ∷ rest)
Fits rules (Due.more_tests parts) v ts rest = Joined NamedTest comma (IsChain NamedTest comma IsFieldTest) parts v ts rest
Fits rules Due.load v ts rest = (line : ℕ) → IsCommand v (word line keyword.Load ∷ ts) rest
Fits rules Due.show v ts rest = (line : ℕ) → IsAsk v (word line keyword.Show ∷ ts) rest

-- the tokens are read as this script from this state on
abbrev pub Accepts : Rules → State → Tokens → Script → Type 0
Accepts rules (State.statements explored parts) ts x = (more : List Statement) × (x.statements ≡ parts ++ more) × AreStatements rules explored more ts
Accepts rules (State.want due k) ts x = (v : Value due) × (rest : Tokens) × Fits rules due v ts rest × Accepts rules (k v) rest x

-- the same behind a token that moved it
abbrev pub AcceptsBy : Rules → Moved → Tokens → Script → Type 0
AcceptsBy rules Moved.stops ts x = ⊥
AcceptsBy rules (Moved.moves state) ts x = Accepts rules state ts x
AcceptsBy rules (Moved.opens level state) ts x = (rules.opens level (length ts) ≡ true) × Accepts rules state ts x
AcceptsBy rules (Moved.asks state) ts x = (rules.asks ≡ true) × Accepts rules state ts x
