-- Statements, each without the semicolon behind it.
use Rattle.std.specs.Prelude.{◌≡◌, ℕ, ◌^◌, ◌-◌, true, List, [], ◌∷◌}
use Rattle.query_tokens.specs.declared.keyword.Keyword.TheVariants as keyword
use Rattle.query_tokens.specs.declared.token.Sign.TheVariants as sign_of
use Rattle.query_tokens.specs.declared.token.Token.TheVariants as token
use Rattle.query_lang.specs.declared.formula.Named.{Named}
use Rattle.query_lang.specs.declared.literal.Literal.{Literal}
use Rattle.query_lang.specs.declared.literal.NamedTest.{NamedTest}
use Rattle.query_lang.specs.declared.literal.NamedTest.TheVariants as test_of
use Rattle.query_lang.specs.declared.literal.Path.{Path}
use Rattle.query_lang.specs.declared.script.Explore.{Explore}
use Rattle.query_lang.specs.declared.script.Kind.{Kind}
use Rattle.query_lang.specs.declared.script.Kind.TheVariants as kind
use Rattle.query_lang.specs.Rules.{Rules}
use Rattle.query_lang.specs.Words.{Tokens, word, sign, name, digits, quoted, number, is_number}
use Rattle.query_lang.specs.Chains.{IsChain}
use Rattle.query_lang.specs.Literals.{IsLiteral, NumberTest, IsNumberTest}
use Rattle.query_lang.specs.Paths.{IsPath}
use Rattle.query_lang.specs.Formulas.{IsAtom, IsEquivalence, equivalence}

-- statements that ask of the EXPLORE before them
pub data IsAsk : Kind → Tokens → Tokens → Type 0 where
  possible : (h i j : ℕ) (rest : Tokens)
      → IsAsk kind.IsPossible
      (word h keyword.Is ∷ word i keyword.Possible ∷ sign j sign_of.Question ∷ rest) rest
  one : (h i : ℕ) (rest : Tokens)
      → IsAsk kind.ShowOne (word h keyword.Show ∷ word i keyword.One ∷ rest) rest
  first : (h i j : ℕ) (n : List ℕ) (rest : Tokens) → is_number 1 1000000 n ≡ true
      → IsAsk (kind.ShowFirst (number n))
      (word h keyword.Show ∷ word i keyword.First ∷ digits j n ∷ rest) rest
  all : (h i : ℕ) (rest : Tokens)
      → IsAsk kind.ShowAll (word h keyword.Show ∷ word i keyword.All ∷ rest) rest
  full : (h i : ℕ) (rest : Tokens)
      → IsAsk kind.ShowFull (word h keyword.Show ∷ word i keyword.Full ∷ rest) rest
  up_to : (h i j k : ℕ) (n : List ℕ) (rest : Tokens) → is_number 1 100 n ≡ true
      → IsAsk (kind.ShowUpTo (number n))
      (word h keyword.Show ∷ word i keyword.Up ∷ word j keyword.To ∷ digits k n ∷ rest) rest
  realized : (h i : ℕ) (rest : Tokens)
      → IsAsk kind.ShowRealized (word h keyword.Show ∷ word i keyword.Realized ∷ rest) rest
  unrealized : (h i : ℕ) (rest : Tokens)
      → IsAsk kind.ShowUnrealized (word h keyword.Show ∷ word i keyword.Unrealized ∷ rest) rest
  bounds : (h i : ℕ) (rest : Tokens)
      → IsAsk kind.ShowBounds (word h keyword.Show ∷ word i keyword.Bounds ∷ rest) rest
  proof : (h i : ℕ) (rest : Tokens)
      → IsAsk kind.ShowProof (word h keyword.Show ∷ word i keyword.Proof ∷ rest) rest

-- a declared variable and its sort
pub data IsDeclared : List ℕ × List ℕ → Tokens → Tokens → Type 0 where
  declared : (h i j : ℕ) (variable sort : List ℕ) (rest : Tokens)
      → IsDeclared (variable, sort) (name h variable ∷ sign i sign_of.Colon ∷ name j sort ∷ rest)
      rest

pub data AreDeclared : List (List ℕ × List ℕ) → Tokens → Tokens → Type 0 where
  none : (rest : Tokens) → AreDeclared [] rest rest
  some : (h i : ℕ) (vars : List (List ℕ × List ℕ)) (tokens rest : Tokens)
      → IsChain (List ℕ × List ℕ) (token.Sign sign_of.Comma) IsDeclared vars tokens
      (sign i sign_of.CloseBracket ∷ rest)
      → AreDeclared vars (sign h sign_of.OpenBracket ∷ tokens) rest

pub data IsName : List ℕ → Tokens → Tokens → Type 0 where
  plain : (line : ℕ) (text : List ℕ) (rest : Tokens) → IsName text (name line text ∷ rest) rest

pub data AreUnder : List (List ℕ) → Tokens → Tokens → Type 0 where
  none : (rest : Tokens) → AreUnder [] rest rest
  some : (line : ℕ) (names : List (List ℕ)) (tokens rest : Tokens)
      → IsChain (List ℕ) (token.Sign sign_of.Comma) IsName names tokens rest
      → AreUnder names (word line keyword.Under ∷ tokens) rest

pub data AreIncluded (rules : Rules) : List Named → Tokens → Tokens → Type 0 where
  none : (rest : Tokens) → AreIncluded rules [] rest rest
  some : (line : ℕ) (atoms : List Named) (tokens rest : Tokens)
      → IsChain Named (token.Sign sign_of.Comma) (IsAtom rules 0) atoms tokens rest
      → AreIncluded rules atoms (word line keyword.Include ∷ tokens) rest

pub data IsExplore (rules : Rules) : Explore → Tokens → Tokens → Type 0 where
  explore : (line : ℕ) (vars : List (List ℕ × List ℕ)) (parts : List Named) (under : List (List ℕ))
      (atoms : List Named) (a b c d rest : Tokens)
      → AreDeclared vars a b → IsEquivalence rules 0 parts b c → AreUnder under c d
      → AreIncluded rules atoms d rest
      → IsExplore rules (record
      { vars = vars; formula = equivalence parts; under = under; include = atoms })
      (word line keyword.Explore ∷ a) rest

-- a field that is asked a number test
abbrev pub field_tested : List ℕ → NumberTest → NamedTest
field_tested field (NumberTest.masked value wildcard) = test_of.Masked field value wildcard
field_tested field (NumberTest.range lo hi) = test_of.Range field lo hi

pub data IsFieldTest : NamedTest → Tokens → Tokens → Type 0 where
  field_test : (i j : ℕ) (field : List ℕ) (test : NumberTest) (tokens rest : Tokens)
      → IsNumberTest test tokens rest
      → IsFieldTest (field_tested field test) (name i field ∷ word j keyword.In ∷ tokens) rest

-- all other statements
pub data IsCommand : Kind → Tokens → Tokens → Type 0 where
  load_vocab : (h i j : ℕ) (file : List ℕ) (rest : Tokens)
      → IsCommand (kind.LoadVocab file)
      (word h keyword.Load ∷ word i keyword.Vocab ∷ quoted j file ∷ rest) rest
  load_policy : (h i j : ℕ) (file : List ℕ) (rest : Tokens)
      → IsCommand (kind.LoadPolicy file)
      (word h keyword.Load ∷ word i keyword.Policy ∷ quoted j file ∷ rest) rest
  load_ios : (h i j k l : ℕ) (file text : List ℕ) (rest : Tokens)
      → IsCommand (kind.LoadIos file text)
      (word h keyword.Load ∷ word i keyword.Ios ∷ quoted j file ∷ word k keyword.As ∷ name l text
      ∷ rest) rest
  load_iptables : (h i j k l : ℕ) (file text : List ℕ) (rest : Tokens)
      → IsCommand (kind.LoadIptables file text)
      (word h keyword.Load ∷ word i keyword.Iptables ∷ quoted j file ∷ word k keyword.As
      ∷ name l text ∷ rest) rest
  compare : (line : ℕ) (left right : Path) (tokens others rest : Tokens) → IsPath left tokens others
      → IsPath right others rest
      → IsCommand (kind.Compare left right) (word line keyword.Compare ∷ tokens) rest
  decide : (h i j : ℕ) (list : Path) (packet : List Literal) (tokens others rest : Tokens)
      → IsPath list tokens (sign i sign_of.Open ∷ others)
      → IsChain Literal (token.Sign sign_of.Comma) IsLiteral packet others
      (sign j sign_of.Close ∷ rest)
      → IsCommand (kind.Decide list packet) (word h keyword.Decide ∷ tokens) rest
  generate : (h i j k l : ℕ) (n seed text : List ℕ) (rest : Tokens) → is_number 1 5000 n ≡ true
      → is_number 0 (2 ^ 31 - 1) seed ≡ true
      → IsCommand (kind.Generate (number n) (number seed) text)
      (word h keyword.Generate ∷ digits i n ∷ digits j seed ∷ word k keyword.As ∷ name l text
      ∷ rest) rest
  link : (h i j k l m : ℕ) (from from_interface to to_interface : List ℕ) (rest : Tokens)
      → IsCommand (kind.Link from from_interface to to_interface)
      (word h keyword.Link ∷ name i from ∷ quoted j from_interface ∷ word k keyword.To ∷ name l to
      ∷ quoted m to_interface ∷ rest) rest
  path : (h i j k l m n o : ℕ) (from from_interface to to_interface within : List ℕ) (rest : Tokens)
      → is_number 1 8 within ≡ true
      → IsCommand (kind.Paths from from_interface to to_interface (number within))
      (word h keyword.Path ∷ name i from ∷ quoted j from_interface ∷ word k keyword.To ∷ name l to
      ∷ quoted m to_interface ∷ word n keyword.Within ∷ digits o within ∷ rest) rest
  audit : (line : ℕ) (list : Path) (tokens rest : Tokens) → IsPath list tokens rest
      → IsCommand (kind.Audit list) (word line keyword.Audit ∷ tokens) rest
  core : (h i j k : ℕ) (list : Path) (verdict : List ℕ) (tests : List NamedTest)
      (tokens others rest : Tokens)
      → IsPath list tokens (sign i sign_of.Colon ∷ name j verdict ∷ word k keyword.Where ∷ others)
      → IsChain NamedTest (token.Sign sign_of.Comma) IsFieldTest tests others rest
      → IsCommand (kind.Core list verdict tests) (word h keyword.Core ∷ tokens) rest
