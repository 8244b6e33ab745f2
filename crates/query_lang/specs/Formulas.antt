-- Formulas. So many levels are open where they begin.
use Rattle.std.specs.Prelude.{◌≡◌, ℕ, suc, true, List, [], ◌∷◌, length}
use Rattle.query_tokens.specs.declared.keyword.Keyword.TheVariants as keyword
use Rattle.query_tokens.specs.declared.token.Sign.TheVariants as sign_of
use Rattle.query_lang.specs.declared.formula.Named.{Named}
use Rattle.query_lang.specs.declared.formula.Named.TheVariants as named
use Rattle.query_lang.specs.declared.literal.Path.{Path}
use Rattle.query_lang.specs.declared.term.Arg.{Arg}
use Rattle.query_lang.specs.declared.term.NamedTerm.{NamedTerm}
use Rattle.query_lang.specs.Rules.{Rules}
use Rattle.query_lang.specs.Words.{Tokens, word, sign, name}
use Rattle.query_lang.specs.Literals.{NumberTest, IsNumberTest}
use Rattle.query_lang.specs.Paths.{IsPath}
use Rattle.query_lang.specs.Terms.{IsTerm, IsArgs}

-- a term that is asked a number test
abbrev pub tested : NamedTerm → NumberTest → Named
tested term (NumberTest.masked value wildcard) = named.Masked term value wildcard
tested term (NumberTest.range lo hi) = named.Range term lo hi

pub data IsAtom (rules : Rules) : ℕ → Named → Tokens → Tokens → Type 0 where
  decided : (level i j : ℕ) (path : Path) (verdict : List ℕ) (args : List Arg)
      (tokens others rest : Tokens)
      → IsPath path tokens (sign i sign_of.Colon ∷ name j verdict ∷ others)
      → IsArgs rules level args others rest
      → IsAtom rules level (named.AtPath path verdict args) tokens rest
  equal : (level line : ℕ) (left right : NamedTerm) (tokens others rest : Tokens)
      → IsTerm rules level left tokens (sign line sign_of.Equals ∷ others)
      → IsTerm rules level right others rest
      → IsAtom rules level (named.Equal left right) tokens rest
  number_test : (level line : ℕ) (term : NamedTerm) (test : NumberTest)
      (tokens others rest : Tokens)
      → IsTerm rules level term tokens (word line keyword.In ∷ others)
      → IsNumberTest test others rest → IsAtom rules level (tested term test) tokens rest
  holds : (level line : ℕ) (text : List ℕ) (args : List Arg) (tokens rest : Tokens)
      → IsArgs rules level args tokens rest
      → IsAtom rules level (named.Holds text args) (name line text ∷ tokens) rest

-- two parts or more, joined by AND; a part alone stands for itself
abbrev pub conjunction : List Named → Named
conjunction (part ∷ []) = part
conjunction parts = named.And parts

-- the same for OR
abbrev pub disjunction : List Named → Named
disjunction (part ∷ []) = part
disjunction parts = named.Or parts

-- the same for IFF
abbrev pub equivalence : List Named → Named
equivalence (part ∷ []) = part
equivalence parts = named.Iff parts

mutual
  pub data IsUnary (rules : Rules) : ℕ → Named → Tokens → Tokens → Type 0 where
    always : (level line : ℕ) (rest : Tokens)
        → IsUnary rules level named.True (word line keyword.True ∷ rest) rest
    never : (level line : ℕ) (rest : Tokens)
        → IsUnary rules level named.False (word line keyword.False ∷ rest) rest
    not : (level line : ℕ) (body : Named) (tokens rest : Tokens)
        → rules.opens level (length tokens) ≡ true
        → IsUnary rules (suc level) body tokens rest
        → IsUnary rules level (named.Not body) (word line keyword.Not ∷ tokens) rest
    forall : (level h i j k : ℕ) (variable sort : List ℕ) (body : Named) (tokens rest : Tokens)
        → rules.opens level (suc (suc (suc (length tokens)))) ≡ true
        → IsUnary rules (suc level) body tokens rest
        → IsUnary rules level (named.Forall variable sort body)
        (word h keyword.Forall ∷ name i variable ∷ sign j sign_of.Colon ∷ name k sort ∷ tokens) rest
    exists : (level h i j k : ℕ) (variable sort : List ℕ) (body : Named) (tokens rest : Tokens)
        → rules.opens level (suc (suc (suc (length tokens)))) ≡ true
        → IsUnary rules (suc level) body tokens rest
        → IsUnary rules level (named.Exists variable sort body)
        (word h keyword.Exists ∷ name i variable ∷ sign j sign_of.Colon ∷ name k sort ∷ tokens) rest
    group : (level i j : ℕ) (parts : List Named) (tokens rest : Tokens)
        → rules.opens level (length tokens) ≡ true
        → IsEquivalence rules (suc level) parts tokens (sign j sign_of.Close ∷ rest)
        → IsUnary rules level (equivalence parts) (sign i sign_of.Open ∷ tokens) rest
    atom : (level : ℕ) (value : Named) (tokens rest : Tokens) → IsAtom rules level value tokens rest
        → IsUnary rules level value tokens rest

  pub data IsConjunction (rules : Rules) : ℕ → List Named → Tokens → Tokens → Type 0 where
    and_one : (level : ℕ) (part : Named) (tokens rest : Tokens)
        → IsUnary rules level part tokens rest → IsConjunction rules level (part ∷ []) tokens rest
    and_more : (level line : ℕ) (part : Named) (parts : List Named) (tokens others rest : Tokens)
        → IsUnary rules level part tokens (word line keyword.And ∷ others)
        → IsConjunction rules level parts others rest
        → IsConjunction rules level (part ∷ parts) tokens rest

  pub data IsDisjunction (rules : Rules) : ℕ → List Named → Tokens → Tokens → Type 0 where
    or_one : (level : ℕ) (parts : List Named) (tokens rest : Tokens)
        → IsConjunction rules level parts tokens rest
        → IsDisjunction rules level (conjunction parts ∷ []) tokens rest
    or_more : (level line : ℕ) (parts others : List Named) (tokens behind rest : Tokens)
        → IsConjunction rules level parts tokens (word line keyword.Or ∷ behind)
        → IsDisjunction rules level others behind rest
        → IsDisjunction rules level (conjunction parts ∷ others) tokens rest

  -- the word IMPLIES opens the level of what stands right of it
  pub data IsImplication (rules : Rules) : ℕ → Named → Tokens → Tokens → Type 0 where
    alone : (level : ℕ) (parts : List Named) (tokens rest : Tokens)
        → IsDisjunction rules level parts tokens rest
        → IsImplication rules level (disjunction parts) tokens rest
    implies : (level line : ℕ) (parts : List Named) (right : Named) (tokens others rest : Tokens)
        → rules.opens level (length others) ≡ true
        → IsDisjunction rules level parts tokens (word line keyword.Implies ∷ others)
        → IsImplication rules (suc level) right others rest
        → IsImplication rules level (named.Implies (disjunction parts) right) tokens rest

  pub data IsEquivalence (rules : Rules) : ℕ → List Named → Tokens → Tokens → Type 0 where
    iff_one : (level : ℕ) (part : Named) (tokens rest : Tokens)
        → IsImplication rules level part tokens rest
        → IsEquivalence rules level (part ∷ []) tokens rest
    iff_more : (level line : ℕ) (part : Named) (parts : List Named) (tokens others rest : Tokens)
        → IsImplication rules level part tokens (word line keyword.Iff ∷ others)
        → IsEquivalence rules level parts others rest
        → IsEquivalence rules level (part ∷ parts) tokens rest
