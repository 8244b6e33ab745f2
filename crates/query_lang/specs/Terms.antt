-- Terms and their arguments. So many levels are open where they begin.
use Rattle.std.specs.Prelude.{◌≡◌, ℕ, suc, true, List, [], ◌∷◌, length}
use Rattle.query_tokens.specs.declared.token.Sign.TheVariants as sign_of
use Rattle.query_lang.specs.declared.term.Arg.{Arg}
use Rattle.query_lang.specs.declared.term.Arg.TheVariants as arg
use Rattle.query_lang.specs.declared.term.NamedTerm.{NamedTerm}
use Rattle.query_lang.specs.declared.term.NamedTerm.TheVariants as term
use Rattle.query_lang.specs.Rules.{Rules}
use Rattle.query_lang.specs.Words.{Tokens, sign, name}

mutual
  pub data IsTerm (rules : Rules) : ℕ → NamedTerm → Tokens → Tokens → Type 0 where
    plain : (level line : ℕ) (text : List ℕ) (rest : Tokens)
        → IsTerm rules level (term.Name text) (name line text ∷ rest) rest
    call : (level line : ℕ) (text : List ℕ) (args : List Arg) (tokens rest : Tokens)
        → IsArgs rules level args tokens rest
        → IsTerm rules level (term.Call text args) (name line text ∷ tokens) rest

  -- with their parentheses, which are a level
  pub data IsArgs (rules : Rules) : ℕ → List Arg → Tokens → Tokens → Type 0 where
    none : (level i j : ℕ) (rest : Tokens) → rules.opens level (suc (length rest)) ≡ true
        → IsArgs rules level [] (sign i sign_of.Open ∷ sign j sign_of.Close ∷ rest) rest
    some : (level i j : ℕ) (args : List Arg) (tokens rest : Tokens)
        → rules.opens level (length tokens) ≡ true
        → IsArgChain rules (suc level) args tokens (sign j sign_of.Close ∷ rest)
        → IsArgs rules level args (sign i sign_of.Open ∷ tokens) rest

  pub data IsArgChain (rules : Rules) : ℕ → List Arg → Tokens → Tokens → Type 0 where
    one : (level : ℕ) (arg : Arg) (tokens rest : Tokens) → IsArg rules level arg tokens rest
        → IsArgChain rules level (arg ∷ []) tokens rest
    more : (level line : ℕ) (arg : Arg) (args : List Arg) (tokens others rest : Tokens)
        → IsArg rules level arg tokens (sign line sign_of.Comma ∷ others)
        → IsArgChain rules level args others rest → IsArgChain rules level (arg ∷ args) tokens rest

  pub data IsArg (rules : Rules) : ℕ → Arg → Tokens → Tokens → Type 0 where
    request : (level line : ℕ) (rest : Tokens)
        → IsArg rules level arg.Req (sign line sign_of.Request ∷ rest) rest
    of_term : (level : ℕ) (value : NamedTerm) (tokens rest : Tokens)
        → IsTerm rules level value tokens rest → IsArg rules level (arg.Term value) tokens rest
