-- Chains from their first part and the others.
use Rattle.std.proofs.Common.{◌≡◌, ℕ, suc, true, List, [], ◌∷◌, ◌++◌, length, ◌∙◌, sym, subst, append_assoc}
use Rattle.std.proofs.lemmas.List.{append-nil}
use Rattle.query_tokens.specs.declared.keyword.Keyword.TheVariants as keyword
use Rattle.query_tokens.specs.declared.token.Sign.TheVariants as sign_of
use Rattle.query_tokens.specs.declared.token.Token.{Token}
use Rattle.query_tokens.specs.declared.token.Token.TheVariants as token
use Rattle.query_lang.specs.declared.formula.Named.{Named}
use Rattle.query_lang.specs.declared.literal.Path.{Path}
use Rattle.query_lang.specs.declared.term.Arg.{Arg}
use Rattle.query_lang.specs.Rules.{Rules}
use Rattle.query_lang.specs.Words.{Tokens, on, sign, name}
use Rattle.query_lang.specs.Chains.{IsChain}
use Rattle.query_lang.specs.Paths.{IsPath, IsComponent}
use Rattle.query_lang.specs.Terms.{IsArgs, IsArg, IsArgChain}
use Rattle.query_lang.specs.Formulas.{IsUnary, IsConjunction, IsDisjunction, IsImplication, IsEquivalence, conjunction}
use Rattle.query_lang.proofs.Accepting.{More, Joined, IsInside, comma, dot}

pub chain_of : (Part : Type 0) (separator : Token) (Is : Part → Tokens → Tokens → Type 0) (part : Part) (more : List Part) (ts mid rest : Tokens)
    → Is part ts mid → More Part separator (IsChain Part separator Is) more mid rest → IsChain Part separator Is (part ∷ more) ts rest
chain_of Part separator Is part more ts mid rest is (More.nothing _) = IsChain.one part ts mid is
chain_of Part separator Is part more ts mid rest is (More.others line parts tokens _ c) = IsChain.more line part parts ts tokens rest is c

pub conjunction_of : (rules : Rules) (level : ℕ) (part : Named) (more : List Named) (ts mid rest : Tokens)
    → IsUnary rules level part ts mid → More Named (token.Keyword keyword.And) (IsConjunction rules level) more mid rest → IsConjunction rules level (part ∷ more) ts rest
conjunction_of rules level part more ts mid rest is (More.nothing _) = IsConjunction.and_one level part ts mid is
conjunction_of rules level part more ts mid rest is (More.others line parts tokens _ c) = IsConjunction.and_more level line part parts ts tokens rest is c

pub disjunction_of : (rules : Rules) (level : ℕ) (parts more : List Named) (ts mid rest : Tokens)
    → IsConjunction rules level parts ts mid → More Named (token.Keyword keyword.Or) (IsDisjunction rules level) more mid rest → IsDisjunction rules level (conjunction parts ∷ more) ts rest
disjunction_of rules level parts more ts mid rest is (More.nothing _) = IsDisjunction.or_one level parts ts mid is
disjunction_of rules level parts more ts mid rest is (More.others line others tokens _ c) = IsDisjunction.or_more level line parts others ts tokens rest is c

pub equivalence_of : (rules : Rules) (level : ℕ) (part : Named) (more : List Named) (ts mid rest : Tokens)
    → IsImplication rules level part ts mid → More Named (token.Keyword keyword.Iff) (IsEquivalence rules level) more mid rest → IsEquivalence rules level (part ∷ more) ts rest
equivalence_of rules level part more ts mid rest is (More.nothing _) = IsEquivalence.iff_one level part ts mid is
equivalence_of rules level part more ts mid rest is (More.others line parts tokens _ c) = IsEquivalence.iff_more level line part parts ts tokens rest is c

pub args_of : (rules : Rules) (level : ℕ) (part : Arg) (more : List Arg) (ts mid rest : Tokens)
    → IsArg rules level part ts mid → More Arg comma (IsArgChain rules level) more mid rest → IsArgChain rules level (part ∷ more) ts rest
args_of rules level part more ts mid rest is (More.nothing _) = IsArgChain.one level part ts mid is
args_of rules level part more ts mid rest is (More.others line parts tokens _ c) = IsArgChain.more level line part parts ts tokens rest is c

pub enclosed : (rules : Rules) (level line : ℕ) (args : List Arg) (ts rest : Tokens) → rules.opens level (length ts) ≡ true → IsInside rules (suc level) args ts rest
    → IsArgs rules level args (sign line sign_of.Open ∷ ts) rest
enclosed rules level line args ts rest may (IsInside.empty j _) = IsArgs.none level line j rest may
enclosed rules level line args ts rest may (IsInside.full j _ _ _ c) = IsArgs.some level line j args ts rest may c

-- Behind parts that were read.

module _ (Part : Type 0) (separator : Token) (Are : List Part → Tokens → Tokens → Type 0) where
  pub no_more : (parts : List Part) (ts : Tokens) → Joined Part separator Are parts parts ts ts
  no_more parts ts = record { more = []; whole = sym (append-nil parts); are = More.nothing ts }

  -- one part more, which begins what is left
  pub one_more : (line : ℕ) (part : Part) (parts all : List Part) (ts mid rest : Tokens)
      → ((more : List Part) → More Part separator Are more mid rest → Are (part ∷ more) ts rest)
      → Joined Part separator Are (parts ++ part ∷ []) all mid rest → Joined Part separator Are parts all (on line separator ∷ ts) rest
  one_more line part parts all ts mid rest joins j = record {
    more = part ∷ j.more;
    whole = j.whole ∙ append_assoc parts (part ∷ []) j.more;
    are = More.others line (part ∷ j.more) ts rest (joins j.more j.are);
  }

  -- all parts from the first
  pub from_first : (part : Part) (all : List Part) (ts mid rest : Tokens) → ((more : List Part) → More Part separator Are more mid rest → Are (part ∷ more) ts rest)
      → Joined Part separator Are (part ∷ []) all mid rest → Are all ts rest
  from_first part all ts mid rest joins j = subst (λ (l : List Part). Are l ts rest) (sym j.whole) (joins j.more j.are)

path_parts : (line : ℕ) (text : List ℕ) (more : List (List ℕ)) (ts rest : Tokens) → More (List ℕ) dot (IsChain (List ℕ) dot IsComponent) more ts rest
    → IsPath (record { parts = text ∷ more }) (name line text ∷ ts) rest
path_parts line text more ts rest (More.nothing _) = IsPath.alone line text ts
path_parts line text more ts rest (More.others j parts tokens _ c) = IsPath.longer line j text parts tokens rest c

pub path_of : (line : ℕ) (text : List ℕ) (path : Path) (ts rest : Tokens) → Joined (List ℕ) dot (IsChain (List ℕ) dot IsComponent) (text ∷ []) path.parts ts rest
    → IsPath path (name line text ∷ ts) rest
path_of line text path ts rest j = subst (λ (l : List (List ℕ)). IsPath (record { parts = l }) (name line text ∷ ts) rest) (sym j.whole) (path_parts line text j.more ts rest j.are)
