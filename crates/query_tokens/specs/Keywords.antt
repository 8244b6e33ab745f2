-- The keywords of scripts.
use Rattle.std.specs.Prelude.{◌≡◌, ℕ, Bool, List, [], ◌∷◌, codes}
use Rattle.std.specs.List.{list_any}
use Rattle.std.specs.Str.{bytes_eq}
use Rattle.query_tokens.specs.declared.keyword.Keyword.{Keyword}
use Rattle.query_tokens.specs.declared.keyword.Keyword.TheVariants as keyword

-- how a keyword is written
abbrev pub letters : Keyword → List ℕ
letters keyword.Load = codes "LOAD"
letters keyword.Vocab = codes "VOCAB"
letters keyword.Policy = codes "POLICY"
letters keyword.Ios = codes "IOS"
letters keyword.Iptables = codes "IPTABLES"
letters keyword.As = codes "AS"
letters keyword.Explore = codes "EXPLORE"
letters keyword.Under = codes "UNDER"
letters keyword.Include = codes "INCLUDE"
letters keyword.Is = codes "IS"
letters keyword.Possible = codes "POSSIBLE"
letters keyword.Show = codes "SHOW"
letters keyword.One = codes "ONE"
letters keyword.First = codes "FIRST"
letters keyword.All = codes "ALL"
letters keyword.Full = codes "FULL"
letters keyword.Up = codes "UP"
letters keyword.Realized = codes "REALIZED"
letters keyword.Unrealized = codes "UNREALIZED"
letters keyword.Bounds = codes "BOUNDS"
letters keyword.Proof = codes "PROOF"
letters keyword.Compare = codes "COMPARE"
letters keyword.Decide = codes "DECIDE"
letters keyword.Generate = codes "GENERATE"
letters keyword.Link = codes "LINK"
letters keyword.Path = codes "PATH"
letters keyword.Within = codes "WITHIN"
letters keyword.Audit = codes "AUDIT"
letters keyword.Core = codes "CORE"
letters keyword.Where = codes "WHERE"
letters keyword.And = codes "AND"
letters keyword.Or = codes "OR"
letters keyword.Not = codes "NOT"
letters keyword.Implies = codes "IMPLIES"
letters keyword.Iff = codes "IFF"
letters keyword.Forall = codes "FORALL"
letters keyword.Exists = codes "EXISTS"
letters keyword.In = codes "IN"
letters keyword.To = codes "TO"
letters keyword.True = codes "TRUE"
letters keyword.False = codes "FALSE"

-- the word is no keyword
abbrev pub IsNoKeyword : List ℕ → Type 0
IsNoKeyword word = (keyword : Keyword) → word ≡ letters keyword → ⊥

-- the keywords in order
abbrev pub keywords : List Keyword
keywords =
    keyword.Load ∷
    keyword.Vocab ∷
    keyword.Policy ∷
    keyword.Ios ∷
    keyword.Iptables ∷
    keyword.As ∷
    keyword.Explore ∷
    keyword.Under ∷
    keyword.Include ∷
    keyword.Is ∷
    keyword.Possible ∷
    keyword.Show ∷
    keyword.One ∷
    keyword.First ∷
    keyword.All ∷
    keyword.Full ∷
    keyword.Up ∷
    keyword.Realized ∷
    keyword.Unrealized ∷
    keyword.Bounds ∷
    keyword.Proof ∷
    keyword.Compare ∷
    keyword.Decide ∷
    keyword.Generate ∷
    keyword.Link ∷
    keyword.Path ∷
    keyword.Within ∷
    keyword.Audit ∷
    keyword.Core ∷
    keyword.Where ∷
    keyword.And ∷
    keyword.Or ∷
    keyword.Not ∷
    keyword.Implies ∷
    keyword.Iff ∷
    keyword.Forall ∷
    keyword.Exists ∷
    keyword.In ∷
    keyword.To ∷
    keyword.True ∷
    keyword.False ∷
    []

-- the word is a keyword
unfoldable pub is_keyword : List ℕ → Bool
is_keyword word = list_any (λ keyword. bytes_eq word (letters keyword)) keywords
