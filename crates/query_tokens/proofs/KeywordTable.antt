-- The list of keywords has each of them.
use Rattle.std.proofs.Common.{◌≡◌, ℕ, true, List, All, Option, Some, None, IfNone, find, refl, ap, lit<}
use Rattle.std.specs.Str.{bytes_eq}
use Rattle.query_tokens.specs.declared.keyword.Keyword.{Keyword}
use Rattle.query_tokens.specs.declared.keyword.Keyword.TheVariants as keyword
use Rattle.query_tokens.specs.Keywords.{letters, IsNoKeyword, keywords}
use Rattle.query_tokens.specs.Words.{begins_with_letter}

-- a word that is none of them is no keyword
pub none_of_the_keywords : (word : List ℕ) → All (λ keyword. word ≡ letters keyword → ⊥) keywords → IsNoKeyword word
none_of_the_keywords word none keyword.Load = none 0 keyword.Load (lit< tt)
none_of_the_keywords word none keyword.Vocab = none 1 keyword.Vocab (lit< tt)
none_of_the_keywords word none keyword.Policy = none 2 keyword.Policy (lit< tt)
none_of_the_keywords word none keyword.Ios = none 3 keyword.Ios (lit< tt)
none_of_the_keywords word none keyword.Iptables = none 4 keyword.Iptables (lit< tt)
none_of_the_keywords word none keyword.As = none 5 keyword.As (lit< tt)
none_of_the_keywords word none keyword.Explore = none 6 keyword.Explore (lit< tt)
none_of_the_keywords word none keyword.Under = none 7 keyword.Under (lit< tt)
none_of_the_keywords word none keyword.Include = none 8 keyword.Include (lit< tt)
none_of_the_keywords word none keyword.Is = none 9 keyword.Is (lit< tt)
none_of_the_keywords word none keyword.Possible = none 10 keyword.Possible (lit< tt)
none_of_the_keywords word none keyword.Show = none 11 keyword.Show (lit< tt)
none_of_the_keywords word none keyword.One = none 12 keyword.One (lit< tt)
none_of_the_keywords word none keyword.First = none 13 keyword.First (lit< tt)
none_of_the_keywords word none keyword.All = none 14 keyword.All (lit< tt)
none_of_the_keywords word none keyword.Full = none 15 keyword.Full (lit< tt)
none_of_the_keywords word none keyword.Up = none 16 keyword.Up (lit< tt)
none_of_the_keywords word none keyword.Realized = none 17 keyword.Realized (lit< tt)
none_of_the_keywords word none keyword.Unrealized = none 18 keyword.Unrealized (lit< tt)
none_of_the_keywords word none keyword.Bounds = none 19 keyword.Bounds (lit< tt)
none_of_the_keywords word none keyword.Proof = none 20 keyword.Proof (lit< tt)
none_of_the_keywords word none keyword.Compare = none 21 keyword.Compare (lit< tt)
none_of_the_keywords word none keyword.Decide = none 22 keyword.Decide (lit< tt)
none_of_the_keywords word none keyword.Generate = none 23 keyword.Generate (lit< tt)
none_of_the_keywords word none keyword.Link = none 24 keyword.Link (lit< tt)
none_of_the_keywords word none keyword.Path = none 25 keyword.Path (lit< tt)
none_of_the_keywords word none keyword.Within = none 26 keyword.Within (lit< tt)
none_of_the_keywords word none keyword.Audit = none 27 keyword.Audit (lit< tt)
none_of_the_keywords word none keyword.Core = none 28 keyword.Core (lit< tt)
none_of_the_keywords word none keyword.Where = none 29 keyword.Where (lit< tt)
none_of_the_keywords word none keyword.And = none 30 keyword.And (lit< tt)
none_of_the_keywords word none keyword.Or = none 31 keyword.Or (lit< tt)
none_of_the_keywords word none keyword.Not = none 32 keyword.Not (lit< tt)
none_of_the_keywords word none keyword.Implies = none 33 keyword.Implies (lit< tt)
none_of_the_keywords word none keyword.Iff = none 34 keyword.Iff (lit< tt)
none_of_the_keywords word none keyword.Forall = none 35 keyword.Forall (lit< tt)
none_of_the_keywords word none keyword.Exists = none 36 keyword.Exists (lit< tt)
none_of_the_keywords word none keyword.In = none 37 keyword.In (lit< tt)
none_of_the_keywords word none keyword.To = none 38 keyword.To (lit< tt)
none_of_the_keywords word none keyword.True = none 39 keyword.True (lit< tt)
none_of_the_keywords word none keyword.False = none 40 keyword.False (lit< tt)

pub none_found : (word : List ℕ) (found : Option Keyword) → IfNone found (All (λ keyword. word ≡ letters keyword → ⊥) keywords) → IfNone found (IsNoKeyword word)
none_found word (Some keyword) none = tt
none_found word None none = none_of_the_keywords word none

-- the keyword at its letters
abbrev read : List ℕ → Option Keyword
read word = find (λ keyword. bytes_eq word (letters keyword)) keywords

letters-read : (keyword : Keyword) → read (letters keyword) ≡ Some keyword
letters-read keyword.Load = refl
letters-read keyword.Vocab = refl
letters-read keyword.Policy = refl
letters-read keyword.Ios = refl
letters-read keyword.Iptables = refl
letters-read keyword.As = refl
letters-read keyword.Explore = refl
letters-read keyword.Under = refl
letters-read keyword.Include = refl
letters-read keyword.Is = refl
letters-read keyword.Possible = refl
letters-read keyword.Show = refl
letters-read keyword.One = refl
letters-read keyword.First = refl
letters-read keyword.All = refl
letters-read keyword.Full = refl
letters-read keyword.Up = refl
letters-read keyword.Realized = refl
letters-read keyword.Unrealized = refl
letters-read keyword.Bounds = refl
letters-read keyword.Proof = refl
letters-read keyword.Compare = refl
letters-read keyword.Decide = refl
letters-read keyword.Generate = refl
letters-read keyword.Link = refl
letters-read keyword.Path = refl
letters-read keyword.Within = refl
letters-read keyword.Audit = refl
letters-read keyword.Core = refl
letters-read keyword.Where = refl
letters-read keyword.And = refl
letters-read keyword.Or = refl
letters-read keyword.Not = refl
letters-read keyword.Implies = refl
letters-read keyword.Iff = refl
letters-read keyword.Forall = refl
letters-read keyword.Exists = refl
letters-read keyword.In = refl
letters-read keyword.To = refl
letters-read keyword.True = refl
letters-read keyword.False = refl

-- keywords differ in their letters
pub letters_differ : (first second : Keyword) → letters first ≡ letters second → first ≡ second
letters_differ first second same = let e = ap read same in let first_read = letters-read first in let second_read = letters-read second in cc

-- each begins with a letter
pub letters_begin : (keyword : Keyword) → begins_with_letter (letters keyword) ≡ true
letters_begin keyword.Load = refl
letters_begin keyword.Vocab = refl
letters_begin keyword.Policy = refl
letters_begin keyword.Ios = refl
letters_begin keyword.Iptables = refl
letters_begin keyword.As = refl
letters_begin keyword.Explore = refl
letters_begin keyword.Under = refl
letters_begin keyword.Include = refl
letters_begin keyword.Is = refl
letters_begin keyword.Possible = refl
letters_begin keyword.Show = refl
letters_begin keyword.One = refl
letters_begin keyword.First = refl
letters_begin keyword.All = refl
letters_begin keyword.Full = refl
letters_begin keyword.Up = refl
letters_begin keyword.Realized = refl
letters_begin keyword.Unrealized = refl
letters_begin keyword.Bounds = refl
letters_begin keyword.Proof = refl
letters_begin keyword.Compare = refl
letters_begin keyword.Decide = refl
letters_begin keyword.Generate = refl
letters_begin keyword.Link = refl
letters_begin keyword.Path = refl
letters_begin keyword.Within = refl
letters_begin keyword.Audit = refl
letters_begin keyword.Core = refl
letters_begin keyword.Where = refl
letters_begin keyword.And = refl
letters_begin keyword.Or = refl
letters_begin keyword.Not = refl
letters_begin keyword.Implies = refl
letters_begin keyword.Iff = refl
letters_begin keyword.Forall = refl
letters_begin keyword.Exists = refl
letters_begin keyword.In = refl
letters_begin keyword.To = refl
letters_begin keyword.True = refl
letters_begin keyword.False = refl
