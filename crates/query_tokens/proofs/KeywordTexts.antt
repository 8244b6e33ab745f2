-- Keywords are written in ASCII.
use Rattle.std.proofs.Common.{rules}
use Rattle.std.specs.Str.{IsAscii}
use Rattle.query_tokens.specs.declared.keyword.Keyword.{Keyword}
use Rattle.query_tokens.specs.declared.keyword.Keyword.TheVariants as keyword
use Rattle.query_tokens.specs.Keywords.{letters}

pub letters_are_ascii : (w : Keyword) → IsAscii (letters w)
letters_are_ascii keyword.Load = search rules
letters_are_ascii keyword.Vocab = search rules
letters_are_ascii keyword.Policy = search rules
letters_are_ascii keyword.Ios = search rules
letters_are_ascii keyword.Iptables = search rules
letters_are_ascii keyword.As = search rules
letters_are_ascii keyword.Explore = search rules
letters_are_ascii keyword.Under = search rules
letters_are_ascii keyword.Include = search rules
letters_are_ascii keyword.Is = search rules
letters_are_ascii keyword.Possible = search rules
letters_are_ascii keyword.Show = search rules
letters_are_ascii keyword.One = search rules
letters_are_ascii keyword.First = search rules
letters_are_ascii keyword.All = search rules
letters_are_ascii keyword.Full = search rules
letters_are_ascii keyword.Up = search rules
letters_are_ascii keyword.Realized = search rules
letters_are_ascii keyword.Unrealized = search rules
letters_are_ascii keyword.Bounds = search rules
letters_are_ascii keyword.Proof = search rules
letters_are_ascii keyword.Compare = search rules
letters_are_ascii keyword.Decide = search rules
letters_are_ascii keyword.Generate = search rules
letters_are_ascii keyword.Link = search rules
letters_are_ascii keyword.Path = search rules
letters_are_ascii keyword.Within = search rules
letters_are_ascii keyword.Audit = search rules
letters_are_ascii keyword.Core = search rules
letters_are_ascii keyword.Where = search rules
letters_are_ascii keyword.And = search rules
letters_are_ascii keyword.Or = search rules
letters_are_ascii keyword.Not = search rules
letters_are_ascii keyword.Implies = search rules
letters_are_ascii keyword.Iff = search rules
letters_are_ascii keyword.Forall = search rules
letters_are_ascii keyword.Exists = search rules
letters_are_ascii keyword.In = search rules
letters_are_ascii keyword.To = search rules
letters_are_ascii keyword.True = search rules
letters_are_ascii keyword.False = search rules
