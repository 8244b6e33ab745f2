-- What comes of a line of a numbered list, by the order in which it is judged.
use Rattle.std.proofs.Common.{◌≡◌, ℕ, Bool, true, false, not, List, [], ◌∷◌, Some, Result, Ok, Err}
use Rattle.ios_lex.specs.declared.reason.IosReason.{IosReason}
use Rattle.ios_lex.specs.declared.reason.IosReason.TheVariants as ios
use Rattle.ios_lex.specs.Phrases.{Words}
use Rattle.ios_lex.specs.ListNames.{IsListNumber, has_kind, is_standard, is_extended, is_foreign}
use Rattle.ios_acl.specs.List.{AccessList}
use Rattle.ios_acl.specs.Reading as list
use Rattle.ios_lex.specs.declared.taken.Taken.{Taken}
use Rattle.ios_lex.specs.declared.taken.Taken.TheVariants as taken
use Rattle.ios_lists.specs.Lists.{list_named, with_list, kind_named, FitsLists}
use Rattle.ios_lists.specs.Rules.{BeginsRule, IsNoRule}

-- the lists behind a line and what becomes of it, or why it is refused
abbrev pub Outcome : Type 0
Outcome = Result (List AccessList × Taken) IosReason

-- what comes of the words behind the number of a list
pub data RuleOutcome (of : AccessList) (lists : List AccessList) (words : Words) : Outcome → Type 0 where
  no_rule : (why : IosReason) → IsNoRule words why → RuleOutcome of lists words (Err why)
  read : (made : AccessList) → BeginsRule words → list.Reads of words made → RuleOutcome of lists words (Ok (with_list lists made, taken.Modelled))
  refused : (why : IosReason) → BeginsRule words → list.IsRefused of words why → RuleOutcome of lists words (Err why)

pub data KindOutcome (lists : List AccessList) (name : List ℕ) (extended : Bool) (words : Words) : Outcome → Type 0 where
  begun : kind_named lists name ≡ Some (not extended) → KindOutcome lists name extended words (Err ios.WrongKind)
  fits : (outcome : Outcome) → FitsLists lists name extended → RuleOutcome (list_named lists name extended) lists words outcome → KindOutcome lists name extended words outcome

abbrev pub foreign_outcome : List AccessList → Bool → Outcome
foreign_outcome lists true = Ok (lists, taken.Ignored)
foreign_outcome lists false = Err ios.WrongKind

pub data NumberOutcome (lists : List AccessList) (name : List ℕ) (n : ℕ) (words : Words) : Outcome → Type 0 where
  no_kind : is_standard n ≡ false → is_extended n ≡ false → NumberOutcome lists name n words (foreign_outcome lists (is_foreign n))
  kind : (extended : Bool) (outcome : Outcome) → has_kind extended n ≡ true → KindOutcome lists name extended words outcome → NumberOutcome lists name n words outcome

-- the words behind `access-list`
pub data NumberedOutcome (lists : List AccessList) : Words → Outcome → Type 0 where
  short : NumberedOutcome lists [] (Err ios.BadEntry)
  unnumbered : (name : List ℕ) (words : Words) → ((n : ℕ) → IsListNumber name n → ⊥) → NumberedOutcome lists (name ∷ words) (Err ios.BadNumber)
  number : (name : List ℕ) (words : Words) (n : ℕ) (outcome : Outcome) → IsListNumber name n → NumberOutcome lists name n words outcome → NumberedOutcome lists (name ∷ words) outcome
