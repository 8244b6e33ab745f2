-- Lines of numbered lists, by the words behind `access-list` (Cisco IOS command references, `access-list`).
use Rattle.std.specs.Prelude.{◌≡◌, ℕ, Bool, true, false, not, List, [], ◌∷◌, Some}
use Rattle.ios_lex.specs.declared.reason.IosReason.{IosReason}
use Rattle.ios_lex.specs.declared.reason.IosReason.TheVariants as ios
use Rattle.ios_lex.specs.Phrases.{Words}
use Rattle.ios_lex.specs.ListNames.{IsListNumber, has_kind, is_standard, is_extended, is_foreign}
use Rattle.ios_acl.specs.List.{AccessList}
use Rattle.ios_acl.specs.Reading as list
use Rattle.ios_lex.specs.declared.taken.Taken.{Taken}
use Rattle.ios_lex.specs.declared.taken.Taken.TheVariants as taken
use Rattle.ios_lists.specs.Lists.{list_named, kind_named, FitsLists}
use Rattle.ios_lists.specs.Rules.{BeginsRule, IsNoRule, ReadsInto}

-- the name is a number of lists of this kind, and no list of the name has the other
pub record IsNumbered (lists : List AccessList) (name : List ℕ) (extended : Bool) : Type 0 where
  pub n : ℕ
  pub number : IsListNumber name n
  pub kind : has_kind extended n ≡ true
  pub fits : FitsLists lists name extended

-- what a line makes of the lists
pub data ReadsNumbered (lists : List AccessList) (words : Words) (new : List AccessList)
    : Taken → Type 0 where
  modelled : (name : List ℕ) (extended : Bool) (rule : Words) → words ≡ name ∷ rule
      → IsNumbered lists name extended → BeginsRule rule → ReadsInto lists name extended rule new
      → ReadsNumbered lists words new taken.Modelled
  -- lists of other protocols are not modelled, and their lines are ignored
  foreign : (name : List ℕ) (n : ℕ) (rest : Words) → words ≡ name ∷ rest
      → IsListNumber name n → is_foreign n ≡ true → new ≡ lists
      → ReadsNumbered lists words new taken.Ignored

-- why a line is refused: its number is judged first, then its kind, then the word behind it
pub data IsNumberedRefused (lists : List AccessList) : Words → IosReason → Type 0 where
  short : IsNumberedRefused lists [] ios.BadEntry
  number : (name : List ℕ) (rule : Words) → ((n : ℕ) → IsListNumber name n → ⊥)
      → IsNumberedRefused lists (name ∷ rule) ios.BadNumber
  kind : (name : List ℕ) (n : ℕ) (rule : Words) → IsListNumber name n
      → is_standard n ≡ false → is_extended n ≡ false → is_foreign n ≡ false
      → IsNumberedRefused lists (name ∷ rule) ios.WrongKind
  begun : (name : List ℕ) (n : ℕ) (extended : Bool) (rule : Words) → IsListNumber name n
      → has_kind extended n ≡ true → kind_named lists name ≡ Some (not extended)
      → IsNumberedRefused lists (name ∷ rule) ios.WrongKind
  no_rule : (name : List ℕ) (extended : Bool) (rule : Words) (why : IosReason)
      → IsNumbered lists name extended → IsNoRule rule why
      → IsNumberedRefused lists (name ∷ rule) why
  rule : (name : List ℕ) (extended : Bool) (rule : Words) (why : IosReason)
      → IsNumbered lists name extended → BeginsRule rule
      → list.IsRefused (list_named lists name extended) rule why
      → IsNumberedRefused lists (name ∷ rule) why
