-- What comes of a head, by the order in which it is judged.
use Rattle.std.proofs.Common.{◌≡◌, ℕ, Bool, true, false, not, List, [], ◌∷◌, Some, Result, Ok, Err, codes}
use Rattle.ios_lex.specs.declared.reason.IosReason.{IosReason}
use Rattle.ios_lex.specs.declared.reason.IosReason.TheVariants as ios
use Rattle.ios_lex.specs.Phrases.{Words}
use Rattle.ios_lex.specs.Refusal.{is_among}
use Rattle.ios_lex.specs.ListNames.{IsListNumber, has_kind, is_name, FitsName}
use Rattle.ios_acl.specs.Block.{kind_word}
use Rattle.ios_acl.specs.List.{AccessList}
use Rattle.ios_lists.specs.Lists.{kind_named, FitsLists}

-- the name and the kind of the list whose block is opened, or why the head is refused
abbrev pub Outcome : Type 0
Outcome = Result (List ℕ × Bool) IosReason

-- the words behind a name that fits
pub data NameOutcome (name : List ℕ) (extended : Bool) : Words → Outcome → Type 0 where
  long : (word : List ℕ) (rest : Words) → NameOutcome name extended (word ∷ rest) (Err ios.BadEntry)
  bytes : is_name name ≡ false → NameOutcome name extended [] (Err ios.BadEntry)
  opened : is_name name ≡ true → NameOutcome name extended [] (Ok (name, extended))

pub data FitOutcome (lists : List AccessList) (name : List ℕ) (extended : Bool) (more : Words) : Outcome → Type 0 where
  number : (n : ℕ) → IsListNumber name n → has_kind (not extended) n ≡ true → FitOutcome lists name extended more (Err ios.WrongKind)
  begun : kind_named lists name ≡ Some (not extended) → FitOutcome lists name extended more (Err ios.WrongKind)
  fits : (outcome : Outcome) → FitsName name extended → FitsLists lists name extended → NameOutcome name extended more outcome → FitOutcome lists name extended more outcome

-- the words behind the kind of a block
pub data KindOutcome (lists : List AccessList) (extended : Bool) : Words → Outcome → Type 0 where
  nameless : KindOutcome lists extended [] (Err ios.BadEntry)
  named : (name : List ℕ) (more : Words) (outcome : Outcome) → FitOutcome lists name extended more outcome → KindOutcome lists extended (name ∷ more) outcome

-- the words behind `ip access-list`
pub data HeadOutcome (lists : List AccessList) : Words → Outcome → Type 0 where
  short : HeadOutcome lists [] (Err ios.BadEntry)
  other : (word : List ℕ) (rest : Words) → is_among (codes "standard" ∷ codes "extended" ∷ []) word ≡ false → HeadOutcome lists (word ∷ rest) (Err (ios.Unmodelled word))
  kind : (word : List ℕ) (rest : Words) (extended : Bool) (outcome : Outcome) → word ≡ kind_word extended → KindOutcome lists extended rest outcome → HeadOutcome lists (word ∷ rest) outcome
