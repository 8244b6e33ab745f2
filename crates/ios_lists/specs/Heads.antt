-- Heads of blocks, by the words behind `ip access-list` (Cisco IOS command references, `ip access-list`).
use Rattle.std.specs.Prelude.{◌≡◌, ℕ, Bool, true, false, not, List, [], ◌∷◌, Some, codes}
use Rattle.ios_lex.specs.declared.reason.IosReason.{IosReason}
use Rattle.ios_lex.specs.declared.reason.IosReason.TheVariants as ios
use Rattle.ios_lex.specs.Phrases.{Words}
use Rattle.ios_lex.specs.Refusal.{is_among}
use Rattle.ios_lex.specs.ListNames.{IsListNumber, has_kind, is_name, FitsName}
use Rattle.ios_acl.specs.Block.{kind_word}
use Rattle.ios_acl.specs.List.{AccessList}
use Rattle.ios_lists.specs.Lists.{list_named, with_list, kind_named, FitsLists, name_at}

-- the head of the block of a list of this name and kind
pub record IsHead (lists : List AccessList) (words : Words) (name : List ℕ) (extended : Bool)
    : Type 0 where
  pub whole : words ≡ kind_word extended ∷ name ∷ []
  pub fits_name : FitsName name extended
  pub fits_lists : FitsLists lists name extended
  pub bytes : is_name name ≡ true

-- a head begins its list, where there is none of its name, and the list stands at this place
pub record OpensBlock (lists : List AccessList) (words : Words) (new : List AccessList)
    (place : ℕ) : Type 0 where
  pub name : List ℕ
  pub extended : Bool
  pub head : IsHead lists words name extended
  pub put : new ≡ with_list lists (list_named lists name extended)
  pub at : name_at new place ≡ Some name

-- why the head of a block is refused: its kind is judged first, then its name's, then how many
-- words there are, then the bytes of the name
pub data IsBlockRefused (lists : List AccessList) : Words → IosReason → Type 0 where
  short : IsBlockRefused lists [] ios.BadEntry
  not_modelled : (word : List ℕ) (rest : Words)
      → is_among (codes "standard" ∷ codes "extended" ∷ []) word ≡ false
      → IsBlockRefused lists (word ∷ rest) (ios.Unmodelled word)
  nameless : (extended : Bool) → IsBlockRefused lists (kind_word extended ∷ []) ios.BadEntry
  kind : (extended : Bool) (name : List ℕ) (n : ℕ) (rest : Words) → IsListNumber name n
      → has_kind (not extended) n ≡ true
      → IsBlockRefused lists (kind_word extended ∷ name ∷ rest) ios.WrongKind
  begun : (extended : Bool) (name : List ℕ) (rest : Words) → FitsName name extended
      → kind_named lists name ≡ Some (not extended)
      → IsBlockRefused lists (kind_word extended ∷ name ∷ rest) ios.WrongKind
  long : (extended : Bool) (name word : List ℕ) (rest : Words) → FitsName name extended
      → FitsLists lists name extended
      → IsBlockRefused lists (kind_word extended ∷ name ∷ word ∷ rest) ios.BadEntry
  bytes : (extended : Bool) (name : List ℕ) → FitsName name extended
      → FitsLists lists name extended → is_name name ≡ false
      → IsBlockRefused lists (kind_word extended ∷ name ∷ []) ios.BadEntry
