-- Entries and remarks: with which words they begin, and what they make of the list of a name.
use Rattle.std.specs.Prelude.{◌≡◌, ℕ, Bool, true, false, List, [], ◌∷◌, codes}
use Rattle.ios_lex.specs.declared.reason.IosReason.{IosReason}
use Rattle.ios_lex.specs.declared.reason.IosReason.TheVariants as ios
use Rattle.ios_lex.specs.Phrases.{Words}
use Rattle.ios_lex.specs.Refusal.{is_among}
use Rattle.ios_acl.specs.List.{AccessList}
use Rattle.ios_acl.specs.Reading.{Reads}
use Rattle.ios_acl.specs.Refusal.{unmodelled}
use Rattle.ios_lists.specs.Lists.{list_named, with_list}

-- the words of an entry or a remark
abbrev pub rule_words : Words
rule_words = codes "permit" ∷ codes "deny" ∷ codes "remark" ∷ []

-- behind the number of a list these words are not modelled
abbrev pub unmodelled_words : Words
unmodelled_words = codes "dynamic" ∷ unmodelled

-- the words begin an entry or a remark
pub record BeginsRule (words : Words) : Type 0 where
  pub first : List ℕ
  pub rest : Words
  pub whole : words ≡ first ∷ rest
  pub among : is_among rule_words first ≡ true

-- they begin none
pub data IsNoRule : Words → IosReason → Type 0 where
  none : IsNoRule [] ios.BadEntry
  not_modelled : (first : List ℕ) (rest : Words) → is_among unmodelled_words first ≡ true
      → IsNoRule (first ∷ rest) (ios.Unmodelled first)
  other : (first : List ℕ) (rest : Words) → is_among unmodelled_words first ≡ false
      → is_among rule_words first ≡ false → IsNoRule (first ∷ rest) ios.BadEntry

-- the list of this name takes the words; it is begun as one of this kind where there is none
pub record ReadsInto (lists : List AccessList) (name : List ℕ) (extended : Bool) (words : Words)
    (new : List AccessList) : Type 0 where
  pub made : AccessList
  pub reads : Reads (list_named lists name extended) words made
  pub put : new ≡ with_list lists made
