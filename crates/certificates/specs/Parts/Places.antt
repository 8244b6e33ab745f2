-- Places in the lines of a text: the head, and the line at which items stop.
use Rattle.std.specs.Prelude.{◌≡◌, ℕ, ◌+◌, ◌^◌, ◌<◌, List, ◌∷◌, ◌++◌, length, map}
use Rattle.std.specs.List.{All}
use Rattle.certificates.specs.declared.derivation.Item.{Item}
use Rattle.certificates.specs.declared.fault.CertFault.{CertFault}
use Rattle.certificates.specs.declared.fault.CertFault.TheVariants as fault
use Rattle.certificates.specs.Writable.{IsWritableItem}
use Rattle.certificates.specs.Text.{head_word, head_text, item_text, qed_text}
use Rattle.certificates.specs.Reading.{IsBeforeHead, IsItemOf, IsSomeVersion}

-- the line of this number is the first that begins as a head does; this stands behind its first word, and these lines
-- behind it
pub record IsHeadAt (lines : List (List ℕ)) (number : ℕ) (words : List ℕ)
    (behind : List (List ℕ)) : Type 0 where
  pub skipped : List (List ℕ)
  pub whole : lines ≡ skipped ++ (head_word ++ words) ∷ behind
  pub before : All IsBeforeHead skipped
  pub place : number ≡ length skipped + 1

-- no line begins as a head does, and this is the number behind the last
pub record HasNoHead (lines : List (List ℕ)) (number : ℕ) : Type 0 where
  pub before : All IsBeforeHead lines
  pub place : number ≡ length lines + 1

-- the line is the head of a text of this version, for the question at this line
pub record IsHead (words : List ℕ) (version line : ℕ) : Type 0 where
  pub some : IsSomeVersion version
  pub small : line < 2 ^ 62
  pub text : head_word ++ words ≡ head_text version line

-- the item has a text in this version, which is the line
pub record IsItemLine (version : ℕ) (line : List ℕ) (item : Item) : Type 0 where
  pub writable : IsWritableItem item
  pub of_version : IsItemOf version item
  pub text : line ≡ item_text item

-- items that have a text in this version
pub record AreItems (version : ℕ) (items : List Item) : Type 0 where
  pub writable : All IsWritableItem items
  pub of_version : All (IsItemOf version) items

-- the lines are those of the items, qed, and others
pub record EndsItems (version : ℕ) (lines : List (List ℕ)) (items : List Item) : Type 0 where
  pub are : AreItems version items
  pub behind : List (List ℕ)
  pub whole : lines ≡ map item_text items ++ qed_text ∷ behind

-- the lines, the first of this number, are items up to one that is none and not qed, at the other number; or they are
-- items, and that is the number behind the last
pub data StopsItems (version : ℕ) (lines : List (List ℕ)) (first number : ℕ) : Type 0 where
  at : (items : List Item) (bad : List ℕ) (behind : List (List ℕ)) → AreItems version items
      → lines ≡ map item_text items ++ bad ∷ behind
      → ((item : Item) → IsItemLine version bad item → ⊥) → (bad ≡ qed_text → ⊥)
      → number ≡ first + length items → StopsItems version lines first number
  end : (items : List Item) → AreItems version items → lines ≡ map item_text items
      → number ≡ first + length items → StopsItems version lines first number

-- the lines stop being items at the line that is blamed; memory may be wanting at any time
abbrev pub IsItemsFault : ℕ → List (List ℕ) → ℕ → CertFault → Type 0
IsItemsFault version lines first (fault.Malformed line) = StopsItems version lines first line
IsItemsFault version lines first (fault.Version line) = ⊥
IsItemsFault version lines first fault.NoMemory = Unit {0}
