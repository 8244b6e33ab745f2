-- Named blocks of a configuration: which texts are read as one list (Cisco IOS command references, `ip access-list`).
use Rattle.std.specs.Prelude.{◌≡◌, ℕ, ◌<◌, Bool, true, false, List, [], ◌∷◌, length, map, codes}
use Rattle.std.specs.List.{AllByRecursion}
use Rattle.ios_lex.specs.RawLines.{raw_lines}
use Rattle.ios_lex.specs.Lines.{Reading, AreLines}
use Rattle.ios_lex.specs.Phrases.{Words}
use Rattle.ios_lex.specs.ListNames.{is_name, FitsName}
use Rattle.ios_acl.specs.List.{AccessList}
use Rattle.ios_acl.specs.Reading.{Reads}

-- the list becomes `new` when the lines are read one after another
pub data ReadsAll : AccessList → List Words → AccessList → Type 0 where
  end : (list : AccessList) → ReadsAll list [] list
  line : (list next new : AccessList) (words : Words) (lines : List Words) → Reads list words next
      → ReadsAll next lines new → ReadsAll list (words ∷ lines) new

abbrev pub empty_list : List ℕ → Bool → AccessList
empty_list name extended = record { name = name; extended = extended; entries = [] }

abbrev pub kind_word : Bool → List ℕ
kind_word true = codes "extended"
kind_word false = codes "standard"

-- the line that opens the block of this list
pub record OpensBlock (list : AccessList) (line : Reading) : Type 0 where
  pub words :
      line.words ≡ codes "ip" ∷ codes "access-list" ∷ kind_word list.extended ∷ list.name ∷ []
  pub unindented : line.indented ≡ false
  pub outside : line.banner ≡ false

-- a line within a block
pub record IsWithinBlock (line : Reading) : Type 0 where
  pub indented : line.indented ≡ true
  pub outside : line.banner ≡ false

-- the lines of the text are the one that opens the block of the list, and those within it, of which the list is read
pub record IsBlock (text : List ℕ) (list : AccessList) : Type 0 where
  pub opening : Reading
  pub lines : List Reading
  pub whole : AreLines 1 (raw_lines text) (opening ∷ lines)
  pub opens : OpensBlock list opening
  pub within : AllByRecursion IsWithinBlock lines
  pub reads :
      ReadsAll (empty_list list.name list.extended)
      (map (λ (line : Reading). line.words) lines) list

-- the name can stand in the line that opens the block of a list of this kind
pub record IsBlockName (extended : Bool) (name : List ℕ) : Type 0 where
  pub some : 0 < length name
  pub bytes : is_name name ≡ true
  pub fits : FitsName name extended
