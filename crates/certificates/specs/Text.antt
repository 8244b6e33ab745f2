-- The text of a certificate: a line that begins it, one for each item, and the word qed.
use Rattle.std.specs.Prelude.{ℕ, ◌+◌, Bool, true, false, List, [], ◌∷◌, ◌++◌, map, codes}
use Rattle.std.specs.Fmt.{decimal}
use Rattle.std.specs.List.{flat_map}
use Rattle.cnf.specs.declared.lit.Lit.{Lit}
use Rattle.certificates.specs.declared.derivation.Step.{Step}
use Rattle.certificates.specs.declared.derivation.Item.{Item}
use Rattle.certificates.specs.declared.derivation.Item.TheVariants as item
use Rattle.certificates.specs.declared.derivation.Certificate.{Certificate}

-- a minus sign before a negative literal
abbrev pub minus : Bool → List ℕ
minus true = codes "-"
minus false = []

-- variables are counted from 0, and written from 1
unfoldable pub lit_text : Lit → List ℕ
lit_text l = minus l.negative ++ decimal (l.var + 1)

-- the texts of a list, each with a blank behind it, and a 0 at the end
unfoldable pub listed : {X : Type 0} → (X → List ℕ) → List X → List ℕ
listed text xs = flat_map (λ x. text x ++ codes " ") xs ++ codes "0"

abbrev pub lits_text : List Lit → List ℕ
lits_text lits = listed lit_text lits

abbrev pub numbers_text : List ℕ → List ℕ
numbers_text numbers = listed decimal numbers

-- the literals, and the numbers of the clauses that show them
unfoldable pub step_text : Step → List ℕ
step_text step = lits_text step.clause ++ (codes " " ++ numbers_text step.hints)

-- d, and the numbers of the clauses that are named no more
unfoldable pub delete_text : List ℕ → List ℕ
delete_text numbers = codes "d " ++ numbers_text numbers

abbrev pub item_text : Item → List ℕ
item_text (item.Add step) = step_text step
item_text (item.Delete numbers) = delete_text numbers

-- what a head begins with
unfoldable pub head_word : List ℕ
head_word = codes "margrave-proof "

-- the version of the text, and the line of the question
unfoldable pub head_text : ℕ → ℕ → List ℕ
head_text version line = head_word ++ (decimal version ++ (codes " " ++ decimal line))

unfoldable pub qed_text : List ℕ
qed_text = codes "qed"

-- the lines of a certificate in a version
abbrev pub certificate_lines : ℕ → Certificate → List (List ℕ)
certificate_lines version certificate =
    head_text version certificate.line ∷ (map item_text certificate.derivation ++ qed_text ∷ [])

-- each line, and the line feed that ends it
abbrev pub lines_text : List (List ℕ) → List ℕ
lines_text lines = flat_map (λ line. line ++ codes "\n") lines

-- the text as it is written
unfoldable pub certificate_text : Certificate → List ℕ
certificate_text certificate = lines_text (certificate_lines 2 certificate)
