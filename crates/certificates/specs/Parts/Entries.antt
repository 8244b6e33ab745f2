-- Entries of a list within a line, and the lists that texts begin with.
use Rattle.std.specs.Prelude.{◌≡◌, ℕ, ◌+◌, ◌^◌, ◌<◌, List, ◌∷◌, ◌++◌}
use Rattle.std.specs.Fmt.{decimal}
use Rattle.std.specs.List.{All}
use Rattle.cnf.specs.declared.lit.Lit.{Lit}
use Rattle.certificates.specs.Text.{listed}

-- the word spells the number, which is below 2^62
pub record IsNumber (word : List ℕ) (n : ℕ) : Type 0 where
  pub small : n < 2 ^ 62
  pub text : word ≡ decimal n

-- the literal has a text
abbrev pub IsWritableLit : Lit → Type 0
IsWritableLit l = l.var + 1 < 2 ^ 62

-- the text begins with this entry and a blank, and the rest stands behind
pub record BeginsEntry {X : Type 0} (Fits : X → Type 0) (entry_text : X → List ℕ) (text : List ℕ)
    (x : X) (rest : List ℕ) : Type 0 where
  pub fits : Fits x
  pub whole : text ≡ entry_text x ++ 32 ∷ rest

-- the text begins with the list of these entries, and the rest stands behind
pub record BeginsList {X : Type 0} (Fits : X → Type 0) (entry_text : X → List ℕ) (text : List ℕ)
    (xs : List X) (rest : List ℕ) : Type 0 where
  pub fit : All Fits xs
  pub whole : text ≡ listed entry_text xs ++ rest
