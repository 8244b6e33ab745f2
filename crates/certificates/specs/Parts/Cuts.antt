-- A text that is cut in two at the first byte of a kind.
use Rattle.std.specs.Prelude.{◌≡◌, ℕ, ◌==◌, false, List, ◌∷◌, ◌++◌}
use Rattle.std.specs.List.{list_any}

-- the byte is nowhere in the text
abbrev pub IsFree : ℕ → List ℕ → Type 0
IsFree byte text = list_any (λ b. b == byte) text ≡ false

-- the text is the front, the byte and the rest, and the front is free of the byte
pub record IsCut (byte : ℕ) (text front rest : List ℕ) : Type 0 where
  pub whole : text ≡ front ++ byte ∷ rest
  pub free : IsFree byte front
