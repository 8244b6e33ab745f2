-- What a sink has taken before a write and after it, where it is told.
use Rattle.std.specs.Prelude.{◌≡◌, ℕ, List, ◌++◌, Option, Some, None}

-- just these bytes were taken
abbrev pub Takes : Option (List ℕ) → Option (List ℕ) → List ℕ → Type 0
Takes None after bytes = after ≡ None
Takes (Some before) after bytes = after ≡ Some (before ++ bytes)

-- a front of these bytes was taken
pub record TakesFront (before after : Option (List ℕ)) (bytes : List ℕ) : Type 0 where
  pub front : List ℕ
  pub rest : List ℕ
  pub whole : bytes ≡ front ++ rest
  pub taken : Takes before after front
