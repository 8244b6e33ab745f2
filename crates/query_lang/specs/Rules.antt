-- What a grammar allows.
use Rattle.std.specs.Prelude.{ℕ, Bool, ◌||◌, nat_lt}

-- `opens level behind`: a token opens one more level where so many are open and so many tokens stand behind it.
-- `asks`: a statement may ask before any EXPLORE
pub record Rules : Type 0 where
  pub opens : ℕ → ℕ → Bool
  pub asks : Bool

-- at most so many levels, but that the last tokens, `free` of them, may open any
abbrev pub levelled : ℕ → ℕ → Bool → Rules
levelled levels free asks =
    record { opens = λ level behind. nat_lt level levels || nat_lt behind free; asks = asks }
