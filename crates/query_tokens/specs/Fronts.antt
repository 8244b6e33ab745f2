-- A front of some bytes that is as long as it can be.
use Rattle.std.specs.Prelude.{◌≡◌, ℕ, Bool, false, List, [], ◌∷◌, ⊤}
use Rattle.std.specs.List.{AllPass}

-- the bytes are none, or the first of them fails the test
abbrev pub Stops : (ℕ → Bool) → List ℕ → Type 0
Stops test [] = ⊤
Stops test (byte ∷ more) = test byte ≡ false

-- the front is of bytes that pass the test, and behind it stands none that does
pub record IsLongest (test : ℕ → Bool) (front rest : List ℕ) : Type 0 where
  pub passes : AllPass test front
  pub stops : Stops test rest
