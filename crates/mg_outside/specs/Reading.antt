-- What an answer of a read says of the bytes that a file holds, where these are told, and of what was read.
use Rattle.std.specs.Prelude.{◌≡◌, ◌⊎◌, ℕ, ◌<◌, ◌≤◌, List, [], ◌∷◌, ◌++◌, length, Option, IfSome}
use Rattle.mg_outside.specs.declared.files.FileFault.{FileFault}
use Rattle.mg_outside.specs.declared.files.FileFault.TheVariants as fault

-- the bytes are those that the file holds, where these are told
abbrev pub AreTold : Option (List ℕ) → List ℕ → Type 0
AreTold told bytes = IfSome told (λ held. bytes ≡ held)

-- the bytes of the file are given, and they are no more than the most that was asked for
pub record Gives (told : Option (List ℕ)) (max : ℕ) (bytes : List ℕ) : Type 0 where
  pub held : AreTold told bytes
  pub within : length bytes ≤ max

-- more bytes than the most were counted, and where its bytes are told the file has at least as many
abbrev pub Explains : Option (List ℕ) → ℕ → FileFault → Type 0
Explains told max (fault.TooLong given) = (max < given) × IfSome told (λ held. given ≤ length held)
Explains told max fault.Failed = Unit {0}
Explains told max fault.NoMemory = Unit {0}

-- the name was read, or nothing was
abbrev pub AddsAtMost : List (List ℕ) → List ℕ → List (List ℕ) → Type 0
AddsAtMost before name after = (after ≡ before) ⊎ (after ≡ before ++ name ∷ [])
