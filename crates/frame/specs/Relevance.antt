-- What a test leaves out. No public call is stated by this.
use Rattle.std.specs.Prelude.{◌≡◌, Bool, true, false}

-- what is asked for is never met
abbrev pub Excludes : {A : Type 0} → (A → Bool) → (A → Bool) → Type 0
Excludes {A} asked met = (x : A) → asked x ≡ true → met x ≡ false
