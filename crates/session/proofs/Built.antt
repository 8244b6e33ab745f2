-- The statements that no case of a run is about.
use Rattle.std.proofs.Common.{◌≡◌, ℕ, false, List, [], refl}
use Rattle.query_lang.specs.declared.literal.Literal.{Literal}
use Rattle.query_lang.specs.declared.literal.Path.{Path}
use Rattle.query_lang.specs.declared.script.Explore.{Explore}
use Rattle.query_lang.specs.declared.script.Kind.{Kind}
use Rattle.query_lang.specs.declared.script.Kind.TheVariants as kind
use Rattle.session.specs.Steps.{State, is_built, reads_of}

pub not_among : (what : Kind) → ((file name : List ℕ) → what ≡ kind.LoadIos file name → ⊥) → ((explore : Explore) → what ≡ kind.Explore explore → ⊥) → (what ≡ kind.ShowOne → ⊥) → ((list : Path) (packet : List Literal) → what ≡ kind.Decide list packet → ⊥) → is_built what ≡ false
not_among (kind.LoadIos file name) load explore show decide = absurd (load file name refl)
not_among (kind.Explore question) load explore show decide = absurd (explore question refl)
not_among kind.ShowOne load explore show decide = absurd (show refl)
not_among (kind.Decide list packet) load explore show decide = absurd (decide list packet refl)
not_among other load explore show decide = refl

-- they read no file
pub reads_nothing : (state : State) (what : Kind) → is_built what ≡ false → reads_of state what ≡ []
reads_nothing state (kind.LoadIos file name) missing = cc
reads_nothing state other missing = refl
