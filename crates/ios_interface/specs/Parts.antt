-- The parts of a line as kinds of words, whatever their values. Private calls are stated by them, and no public one.
use Rattle.std.specs.Prelude.{Bool, []}
use Rattle.ios_lex.specs.NextWords.{SomeMask, SomeName}
use Rattle.ios_lex.specs.Phrases.{Words, Then}
use Rattle.ios_interface.specs.declared.kind.Direction.{Direction}
use Rattle.ios_interface.specs.Grammar.{IsDirection, IsSecondary}

abbrev pub SomeSecondary : Bool → Words → Type 0
SomeSecondary lax words = (secondary : Bool) × IsSecondary secondary words

-- what stands behind an address
abbrev pub SomeAddressEnd : Bool → Words → Type 0
SomeAddressEnd lax = Then (SomeMask lax) (SomeSecondary lax)

abbrev pub SomeDirection : Bool → Words → Type 0
SomeDirection lax words = (direction : Direction) × IsDirection direction words

abbrev pub SomeListName : Bool → Words → Type 0
SomeListName = SomeName []
