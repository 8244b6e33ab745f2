-- That one thing comes of a line.
use Rattle.std.specs.Prelude.{◌≡◌}
use Rattle.ios_lex.specs.declared.reason.IosReason.{IosReason}

-- the line makes one thing, or is refused for one reason: not both, and not neither
pub record IsExactlyOne (Made : Type 0) (Reads : Made → Type 0) (Refused : IosReason → Type 0)
    : Type 0 where
  pub same_made : (made other : Made) → Reads made → Reads other → made ≡ other
  pub same_reason : (why other : IosReason) → Refused why → Refused other → why ≡ other
  pub not_both : (made : Made) (why : IosReason) → Reads made → Refused why → ⊥
  pub not_neither : ((made : Made) → Reads made → ⊥) → ((why : IosReason) → Refused why → ⊥) → ⊥
