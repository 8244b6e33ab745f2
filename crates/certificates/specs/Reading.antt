-- Which bytes are a certificate's text, and the first line at which others are none.
use Rattle.std.specs.Prelude.{◌≡◌, ◌⊎◌, ℕ, ◌+◌, ◌^◌, ◌<◌, List, [], ◌∷◌, ◌++◌, length}
use Rattle.std.specs.List.{All}
use Rattle.certificates.specs.declared.derivation.Item.{Item}
use Rattle.certificates.specs.declared.derivation.Item.TheVariants as item
use Rattle.certificates.specs.declared.derivation.Certificate.{Certificate}
use Rattle.certificates.specs.declared.fault.CertFault.{CertFault}
use Rattle.certificates.specs.declared.fault.CertFault.TheVariants as fault
use Rattle.certificates.specs.Writable.{IsWritableCertificate}
use Rattle.certificates.specs.Text.{head_word, certificate_lines}
use Rattle.certificates.specs.Lines.{text_lines}

-- the versions that are read
abbrev pub IsKnownVersion : ℕ → Type 0
IsKnownVersion version = (version ≡ 1) ⊎ (version ≡ 2)

-- any number may be that of a version
abbrev pub IsSomeVersion : ℕ → Type 0
IsSomeVersion version = version < 2 ^ 62

-- deletions stand in version 2 alone
abbrev pub IsItemOf : ℕ → Item → Type 0
IsItemOf version (item.Add step) = Unit {0}
IsItemOf version (item.Delete numbers) = version ≡ 2

-- a line that does not begin as a head does
abbrev pub IsBeforeHead : List ℕ → Type 0
IsBeforeHead line = (rest : List ℕ) → line ≡ head_word ++ rest → ⊥

-- the lines are some before the head, those of the certificate in a version of these, and any others
pub record Spells (IsVersion : ℕ → Type 0) (lines : List (List ℕ))
    (certificate : Certificate) : Type 0 where
  pub version : ℕ
  pub skipped : List (List ℕ)
  pub behind : List (List ℕ)
  pub whole : lines ≡ skipped ++ (certificate_lines version certificate ++ behind)
  pub before : All IsBeforeHead skipped
  pub is_version : IsVersion version
  pub writable : IsWritableCertificate certificate
  pub items : All (IsItemOf version) certificate.derivation

-- with some lines behind them, the lines are a certificate's in a version of these
pub record GoesOn (IsVersion : ℕ → Type 0) (lines : List (List ℕ)) : Type 0 where
  pub more : List (List ℕ)
  pub certificate : Certificate
  pub spells : Spells IsVersion (lines ++ more) certificate

-- the bytes are a text of the certificate
abbrev pub Reads : List ℕ → Certificate → Type 0
Reads bytes certificate = Spells IsKnownVersion (text_lines bytes) certificate

-- the first line that no text has there, behind these; or the one that is missing behind all lines
pub data IsMalformed (lines : List (List ℕ)) (line : ℕ) : Type 0 where
  at : (front : List (List ℕ)) (bad : List ℕ) (behind : List (List ℕ))
      → lines ≡ front ++ bad ∷ behind → GoesOn IsKnownVersion front
      → (GoesOn IsSomeVersion (front ++ bad ∷ []) → ⊥)
      → line ≡ length front + 1 → IsMalformed lines line
  end : GoesOn IsKnownVersion lines → ((c : Certificate) → Spells IsKnownVersion lines c → ⊥)
      → line ≡ length lines + 1 → IsMalformed lines line

-- the first line that no text of a known version has there, but one of another version has
pub record IsOtherVersion (lines : List (List ℕ)) (line : ℕ) : Type 0 where
  pub front : List (List ℕ)
  pub head : List ℕ
  pub behind : List (List ℕ)
  pub whole : lines ≡ front ++ head ∷ behind
  pub goes_on : GoesOn IsKnownVersion front
  pub some : GoesOn IsSomeVersion (front ++ head ∷ [])
  pub unknown : GoesOn IsKnownVersion (front ++ head ∷ []) → ⊥
  pub place : line ≡ length front + 1

-- why the bytes are no text, and at which line, from 1; no bytes are refused for want of memory
abbrev pub Refuses : List ℕ → CertFault → Type 0
Refuses bytes (fault.Malformed line) = IsMalformed (text_lines bytes) line
Refuses bytes (fault.Version line) = IsOtherVersion (text_lines bytes) line
Refuses bytes fault.NoMemory = ⊥
