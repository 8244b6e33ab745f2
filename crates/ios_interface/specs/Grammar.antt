-- What the words of a line of the block of an interface spell (Cisco IOS command references, `ip address`,
-- `ip access-group`, `ip nat` and `shutdown`). Where a line is lax, every address is a mask, and every word a name.
use Rattle.std.specs.Prelude.{◌≡◌, ℕ, Bool, true, false, List, [], ◌∷◌, codes}
use Rattle.ios_lex.specs.NextWords.{IsAddressOf, IsMaskOf, IsNameOf}
use Rattle.ios_lex.specs.Phrases.{Words, Then}
use Rattle.ios_interface.specs.declared.kind.Direction.{Direction}
use Rattle.ios_interface.specs.declared.kind.Direction.TheVariants as directions
use Rattle.ios_interface.specs.declared.kind.Kind.{Kind}
use Rattle.ios_interface.specs.declared.kind.Kind.TheVariants as kinds
use Rattle.ios_interface.specs.declared.kind.Setting.{Setting}
use Rattle.ios_interface.specs.declared.kind.Setting.TheVariants as settings

abbrev pub setting_words : Setting → Words
setting_words settings.NoAddress = codes "no" ∷ codes "ip" ∷ codes "address" ∷ []
setting_words settings.Inside = codes "ip" ∷ codes "nat" ∷ codes "inside" ∷ []
setting_words settings.Outside = codes "ip" ∷ codes "nat" ∷ codes "outside" ∷ []
setting_words settings.Shutdown = codes "shutdown" ∷ []
setting_words settings.NoShutdown = codes "no" ∷ codes "shutdown" ∷ []

-- the words that a line of a kind begins with
abbrev pub opening_words : Kind → Words
opening_words kinds.Address = codes "ip" ∷ codes "address" ∷ []
opening_words kinds.AccessGroup = codes "ip" ∷ codes "access-group" ∷ []
opening_words (kinds.Setting setting) = setting_words setting

-- the words of lines that change forwarding in a way that is not modelled
abbrev pub unmodelled_openings : List Words
unmodelled_openings =
    (codes "ip" ∷ codes "policy" ∷ []) ∷
    (codes "crypto" ∷ codes "map" ∷ []) ∷
    (codes "ip" ∷ codes "inspect" ∷ []) ∷
    (codes "zone-member" ∷ []) ∷
    (codes "ip" ∷ codes "vrf" ∷ []) ∷
    (codes "vrf" ∷ []) ∷
    (codes "ip" ∷ codes "verify" ∷ []) ∷
    (codes "ip" ∷ codes "unnumbered" ∷ []) ∷
    (codes "ip" ∷ codes "address" ∷ codes "dhcp" ∷ []) ∷
    (codes "ip" ∷ codes "address" ∷ codes "negotiated" ∷ []) ∷
    (codes "ip" ∷ codes "nat" ∷ codes "enable" ∷ []) ∷
    []

-- whether an address is a secondary one
pub data IsSecondary (secondary : Bool) (words : Words) : Type 0 where
  none : words ≡ [] → secondary ≡ false → IsSecondary secondary words
  some : words ≡ codes "secondary" ∷ [] → secondary ≡ true → IsSecondary secondary words

abbrev pub IsAddressLine : Bool → ℕ × ℕ → Bool → Words → Type 0
IsAddressLine lax address secondary =
    Then (IsAddressOf address.0) (Then (IsMaskOf lax address.1) (IsSecondary secondary))

abbrev pub direction_word : Direction → List ℕ
direction_word directions.In = codes "in"
direction_word directions.Out = codes "out"

abbrev pub IsDirection : Direction → Words → Type 0
IsDirection direction words = words ≡ direction_word direction ∷ []

abbrev pub IsAccessGroup : Bool → List ℕ → Direction → Words → Type 0
IsAccessGroup lax name direction = Then (IsNameOf [] lax name) (IsDirection direction)

-- what may stand behind the opening of a line of a kind
abbrev pub Line : Kind → Bool → Words → Type 0
Line kinds.Address lax words =
    (address : ℕ × ℕ) × (secondary : Bool) × IsAddressLine lax address secondary words
Line kinds.AccessGroup lax words =
    (name : List ℕ) × (direction : Direction) × IsAccessGroup lax name direction words
Line (kinds.Setting setting) lax words = words ≡ []
