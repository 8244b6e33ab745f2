-- What a mask can be, and where a line stops that has to begin with one.
use Rattle.std.proofs.Common.{◌≡◌, ℕ, Bool, false, List, [], ◌∷◌, length, codes, refl, arith}
use Rattle.ios_lex.specs.declared.stop.Due.TheVariants as due
use Rattle.ios_lex.specs.declared.stop.Stop.{Stop}
use Rattle.ios_lex.specs.Following.{Begins, IsNumberWord}
use Rattle.ios_lex.specs.Mask.{IsPrefixMask}
use Rattle.ios_lex.specs.NextWords.{IsAddressOf, IsMaskOf, SomeAddress, SomeMask}
use Rattle.ios_lex.specs.Phrases.{Words}
use Rattle.ios_lex.specs.Stops.{BeginsWith, LacksFirst, IsStop}
use Rattle.ios_lex.proofs.AddressParts.{address_is_one}
use Rattle.ios_lex.proofs.FirstStops.{stop_at_address, stop_at_lax_address}
use Rattle.ios_lex.proofs.LineParts.{IsPart}
use Rattle.ios_lex.proofs.NextWordForms.{address_alone, address_word, no_address_left}
use Rattle.ios_lex.proofs.OneCut.{single_word_prefix_free}
use Rattle.ios_lex.proofs.Stopping.{lacks_less}
use Rattle.ios_lex.proofs.WordForms.{no_number_address, zero_address}

pub mask_part : IsPart SomeMask
mask_part = record { free = λ b. single_word_prefix_free (SomeMask b) (λ x is. (is.1.1.0, is.1.1.1)); more = λ x is. (is.0, (is.1.0, is.1.1, λ strict. cc strict)) }

pub zero_mask : (b : Bool) → SomeMask b (codes "0.0.0.0" ∷ [])
zero_mask b = (0, (0, (codes "0.0.0.0", refl, zero_address), λ strict. record { few = omega arith; value = refl }))

pub some_mask : (ones : ℕ) (words rest : Words) → BeginsWith (IsMaskOf false ones) words rest → BeginsWith (SomeMask false) words rest
some_mask ones words rest (front, whole, is) = (front, whole, (ones, is))

no_number_mask : (word : List ℕ) → IsNumberWord word → Begins (SomeMask false) (word ∷ []) → ⊥
no_number_mask word number begins = no_number_address word begins.1.1.0 number (address_alone begins.1.1.0 word begins.0 begins.1.1.1)

pub mask_stop : {Named : List ℕ → Type 0} (words : Words) (stop : Stop) → stop.left ≡ length words → stop.due ≡ due.Address → ((b : Bool) → LacksFirst (SomeAddress b) words) → IsStop Named SomeMask words stop
mask_stop words stop left is lacks =
    stop_at_address SomeMask words stop left is (codes "0.0.0.0", (0, zero_address), ([], zero_mask false))
    (λ h. no_number_mask h.0 h.1 h.2) (λ h. no_address_left h.1.0 h.1.1)
    (λ b. lacks_less (SomeMask b) (SomeAddress b) words (λ x is. (is.1.0, is.1.1)) (lacks b))

-- an address that is no mask
pub no_mask_stop : {Named : List ℕ → Type 0} (mask : ℕ) (words rest : Words) (stop : Stop) → BeginsWith (IsAddressOf mask) words rest → ((ones : ℕ) → IsPrefixMask mask ones → ⊥) → stop.left ≡ length words → stop.due ≡ due.Mask
    → IsStop Named SomeMask words stop
no_mask_stop mask words rest stop begins none left is =
    let word = address_word mask words rest begins in
    stop_at_lax_address SomeMask words rest word.0 stop word.1 left is (codes "0.0.0.0", (0, zero_address), ([], zero_mask false))
    (λ h. no_number_mask h.0 h.1 h.2) (λ h. no_address_left h.1.0 h.1.1)
    (λ h. let same = address_is_one word.0 h.1.1.0 mask (address_alone h.1.1.0 word.0 h.0 h.1.1.1) word.2 in none h.1.0 (rw same at (h.1.1.2 refl)))
    ([], (0, (mask, (word.0, refl, word.2), λ strict. cc strict)))
