-- The line of an address, part by part, and where it stops.
use Rattle.std.proofs.Common.{◌≡◌, ◌↔◌, ℕ, Bool, true, false, List, [], ◌∷◌, length, codes, refl}
use Rattle.ios_lex.specs.declared.stop.Due.TheVariants as due
use Rattle.ios_lex.specs.declared.stop.Stop.{Stop}
use Rattle.ios_lex.specs.Following.{Begins}
use Rattle.ios_lex.specs.NextWords.{IsAddressOf, IsMaskOf, NoMore, NoName, SomeAddress, SomeMask}
use Rattle.ios_lex.specs.Phrases.{Words, Then}
use Rattle.ios_lex.specs.Refusal.{begins_with_digit}
use Rattle.ios_lex.specs.Stops.{BeginsWith, expected_of, IsStop}
use Rattle.ios_lex.proofs.Chains.{then_map}
use Rattle.ios_lex.proofs.FirstStops.{lacks_word, stop_at_end}
use Rattle.ios_lex.proofs.LineParts.{address_part, some_address, stop_behind_first, stop_in_first, stop_of_same}
use Rattle.ios_lex.proofs.MaskForms.{mask_part, some_mask, zero_mask}
use Rattle.ios_lex.proofs.Stopping.{stop_behind}
use Rattle.ios_lex.proofs.WordForms.{other_no_address, other_no_number, zero_address}
use Rattle.ios_interface.specs.declared.kind.Kind.TheVariants as kinds
use Rattle.ios_interface.specs.Grammar.{IsSecondary, Line}
use Rattle.ios_interface.specs.Parts.{SomeAddressEnd, SomeSecondary}

-- whether an address is a secondary one

some_secondary : (b : Bool) → SomeSecondary b []
some_secondary b = (false, IsSecondary.none refl refl)

behind_secondary : (b : Bool) (x : Words) → SomeSecondary b (codes "secondary" ∷ x) ↔ NoMore b x
behind_secondary b x = (λ h. forth h.0 h.1, λ none. (true, IsSecondary.some (rw none refl) refl))
  where
    forth : (secondary : Bool) → IsSecondary secondary (codes "secondary" ∷ x) → NoMore b x
    forth secondary (IsSecondary.none whole is) = cc whole
    forth secondary (IsSecondary.some whole is) = cc whole

pub secondary_stop : (words rest : Words) (stop : Stop) → words ≡ codes "secondary" ∷ rest → IsStop NoName NoMore rest stop → IsStop NoName SomeSecondary words stop
secondary_stop words rest stop whole stops = stop_behind SomeSecondary NoMore words (codes "secondary" ∷ []) rest stop whole behind_secondary stops

secondary_word : (secondary : Bool) (word : List ℕ) (more : Words) → IsSecondary secondary (word ∷ more) → word ≡ codes "secondary"
secondary_word secondary word more (IsSecondary.none whole is) = cc whole
secondary_word secondary word more (IsSecondary.some whole is) = cc whole

secondary_letter : (word : List ℕ) → word ≡ codes "secondary" → begins_with_digit word ≡ false
secondary_letter word is = rw is refl

pub no_secondary_stop : (words rest : Words) (word : List ℕ) (stop : Stop) → words ≡ word ∷ rest → stop.left ≡ length words → stop.due ≡ due.Nothing → (word ≡ codes "secondary" → ⊥) → IsStop NoName SomeSecondary words stop
no_secondary_stop words rest word stop whole left is other =
    stop_at_end SomeSecondary words stop left is (false, IsSecondary.none refl refl)
    (λ w form begins. other_no_address w form.0 (secondary_letter w (secondary_word begins.1.0 w begins.0 begins.1.1)) form.1)
    (λ w form begins. other_no_number w (secondary_letter w (secondary_word begins.1.0 w begins.0 begins.1.1)) form)
    (λ none. cc (whole, none))
    (λ b. lacks_word (SomeSecondary b) words rest word whole (λ begins. other (secondary_word begins.1.0 word begins.0 begins.1.1)))

-- the line

line_parts : (b : Bool) (x : Words) → Line kinds.Address b x ↔ Then (SomeAddress b) (SomeAddressEnd b) x
line_parts b x = (
  λ h. then_map (λ y is. (h.0.0, is)) (λ y h'. then_map (λ z is. (h.0.1, is)) (λ z is. (h.1, is)) y h') x h.2,
  λ h.
      let end = h.second in (
        (h.first.0, end.first.0),
        end.second.0,
        record {
          front = h.front;
          back = h.back;
          whole = h.whole;
          first = h.first.1;
          second = record { front = end.front; back = end.back; whole = end.whole; first = end.first.1; second = end.second.1 };
        },
      ),
)

some_end : (b : Bool) → SomeAddressEnd b (codes "0.0.0.0" ∷ [])
some_end b = record { front = codes "0.0.0.0" ∷ []; back = []; whole = refl; first = zero_mask b; second = some_secondary b }

pub some_address_line : Begins (Line kinds.Address false) []
some_address_line = (
  codes "0.0.0.0" ∷ codes "0.0.0.0" ∷ [],
  (line_parts false (codes "0.0.0.0" ∷ codes "0.0.0.0" ∷ [])).1
      (record { front = codes "0.0.0.0" ∷ []; back = codes "0.0.0.0" ∷ []; whole = refl; first = (0, (codes "0.0.0.0", refl, zero_address)); second = some_end false }),
)

pub stop_in_address : (words : Words) (stop : Stop) → (expected_of stop.due).whole ≡ false → IsStop NoName SomeAddress words stop → IsStop NoName (Line kinds.Address) words stop
stop_in_address words stop part stops =
    stop_of_same (Line kinds.Address) (λ b. Then (SomeAddress b) (SomeAddressEnd b)) words stop line_parts
    (stop_in_first SomeAddress SomeAddressEnd words (codes "0.0.0.0" ∷ []) stop address_part some_end part stops)

pub stop_behind_address : (address : ℕ) (words rest : Words) (stop : Stop) → BeginsWith (IsAddressOf address) words rest → IsStop NoName SomeAddressEnd rest stop → IsStop NoName (Line kinds.Address) words stop
stop_behind_address address words rest stop begins stops =
    stop_of_same (Line kinds.Address) (λ b. Then (SomeAddress b) (SomeAddressEnd b)) words stop line_parts
    (stop_behind_first SomeAddress SomeAddressEnd words rest stop address_part (some_address address words rest begins) stops)

pub stop_in_mask : (words : Words) (stop : Stop) → (expected_of stop.due).whole ≡ false → IsStop NoName SomeMask words stop → IsStop NoName SomeAddressEnd words stop
stop_in_mask words stop part stops = stop_in_first SomeMask SomeSecondary words [] stop mask_part some_secondary part stops

pub stop_behind_mask : (len : ℕ) (words rest : Words) (stop : Stop) → BeginsWith (IsMaskOf false len) words rest → IsStop NoName SomeSecondary rest stop → IsStop NoName SomeAddressEnd words stop
stop_behind_mask len words rest stop begins stops = stop_behind_first SomeMask SomeSecondary words rest stop mask_part (some_mask len words rest begins) stops
