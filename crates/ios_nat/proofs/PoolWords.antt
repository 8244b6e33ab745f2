-- The parts of a pool's line behind its first address, and where they stop.
use Rattle.std.proofs.Common.{◌≡◌, ◌⊎◌, inl, inr, ◌↔◌, ℕ, ◌<◌, ◌≤◌, ◌^◌, Bool, false, List, [], ◌∷◌, length, codes, refl, arith}
use Rattle.ios_lex.specs.Address.{dotted}
use Rattle.ios_lex.specs.declared.stop.Due.TheVariants as due
use Rattle.ios_lex.specs.declared.stop.Stop.{Stop}
use Rattle.ios_lex.specs.Following.{Begins, IsNumberWord}
use Rattle.ios_lex.specs.NextWords.{IsAddressOf, NoName, SomeAddress, SomeMask, SomeNumber}
use Rattle.ios_lex.specs.Phrases.{Words}
use Rattle.ios_lex.specs.Refusal.{begins_with_digit}
use Rattle.ios_lex.specs.Stops.{BeginsWith, LacksFirst, IsStop}
use Rattle.ios_lex.proofs.AddressParts.{address_is_one}
use Rattle.ios_lex.proofs.AddressTexts.{dotted_address}
use Rattle.ios_lex.proofs.FirstStops.{lacks_word, stop_at_address, stop_at_keyword, stop_at_lax_address}
use Rattle.ios_lex.proofs.LineParts.{IsPart}
use Rattle.ios_lex.proofs.MaskForms.{zero_mask}
use Rattle.ios_lex.proofs.NextWordForms.{address_alone, address_word, no_address_left}
use Rattle.ios_lex.proofs.OneCut.{single_word_prefix_free}
use Rattle.ios_lex.proofs.Stopping.{lacks_less, stop_behind}
use Rattle.ios_lex.proofs.WordForms.{no_number_address, other_no_address, other_no_number}
use Rattle.ios_nat.specs.Grammar.{IsLastOf, IsSize}
use Rattle.ios_nat.specs.Parts.{SomeLast}

-- the last address of a pool

pub last_part : (first : ℕ) → IsPart (SomeLast first)
last_part first = record { free = λ b. single_word_prefix_free (SomeLast first b) (λ x is. (is.1.0.0, is.1.0.1)); more = λ x is. (is.0, (is.1.0, λ strict. cc strict)) }

-- a pool may end where it begins
own_last : (first : ℕ) → first < 2 ^ 32 → (b : Bool) → SomeLast first b (dotted first ∷ [])
own_last first bound b = (first, ((dotted first, refl, dotted_address first bound), λ strict. omega arith))

no_number_last : (first : ℕ) (word : List ℕ) → IsNumberWord word → Begins (SomeLast first false) (word ∷ []) → ⊥
no_number_last first word number begins = no_number_address word begins.1.0 number (address_alone begins.1.0 word begins.0 begins.1.1.0)

pub last_stop : (first : ℕ) (words : Words) (stop : Stop) → first < 2 ^ 32 → stop.left ≡ length words → stop.due ≡ due.Address → ((b : Bool) → LacksFirst (SomeAddress b) words) → IsStop NoName (SomeLast first) words stop
last_stop first words stop bound left is lacks =
    stop_at_address (SomeLast first) words stop left is (dotted first, (first, dotted_address first bound), ([], own_last first bound false))
    (λ h. no_number_last first h.0 h.1 h.2) (λ h. no_address_left h.0 h.1.0)
    (λ b. lacks_less (SomeLast first b) (SomeAddress b) words (λ x is. (is.0, is.1.0)) (lacks b))

pub early_stop : (first last : ℕ) (words rest : Words) (stop : Stop) → first < 2 ^ 32 → BeginsWith (IsAddressOf last) words rest → last < first → stop.left ≡ length words → stop.due ≡ due.Mask
    → IsStop NoName (SomeLast first) words stop
early_stop first last words rest stop bound begins early left is =
    let word = address_word last words rest begins in
    stop_at_lax_address (SomeLast first) words rest word.0 stop word.1 left is (dotted first, (first, dotted_address first bound), ([], own_last first bound false))
    (λ h. no_number_last first h.0 h.1 h.2) (λ h. no_address_left h.0 h.1.0)
    (λ h. let same = address_is_one word.0 h.1.0 last (address_alone h.1.0 word.0 h.0 h.1.1.0) word.2 in let within = h.1.1.1 refl in omega arith)
    ([], (last, ((word.0, refl, word.2), λ strict. cc strict)))

pub last_read : (first last : ℕ) (words rest : Words) → BeginsWith (IsAddressOf last) words rest → first ≤ last → BeginsWith (IsLastOf false first last) words rest
last_read first last words rest (front, whole, is) within = (front, whole, (is, λ strict. within))

-- the size of a network

behind_netmask : (b : Bool) (x : Words) → IsSize b (codes "netmask" ∷ x) ↔ SomeMask b x
behind_netmask b x = (forth, λ is. IsSize.mask x refl is)
  where
    forth : IsSize b (codes "netmask" ∷ x) → SomeMask b x
    forth (IsSize.mask rest whole is) = let same : rest ≡ x = cc whole in rw same at is
    forth (IsSize.prefix rest whole is) = absurd (let no : codes "netmask" ≡ codes "prefix-length" = cc whole in cc no)

behind_length : (b : Bool) (x : Words) → IsSize b (codes "prefix-length" ∷ x) ↔ SomeNumber 1 32 b x
behind_length b x = (forth, λ is. IsSize.prefix x refl is)
  where
    forth : IsSize b (codes "prefix-length" ∷ x) → SomeNumber 1 32 b x
    forth (IsSize.mask rest whole is) = absurd (let no : codes "prefix-length" ≡ codes "netmask" = cc whole in cc no)
    forth (IsSize.prefix rest whole is) = let same : rest ≡ x = cc whole in rw same at is

pub netmask_stop : (words rest : Words) (stop : Stop) → words ≡ codes "netmask" ∷ rest → IsStop NoName SomeMask rest stop → IsStop NoName IsSize words stop
netmask_stop words rest stop whole stops = stop_behind IsSize SomeMask words (codes "netmask" ∷ []) rest stop whole behind_netmask stops

pub length_stop : (words rest : Words) (stop : Stop) → words ≡ codes "prefix-length" ∷ rest → IsStop NoName (SomeNumber 1 32) rest stop → IsStop NoName IsSize words stop
length_stop words rest stop whole stops = stop_behind IsSize (SomeNumber 1 32) words (codes "prefix-length" ∷ []) rest stop whole behind_length stops

pub zero_size : (b : Bool) → IsSize b (codes "netmask" ∷ codes "0.0.0.0" ∷ [])
zero_size b = IsSize.mask (codes "0.0.0.0" ∷ []) refl (zero_mask b)

size_letter : (b : Bool) (word : List ℕ) (more : Words) → IsSize b (word ∷ more) → (word ≡ codes "netmask") ⊎ (word ≡ codes "prefix-length")
size_letter b word more (IsSize.mask rest whole is) = inl (cc whole)
size_letter b word more (IsSize.prefix rest whole is) = inr (cc whole)

no_digit : (word : List ℕ) → (word ≡ codes "netmask") ⊎ (word ≡ codes "prefix-length") → begins_with_digit word ≡ false
no_digit word (inl is) = rw is refl
no_digit word (inr is) = rw is refl

no_size_left : IsSize false [] → ⊥
no_size_left (IsSize.mask rest whole is) = cc whole
no_size_left (IsSize.prefix rest whole is) = cc whole

pub size_stop : (words : Words) (stop : Stop) → stop.left ≡ length words → stop.due ≡ due.Keyword → ((b : Bool) → LacksFirst (IsSize b) words) → IsStop NoName IsSize words stop
size_stop words stop left is lacks =
    stop_at_keyword IsSize words stop left is (codes "netmask" ∷ codes "0.0.0.0" ∷ [], zero_size false) no_size_left
    (λ word form begins. other_no_address word form.0 (no_digit word (size_letter false word begins.0 begins.1)) form.1)
    (λ word form begins. other_no_number word (no_digit word (size_letter false word begins.0 begins.1)) form)
    lacks

pub lacks_size : (words rest : Words) (word : List ℕ) → words ≡ word ∷ rest → (word ≡ codes "netmask" → ⊥) → (word ≡ codes "prefix-length" → ⊥) → (b : Bool) → LacksFirst (IsSize b) words
lacks_size words rest word whole no_netmask no_length b =
    lacks_word (IsSize b) words rest word whole (λ begins. elim (size_letter b word begins.0 begins.1) [ inl is ↦ no_netmask is | inr is ↦ no_length is ])
