-- What the words of an address and of a place can be, and where they stop.
use Rattle.std.proofs.Common.{◌≡◌, ◌⊎◌, ◌↔◌, inl, inr, ℕ, ◌^◌, ◌-◌, Bool, List, [], ◌∷◌, length, refl, codes}
use Rattle.ios_lex.specs.Address.{IsAddress}
use Rattle.ios_lex.specs.declared.stop.Due.TheVariants as due
use Rattle.ios_lex.specs.declared.stop.Stop.{Stop}
use Rattle.ios_lex.specs.NextWords.{IsAddressOf, SomeAddress}
use Rattle.ios_lex.specs.Phrases.{Words}
use Rattle.ios_lex.specs.Following.{Begins, IsNumberWord}
use Rattle.ios_lex.specs.Stops.{BeginsWith, LacksFirst}
use Rattle.ios_lex.proofs.FirstStops.{stop_at_address}
use Rattle.ios_lex.proofs.Stopping.{stop_behind}
use Rattle.ios_lex.proofs.WordForms.{other_no_address, other_no_number, no_number_address, zero_address}
use Rattle.ios_acl.specs.Grammar as grammar
use Rattle.ios_acl.specs.Grammar.{IsPlace}
use Rattle.ios_acl.specs.Stops.{IsStop}
use Rattle.ios_acl.specs.Parts.{SomePlace}

-- a place begins with a keyword or an address
place_first : (place : ℕ × ℕ) (word : List ℕ) (more : Words) → IsPlace place (word ∷ more) → (word ≡ codes "any") ⊎ ((word ≡ codes "host") ⊎ IsAddress word place.0)
place_first place word more (grammar.any is all) = inl (cc)
place_first place word more (grammar.host address is spelled none) = inr (inl (cc))
place_first place word more (grammar.some address wildcard is first second) = let same : word ≡ address = cc in inr (inr (rw same first))

no_place_number : (place : ℕ × ℕ) (word : List ℕ) (more : Words) → IsPlace place (word ∷ more) → IsNumberWord word → ⊥
no_place_number place word more spelled number = by_case (place_first place word more spelled)
  where
    by_case : (word ≡ codes "any") ⊎ ((word ≡ codes "host") ⊎ IsAddress word place.0) → ⊥
    by_case (inl is) = other_no_number word (rw is refl) number
    by_case (inr (inl is)) = other_no_number word (rw is refl) number
    by_case (inr (inr address)) = no_number_address word place.0 number address

no_place_left : (place : ℕ × ℕ) → IsPlace place [] → ⊥
no_place_left place (grammar.any is all) = absurd (cc)
no_place_left place (grammar.host address is spelled none) = absurd (cc)
no_place_left place (grammar.some address wildcard is first second) = absurd (cc)

pub no_place_begins : (word : List ℕ) → (word ≡ codes "any" → ⊥) → (word ≡ codes "host" → ⊥) → ((n : ℕ) → IsAddress word n → ⊥)
    → (b : Bool) → Begins (SomePlace b) (word ∷ []) → ⊥
no_place_begins word no_any no_host none b begins = by_case begins.1.0 (place_first begins.1.0 word begins.0 begins.1.1)
  where
    by_case : (place : ℕ × ℕ) → (word ≡ codes "any") ⊎ ((word ≡ codes "host") ⊎ IsAddress word place.0) → ⊥
    by_case place (inl first) = no_any first
    by_case place (inr (inl first)) = no_host first
    by_case place (inr (inr address)) = none place.0 address

-- no place stands first
pub place_stop : (words : Words) (stop : Stop) → stop.left ≡ length words → stop.due ≡ due.Address → ((b : Bool) → LacksFirst (SomePlace b) words)
    → IsStop SomePlace words stop
place_stop words stop left is lacks =
    stop_at_address SomePlace words stop left is
    (codes "0.0.0.0", (0, zero_address), (codes "0.0.0.0" ∷ [], ((0, 0), grammar.some (codes "0.0.0.0") (codes "0.0.0.0") refl zero_address zero_address)))
    (λ h. no_place_number h.2.1.0 h.0 h.2.0 h.2.1.1 h.1)
    (λ h. no_place_left h.0 h.1) lacks

-- behind `host` an address stands, and behind an address the wildcard
host_same : (b : Bool) (x : Words) → SomePlace b (codes "host" ∷ x) ↔ SomeAddress b x
host_same b x = (λ h. to h.0 h.1, λ h. ((h.0, 0), grammar.host h.1.0 (rw h.1.1 refl) h.1.2 refl))
  where
    to : (place : ℕ × ℕ) → IsPlace place (codes "host" ∷ x) → SomeAddress b x
    to place (grammar.any is all) = absurd (cc)
    to place (grammar.host word is spelled none) = (place.0, (word, cc, spelled))
    to place (grammar.some word other is first second) =
        let same : word ≡ codes "host" = cc in absurd (other_no_address (codes "host") place.0 refl (rw same at first))

pub host_stop : (words rest : Words) (stop : Stop) → words ≡ codes "host" ∷ rest → IsStop SomeAddress rest stop → IsStop SomePlace words stop
host_stop words rest stop whole = stop_behind SomePlace SomeAddress words (codes "host" ∷ []) rest stop whole host_same

address_same : (word : List ℕ) (n : ℕ) → IsAddress word n → (b : Bool) (x : Words) → SomePlace b (word ∷ x) ↔ SomeAddress b x
address_same word n address b x = (λ h. to h.0 h.1, λ h. ((n, h.0), grammar.some word h.1.0 (rw h.1.1 refl) address h.1.2))
  where
    to : (place : ℕ × ℕ) → IsPlace place (word ∷ x) → SomeAddress b x
    to place (grammar.any is all) =
        let same : word ≡ codes "any" = cc in absurd (other_no_address (codes "any") n refl (rw same at address))
    to place (grammar.host other is spelled none) =
        let same : word ≡ codes "host" = cc in absurd (other_no_address (codes "host") n refl (rw same at address))
    to place (grammar.some first other is spelled second) = (place.1, (other, cc, second))

pub some_stop : (words rest : Words) (word : List ℕ) (n : ℕ) (stop : Stop) → words ≡ word ∷ rest → IsAddress word n → IsStop SomeAddress rest stop → IsStop SomePlace words stop
some_stop words rest word n stop whole address = stop_behind SomePlace SomeAddress words (word ∷ []) rest stop whole (address_same word n address)

pub any_read : (words rest : Words) → words ≡ codes "any" ∷ rest → BeginsWith (IsPlace (0, 2 ^ 32 - 1)) words rest
any_read words rest whole = (codes "any" ∷ [], whole, grammar.any refl refl)

pub host_read : (words behind rest : Words) (n : ℕ) → words ≡ codes "host" ∷ behind → BeginsWith (IsAddressOf n) behind rest → BeginsWith (IsPlace (n, 0)) words rest
host_read words behind rest n whole host = (codes "host" ∷ host.0, rw (whole, host.1) refl, grammar.host host.2.0 (rw host.2.1 refl) host.2.2 refl)

pub some_read : (words behind rest : Words) (word : List ℕ) (n wildcard : ℕ) → words ≡ word ∷ behind → IsAddress word n → BeginsWith (IsAddressOf wildcard) behind rest
    → BeginsWith (IsPlace (n, wildcard)) words rest
some_read words behind rest word n wildcard whole address second =
    (word ∷ second.0, rw (whole, second.1) refl, grammar.some word second.2.0 (rw second.2.1 refl) address second.2.2)
