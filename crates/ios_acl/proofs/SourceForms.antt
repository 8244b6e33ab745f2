-- What the words of a standard entry behind its verdict can be, and where they stop.
use Rattle.std.proofs.Common.{◌≡◌, ◌↔◌, inl, inr, ℕ, ◌^◌, ◌-◌, Bool, false, List, [], ◌∷◌, ◌++◌, length, refl, ◌∙◌, ap, codes}
use Rattle.ios_lex.specs.Address.{IsAddress}
use Rattle.ios_lex.specs.declared.stop.Due.TheVariants as due
use Rattle.ios_lex.specs.declared.stop.Stop.{Stop}
use Rattle.ios_lex.specs.NextWords.{IsAddressOf, SomeAddress}
use Rattle.ios_lex.specs.Phrases.{Words, Then}
use Rattle.ios_lex.specs.Following.{Begins, IsNumberWord}
use Rattle.ios_lex.specs.Stops.{expected_of, BeginsWith, LacksFirst}
use Rattle.ios_lex.proofs.FirstStops.{stop_at_address}
use Rattle.ios_lex.proofs.Stopping.{IsFirstPart, stop_behind, stop_within}
use Rattle.ios_lex.proofs.WordForms.{other_no_address, other_no_number, no_number_address, zero_address}
use Rattle.ios_acl.specs.Grammar as grammar
use Rattle.ios_acl.specs.Grammar.{IsSource, IsLog}
use Rattle.ios_acl.specs.Stops.{IsStop}
use Rattle.ios_acl.specs.Parts.{IsWildcardOf, IsWildcardEnd, IsSourceEnd, SomeWildcardEnd, SomeSourceEnd, SomeLog}
use Rattle.ios_acl.proofs.PlaceForms.{host_read}
use Rattle.ios_lex.proofs.LineParts.{address_part}
use Rattle.ios_acl.proofs.WildcardForms.{wildcard_none, wildcard_some}

-- what stands behind `host`
abbrev IsHostEnd : ℕ → Words → Type 0
IsHostEnd n = Then (IsAddressOf n) (IsLog false)

abbrev SomeHostEnd : Bool → Words → Type 0
SomeHostEnd backward words = (n : ℕ) × IsHostEnd n words

-- a source begins with a keyword or an address
data SourceForm (source : ℕ × ℕ) (word : List ℕ) (more : Words) : Type 0 where
  any_first : word ≡ codes "any" → IsLog false more → SourceForm source word more
  host_first : word ≡ codes "host" → IsHostEnd source.0 more → SourceForm source word more
  address_first : IsAddress word source.0 → IsWildcardEnd source.1 more → SourceForm source word more

source_first : (source : ℕ × ℕ) (word : List ℕ) (more : Words) → IsSourceEnd source (word ∷ more) → SourceForm source word more
source_first source word more spelled = by_case spelled.front spelled.whole spelled.first
  where
    by_case : (front : Words) → word ∷ more ≡ front ++ spelled.back → IsSource source front → SourceForm source word more
    by_case front whole (grammar.place (grammar.any is all)) =
        let same : word ∷ more ≡ codes "any" ∷ spelled.back = rw is at whole in
        let rest : more ≡ spelled.back = cc in
        any_first (cc) (rw rest spelled.second)
    by_case front whole (grammar.place (grammar.host other is address none)) =
        let same : word ∷ more ≡ codes "host" ∷ other ∷ spelled.back = rw is at whole in
        host_first (cc) (record { front = other ∷ []; back = spelled.back; whole = cc; first = (other, refl, address); second = spelled.second })
    by_case front whole (grammar.place (grammar.some first other is one two)) =
        let same : word ∷ more ≡ first ∷ other ∷ spelled.back = rw is at whole in
        let begins : word ≡ first = cc in
        let rest : more ≡ other ∷ spelled.back = cc in
        address_first (rw begins one) (rw rest (wildcard_some other source.1 spelled.back two spelled.second))
    by_case front whole (grammar.single first is one none) =
        let same : word ∷ more ≡ first ∷ spelled.back = rw is at whole in
        let begins : word ≡ first = cc in
        let rest : more ≡ spelled.back = cc in
        address_first (rw begins one) (rw (rest, none) (wildcard_none spelled.back spelled.second))

no_source_left : (source : ℕ × ℕ) → IsSourceEnd source [] → ⊥
no_source_left source spelled = by_case spelled.front spelled.whole spelled.first
  where
    by_case : (front : Words) → [] ≡ front ++ spelled.back → IsSource source front → ⊥
    by_case front whole (grammar.place (grammar.any is all)) =
        let same : [] ≡ codes "any" ∷ spelled.back = rw is at whole in absurd (cc)
    by_case front whole (grammar.place (grammar.host other is address none)) =
        let same : [] ≡ codes "host" ∷ other ∷ spelled.back = rw is at whole in absurd (cc)
    by_case front whole (grammar.place (grammar.some first other is one two)) =
        let same : [] ≡ first ∷ other ∷ spelled.back = rw is at whole in absurd (cc)
    by_case front whole (grammar.single first is one none) =
        let same : [] ≡ first ∷ spelled.back = rw is at whole in absurd (cc)

-- what such words spell
pub source_any : (words rest : Words) → words ≡ codes "any" ∷ rest → IsLog false rest → IsSourceEnd (0, 2 ^ 32 - 1) words
source_any words rest whole logged =
    record { front = codes "any" ∷ []; back = rest; whole = whole; first = grammar.place (grammar.any refl refl); second = logged }

pub source_host : (words behind rest : Words) (n : ℕ) → words ≡ codes "host" ∷ behind → BeginsWith (IsAddressOf n) behind rest → IsLog false rest → IsSourceEnd (n, 0) words
source_host words behind rest n whole host logged =
    let place = host_read words behind rest n whole host in
    record { front = place.0; back = rest; whole = place.1; first = grammar.place place.2; second = logged }

pub source_address : (words rest : Words) (word : List ℕ) (n wildcard : ℕ) → words ≡ word ∷ rest → IsAddress word n → IsWildcardEnd wildcard rest → IsSourceEnd (n, wildcard) words
source_address words rest word n wildcard whole address end = by_case end.front end.whole end.first
  where
    by_case : (front : Words) → rest ≡ front ++ end.back → IsWildcardOf wildcard front → IsSourceEnd (n, wildcard) words
    by_case front split (inl none) =
        let same : rest ≡ end.back = rw none.0 at split in
        record { front = word ∷ []; back = end.back; whole = whole ∙ ap (λ (x : Words). word ∷ x) same; first = grammar.single word refl address none.1; second = end.second }
    by_case front split (inr some) =
        let same : rest ≡ some.0 ∷ end.back = rw some.1 at split in
        record {
          front = word ∷ some.0 ∷ [];
          back = end.back;
          whole = whole ∙ ap (λ (x : Words). word ∷ x) same;
          first = grammar.place (grammar.some word some.0 refl address some.2);
          second = end.second;
        }

no_source_number : (source : ℕ × ℕ) (word : List ℕ) (more : Words) → SourceForm source word more → IsNumberWord word → ⊥
no_source_number source word more (any_first is logged) number = other_no_number word (rw is refl) number
no_source_number source word more (host_first is end) number = other_no_number word (rw is refl) number
no_source_number source word more (address_first address end) number = no_number_address word source.0 number address

pub no_source_begins : (word : List ℕ) → (word ≡ codes "any" → ⊥) → (word ≡ codes "host" → ⊥) → ((n : ℕ) → IsAddress word n → ⊥)
    → (b : Bool) → Begins (SomeSourceEnd b) (word ∷ []) → ⊥
no_source_begins word no_any no_host none b begins = by_case begins.1.0 begins.0 (source_first begins.1.0 word begins.0 begins.1.1)
  where
    by_case : (source : ℕ × ℕ) (more : Words) → SourceForm source word more → ⊥
    by_case source more (any_first is logged) = no_any is
    by_case source more (host_first is end) = no_host is
    by_case source more (address_first address end) = none source.0 address

-- no source stands first
pub source_stop : (words : Words) (stop : Stop) → stop.left ≡ length words → stop.due ≡ due.Address → ((b : Bool) → LacksFirst (SomeSourceEnd b) words)
    → IsStop SomeSourceEnd words stop
source_stop words stop left is lacks =
    stop_at_address SomeSourceEnd words stop left is
    (codes "0.0.0.0", (0, zero_address), ([], ((0, 0), source_address (codes "0.0.0.0" ∷ []) [] (codes "0.0.0.0") 0 0 refl zero_address (wildcard_none [] (grammar.none refl)))))
    (λ h. no_source_number h.2.1.0 h.0 h.2.0 (source_first h.2.1.0 h.0 h.2.0 h.2.1.1) h.1)
    (λ h. no_source_left h.0 h.1) lacks

-- behind `any` a word on logging may stand
any_same : (b : Bool) (x : Words) → SomeSourceEnd b (codes "any" ∷ x) ↔ SomeLog false b x
any_same b x = (λ h. to h.0 (source_first h.0 (codes "any") x h.1), λ logged. ((0, 2 ^ 32 - 1), source_any (codes "any" ∷ x) x refl logged))
  where
    to : (source : ℕ × ℕ) → SourceForm source (codes "any") x → IsLog false x
    to source (any_first is logged) = logged
    to source (host_first is end) = absurd (cc)
    to source (address_first address end) = absurd (other_no_address (codes "any") source.0 refl address)

pub source_any_stop : (words rest : Words) (stop : Stop) → words ≡ codes "any" ∷ rest → IsStop (SomeLog false) rest stop → IsStop SomeSourceEnd words stop
source_any_stop words rest stop whole = stop_behind SomeSourceEnd (SomeLog false) words (codes "any" ∷ []) rest stop whole any_same

-- behind `host` an address, and then perhaps a word on logging
host_same : (b : Bool) (x : Words) → SomeSourceEnd b (codes "host" ∷ x) ↔ SomeHostEnd b x
host_same b x =
    (λ h. to h.0 (source_first h.0 (codes "host") x h.1), λ h. ((h.0, 0), source_host (codes "host" ∷ x) x h.1.back h.0 refl (h.1.front, h.1.whole, h.1.first) h.1.second))
  where
    to : (source : ℕ × ℕ) → SourceForm source (codes "host") x → SomeHostEnd b x
    to source (any_first is logged) = absurd (cc)
    to source (host_first is end) = (source.0, end)
    to source (address_first address end) = absurd (other_no_address (codes "host") source.0 refl address)

host_first_part : (b : Bool) → IsFirstPart (SomeAddress b) (SomeHostEnd b)
host_first_part b = record {
  goes_on = λ words address. ([], (address.0, record { front = words; back = []; whole = refl; first = address.1; second = grammar.none refl }));
  splits = λ words h. (h.1.front, h.1.back, h.1.whole, (h.0, h.1.first));
}

pub source_host_stop : (words rest : Words) (stop : Stop) → words ≡ codes "host" ∷ rest → (expected_of stop.due).whole ≡ false → IsStop SomeAddress rest stop
    → IsStop SomeSourceEnd words stop
source_host_stop words rest stop whole part stops =
    stop_behind SomeSourceEnd SomeHostEnd words (codes "host" ∷ []) rest stop whole host_same
    (stop_within SomeAddress SomeHostEnd rest stop host_first_part address_part.free (λ x address. address) part stops)

host_end_same : (n : ℕ) (front : Words) → IsAddressOf n front → (b : Bool) (x : Words) → SomeHostEnd b (front ++ x) ↔ SomeLog false b x
host_end_same n front address b x =
    (λ h. to h.0 h.1.front h.1.back h.1.whole h.1.first h.1.second, λ logged. (n, record { front = front; back = x; whole = refl; first = address; second = logged }))
  where
    to : (m : ℕ) (other back : Words) → front ++ x ≡ other ++ back → IsAddressOf m other → IsLog false back → IsLog false x
    to m other back whole is logged =
        let same : address.0 ∷ x ≡ is.0 ∷ back = rw (address.1, is.1) at whole in
        let rest : x ≡ back = cc in
        rw rest logged

pub source_host_end_stop : (words behind rest : Words) (n : ℕ) (stop : Stop) → words ≡ codes "host" ∷ behind → BeginsWith (IsAddressOf n) behind rest → IsStop (SomeLog false) rest stop
    → IsStop SomeSourceEnd words stop
source_host_end_stop words behind rest n stop whole host stops =
    stop_behind SomeSourceEnd SomeHostEnd words (codes "host" ∷ []) behind stop whole host_same
    (stop_behind SomeHostEnd (SomeLog false) behind host.0 rest stop host.1 (host_end_same n host.0 host.2) stops)

-- behind an address what may stand there
address_same : (word : List ℕ) (n : ℕ) → IsAddress word n → (b : Bool) (x : Words) → SomeSourceEnd b (word ∷ x) ↔ SomeWildcardEnd b x
address_same word n address b x =
    (λ h. to h.0 (source_first h.0 word x h.1), λ end. ((n, end.0), source_address (word ∷ x) x word n end.0 refl address end.1))
  where
    to : (source : ℕ × ℕ) → SourceForm source word x → SomeWildcardEnd b x
    to source (any_first is logged) = absurd (other_no_address word n (rw is refl) address)
    to source (host_first is end) = absurd (other_no_address word n (rw is refl) address)
    to source (address_first address' end) = (source.1, end)

pub source_address_stop : (words rest : Words) (word : List ℕ) (n : ℕ) (stop : Stop) → words ≡ word ∷ rest → IsAddress word n → IsStop SomeWildcardEnd rest stop
    → IsStop SomeSourceEnd words stop
source_address_stop words rest word n stop whole address =
    stop_behind SomeSourceEnd SomeWildcardEnd words (word ∷ []) rest stop whole (address_same word n address)
