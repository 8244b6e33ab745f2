-- What stands behind the address of a standard entry, and where it stops.
use Rattle.std.proofs.Common.{◌≡◌, ◌⊎◌, ◌↔◌, inl, inr, ℕ, Bool, false, List, [], ◌∷◌, ◌++◌, length, refl, codes}
use Rattle.ios_lex.specs.Address.{IsAddress}
use Rattle.ios_lex.specs.declared.stop.Due.TheVariants as due
use Rattle.ios_lex.specs.declared.stop.Stop.{Stop}
use Rattle.ios_lex.specs.Phrases.{Words}
use Rattle.ios_lex.specs.Following.{Begins, IsNumberWord}
use Rattle.ios_lex.specs.Names.{IsMessageName}
use Rattle.ios_lex.proofs.FirstStops.{expected, unexpected, stop_at, stop_ahead, lacks_word}
use Rattle.ios_lex.proofs.Stopping.{stop_behind}
use Rattle.ios_lex.proofs.WordForms.{other_no_address, no_number_address, message_name_form, zero_address}
use Rattle.ios_acl.specs.Grammar as grammar
use Rattle.ios_acl.specs.Grammar.{IsLog}
use Rattle.ios_acl.specs.Stops.{IsStop}
use Rattle.ios_acl.specs.Parts.{IsWildcardOf, IsWildcardEnd, SomeWildcardEnd, SomeLog}
use Rattle.ios_acl.proofs.LogWords.{plain_log, no_log_address, no_log_number, no_log_name}

-- the wildcard is left out, or stands first
pub wildcard_none : (words : Words) → IsLog false words → IsWildcardEnd 0 words
wildcard_none words logged = record { front = []; back = words; whole = refl; first = inl (refl, refl); second = logged }

pub wildcard_some : (word : List ℕ) (n : ℕ) (rest : Words) → IsAddress word n → IsLog false rest → IsWildcardEnd n (word ∷ rest)
wildcard_some word n rest address logged = record { front = word ∷ []; back = rest; whole = refl; first = inr (word, refl, address); second = logged }

-- and nothing else does
wildcard_first : (n : ℕ) (word : List ℕ) (more : Words) → IsWildcardEnd n (word ∷ more) → IsLog false (word ∷ more) ⊎ (IsAddress word n × IsLog false more)
wildcard_first n word more spelled = by_case spelled.front spelled.whole spelled.first spelled.second
  where
    by_case : (front : Words) → word ∷ more ≡ front ++ spelled.back → IsWildcardOf n front → IsLog false spelled.back → IsLog false (word ∷ more) ⊎ (IsAddress word n × IsLog false more)
    by_case front whole (inl none) logged =
        let same : word ∷ more ≡ spelled.back = rw none.0 at whole in
        inl (rw same logged)
    by_case front whole (inr some) logged =
        let same : word ∷ more ≡ some.0 ∷ spelled.back = rw some.1 at whole in
        let first : word ≡ some.0 = cc in
        let rest : more ≡ spelled.back = cc in
        inr (rw first some.2, rw rest logged)

-- it begins with a word on logging or an address
no_wildcard_number : (n : ℕ) (word : List ℕ) (more : Words) → IsWildcardEnd n (word ∷ more) → IsNumberWord word → ⊥
no_wildcard_number n word more spelled number = by_case (wildcard_first n word more spelled)
  where
    by_case : IsLog false (word ∷ more) ⊎ (IsAddress word n × IsLog false more) → ⊥
    by_case (inl logged) = no_log_number false word more logged number
    by_case (inr some) = no_number_address word n number some.0

no_wildcard_name : (n : ℕ) (word : List ℕ) (more : Words) → IsWildcardEnd n (word ∷ more) → IsMessageName word → ⊥
no_wildcard_name n word more spelled name = by_case (wildcard_first n word more spelled)
  where
    by_case : IsLog false (word ∷ more) ⊎ (IsAddress word n × IsLog false more) → ⊥
    by_case (inl logged) = no_log_name false word more logged name
    by_case (inr some) = other_no_address word n (message_name_form word name) some.0

no_wildcard_begins : (word : List ℕ) → (word ≡ codes "log" → ⊥) → ((n : ℕ) → IsAddress word n → ⊥) → (b : Bool) → Begins (SomeWildcardEnd b) (word ∷ []) → ⊥
no_wildcard_begins word no_log none b begins = by_case begins.1.0 begins.0 (wildcard_first begins.1.0 word begins.0 begins.1.1)
  where
    by_case : (n : ℕ) (more : Words) → IsLog false (word ∷ more) ⊎ (IsAddress word n × IsLog false more) → ⊥
    by_case n more (inl logged) = no_log (plain_log word more logged)
    by_case n more (inr some) = none n some.0

-- neither of them stands first
pub wildcard_stop : (words rest : Words) (word : List ℕ) (stop : Stop) → stop.left ≡ length words → stop.due ≡ due.AddressOrEnd
    → words ≡ word ∷ rest → (word ≡ codes "log" → ⊥) → ((n : ℕ) → IsAddress word n → ⊥) → IsStop SomeWildcardEnd words stop
wildcard_stop words rest word stop left is whole no_log none =
    stop_at SomeWildcardEnd words stop due.AddressOrEnd left is refl ([], (0, wildcard_none [] (grammar.none refl)))
    (record {
      address = expected (codes "0.0.0.0", (0, zero_address), ([], (0, wildcard_some (codes "0.0.0.0") 0 [] zero_address (grammar.none refl))));
      number = unexpected (λ h. no_wildcard_number h.2.1.0 h.0 h.2.0 h.2.1.1 h.1);
      name = unexpected (λ h. no_wildcard_name h.1.2.1.0 h.1.0 h.1.2.0 h.1.2.1.1 h.1.1);
      whole = expected (0, wildcard_none [] (grammar.none refl));
    })
    (λ empty. absurd (cc))
    (λ b. lacks_word (SomeWildcardEnd b) words rest word whole (no_wildcard_begins word no_log none b))

-- behind `log` nothing stands
log_same : (b : Bool) (x : Words) → SomeWildcardEnd b (codes "log" ∷ x) ↔ SomeLog false b (codes "log" ∷ x)
log_same b x = (λ h. to h.0 (wildcard_first h.0 (codes "log") x h.1), λ logged. (0, wildcard_none (codes "log" ∷ x) logged))
  where
    to : (n : ℕ) → IsLog false (codes "log" ∷ x) ⊎ (IsAddress (codes "log") n × IsLog false x) → IsLog false (codes "log" ∷ x)
    to n (inl logged) = logged
    to n (inr some) = absurd (other_no_address (codes "log") n refl some.0)

pub wildcard_log_stop : (words rest : Words) (stop : Stop) → words ≡ codes "log" ∷ rest → IsStop (SomeLog false) words stop → IsStop SomeWildcardEnd words stop
wildcard_log_stop words rest stop whole stops =
    stop_behind SomeWildcardEnd (λ b x. SomeLog false b (codes "log" ∷ x)) words (codes "log" ∷ []) rest stop whole log_same
    (stop_ahead (SomeLog false) words rest (codes "log") stop whole ([], grammar.log refl) stops)

-- behind the wildcard a word on logging may stand
wildcard_same : (word : List ℕ) (n : ℕ) → IsAddress word n → (b : Bool) (x : Words) → SomeWildcardEnd b (word ∷ x) ↔ SomeLog false b x
wildcard_same word n address b x = (λ h. to h.0 (wildcard_first h.0 word x h.1), λ logged. (n, wildcard_some word n x address logged))
  where
    to : (m : ℕ) → IsLog false (word ∷ x) ⊎ (IsAddress word m × IsLog false x) → IsLog false x
    to m (inl logged) = absurd (no_log_address false word x n logged address)
    to m (inr some) = some.1

pub wildcard_end_stop : (words rest : Words) (word : List ℕ) (n : ℕ) (stop : Stop) → words ≡ word ∷ rest → IsAddress word n → IsStop (SomeLog false) rest stop
    → IsStop SomeWildcardEnd words stop
wildcard_end_stop words rest word n stop whole address = stop_behind SomeWildcardEnd (SomeLog false) words (word ∷ []) rest stop whole (wildcard_same word n address)
