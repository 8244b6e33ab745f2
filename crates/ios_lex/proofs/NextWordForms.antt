-- What one word can be, and where a line stops that has to begin with it.
use Rattle.std.proofs.Common.{◌≡◌, ℕ, ◌≤◌, ◌<◌, ◌^◌, Bool, true, false, List, [], ◌∷◌, length, refl, codes, arith}
use Rattle.std.specs.Fmt.{decimal}
use Rattle.std.specs.List.{list_any}
use Rattle.std.specs.Str.{bytes_eq}
use Rattle.std.proofs.lemmas.Bool.{false_from_ne_true, or_from, or_parts}
use Rattle.std.proofs.lemmas.Slice.Eq.{bytes_eq-Decides}
use Rattle.ios_lex.specs.Address.{IsAddress}
use Rattle.ios_lex.specs.Decimal.{IsNumber}
use Rattle.ios_lex.specs.declared.stop.Due.TheVariants as due
use Rattle.ios_lex.specs.declared.stop.Stop.{Stop}
use Rattle.ios_lex.specs.Phrases.{Words}
use Rattle.ios_lex.specs.Following.{Begins}
use Rattle.ios_lex.specs.NextWords.{HasNoDigit, NoName, IsAddressOf, IsNameBeside, IsNameOf, IsNumberOf, SomeAddress, SomeName, SomeNumber}
use Rattle.ios_lex.specs.Refusal.{is_among, begins_with_digit}
use Rattle.ios_lex.specs.Stops as specs
use Rattle.ios_lex.specs.Stops.{BeginsWith, LacksFirst, StopsBefore, IsStop}
use Rattle.ios_lex.proofs.DecimalTexts.{decimal_number}
use Rattle.ios_lex.proofs.FirstStops.{expected, unexpected, stop_at, stop_at_address}
use Rattle.ios_lex.proofs.Stopping.{stop_first}
use Rattle.ios_lex.proofs.WordForms.{no_number_address, number_word, zero_address, zero_number}

-- one word stands alone
pub address_alone : (n : ℕ) (word : List ℕ) (more : Words) → IsAddressOf n (word ∷ more) → IsAddress word n
address_alone n word more is = let same : word ≡ is.0 = cc in rw same is.2

pub address_read : (words rest : Words) (word : List ℕ) (n : ℕ) → words ≡ word ∷ rest → IsAddress word n → BeginsWith (IsAddressOf n) words rest
address_read words rest word n whole is = (word ∷ [], whole, (word, refl, is))

pub no_address_begins : (word : List ℕ) → ((n : ℕ) → IsAddress word n → ⊥) → (b : Bool) → Begins (SomeAddress b) (word ∷ []) → ⊥
no_address_begins word none b begins = none begins.1.0 (address_alone begins.1.0 word begins.0 begins.1.1)

-- the word that is an address, and those behind it
pub address_word : (n : ℕ) (words rest : Words) → BeginsWith (IsAddressOf n) words rest → (word : List ℕ) × (words ≡ word ∷ rest) × IsAddress word n
address_word n words rest (front, whole, is) = (is.0, (rw is.1 at whole), is.2)

pub no_address_left : (n : ℕ) → IsAddressOf n [] → ⊥
no_address_left n is = absurd (cc)

pub address_stop : {Named : List ℕ → Type 0} (words : Words) (stop : Stop) → stop.left ≡ length words → stop.due ≡ due.Address → ((b : Bool) → LacksFirst (SomeAddress b) words)
    → IsStop Named SomeAddress words stop
address_stop words stop left is lacks =
    stop_at_address SomeAddress words stop left is
    (codes "0.0.0.0", (0, zero_address), ([], (0, (codes "0.0.0.0", refl, zero_address))))
    (λ h. no_number_address h.0 h.2.1.0 h.1 (address_alone h.2.1.0 h.0 h.2.0 h.2.1.1))
    (λ h. no_address_left h.0 h.1) lacks

number_alone : (low high n : ℕ) (word : List ℕ) (more : Words) → IsNumberOf low high n (word ∷ more) → IsNumber high word n × (low ≤ n)
number_alone low high n word more is = let same : word ≡ is.0 = cc in (rw same is.2, is.3)

no_number_left : (low high n : ℕ) → IsNumberOf low high n [] → ⊥
no_number_left low high n is = absurd (cc)

pub number_read : (low high : ℕ) (words rest : Words) (word : List ℕ) (n : ℕ) → words ≡ word ∷ rest → IsNumber high word n → low ≤ n → BeginsWith (IsNumberOf low high n) words rest
number_read low high words rest word n whole is least = (word ∷ [], whole, (word, refl, is, least))

pub no_number_begins : (low high : ℕ) (word : List ℕ) → ((n : ℕ) → IsNumber high word n → low ≤ n → ⊥) → (b : Bool) → Begins (SomeNumber low high b) (word ∷ []) → ⊥
no_number_begins low high word none b begins =
    let is = number_alone low high begins.1.0 word begins.0 begins.1.1 in none begins.1.0 is.0 is.1

pub number_stop : (low high : ℕ) (words : Words) (stop : Stop) → low ≤ high → low < 10 ^ 10 → stop.left ≡ length words → stop.due ≡ due.Number
    → ((b : Bool) → LacksFirst (SomeNumber low high b) words) → IsStop NoName (SomeNumber low high) words stop
number_stop low high words stop some short left is lacks =
    let least : SomeNumber low high false (decimal low ∷ []) = (low, (decimal low, refl, decimal_number high low short some, omega arith)) in
    stop_at (SomeNumber low high) words stop due.Number left is refl (decimal low ∷ [], least)
    (record {
      address = unexpected (λ h. no_number_address h.0 h.1.0
          (number_word high h.0 h.2.1.0 (number_alone low high h.2.1.0 h.0 h.2.0 h.2.1.1).0) h.1.1);
      number = expected (decimal low, (decimal_number high low short some).decimal.digits, ([], least));
      name = unexpected (λ h. h.1.1);
      whole = unexpected (λ h. no_number_left low high h.0 h.1);
    })
    (λ none h. no_number_left low high h.0 h.1) lacks

-- a word that begins with a digit is none of a table in which none does
digit_not_among : (table : Words) (word : List ℕ) → HasNoDigit table → begins_with_digit word ≡ true → is_among table word ≡ false
digit_not_among [] word none digit = refl
digit_not_among (first ∷ others) word none digit =
    let parts = or_parts (begins_with_digit first) (list_any begins_with_digit others) none in
    or_from (bytes_eq word first) (is_among others word)
    (differ (λ same. absurd (let digits : begins_with_digit first ≡ true = rw same at digit in cc)))
    (digit_not_among others word parts.1 digit)
  where
    differ : (word ≡ first → ⊥) → bytes_eq word first ≡ false
    differ none = false_from_ne_true (bytes_eq word first) (λ same. none ((bytes_eq-Decides word first).0 same))

name_alone : (table : Words) (lax : Bool) (name word : List ℕ) (more : Words) → IsNameOf table lax name (word ∷ more) → lax ≡ false → IsNameBeside table word
name_alone table lax name word more is strict = let same : word ≡ name = cc in rw same (is.1 strict)

no_name_left : (table : Words) (lax : Bool) (name : List ℕ) → IsNameOf table lax name [] → ⊥
no_name_left table lax name is = absurd (cc)

pub name_read : (table words rest : Words) (word : List ℕ) → words ≡ word ∷ rest → IsNameBeside table word → BeginsWith (IsNameOf table false word) words rest
name_read table words rest word whole is = (word ∷ [], whole, (refl, λ strict. is))

pub no_name_begins : (table : Words) (word : List ℕ) → (IsNameBeside table word → ⊥) → Begins (SomeName table false) (word ∷ []) → ⊥
no_name_begins table word none begins = none (name_alone table false begins.1.0 word begins.0 begins.1.1 refl)

zero_address_name : (table : Words) → HasNoDigit table → IsNameBeside table (codes "0.0.0.0")
zero_address_name table none = (refl, digit_not_among table (codes "0.0.0.0") none refl)

zero_name : (table : Words) → HasNoDigit table → IsNameBeside table (codes "0")
zero_name table none = (refl, digit_not_among table (codes "0") none refl)

some_name : (table : Words) (word : List ℕ) → IsNameBeside table word → SomeName table false (word ∷ [])
some_name table word is = (word, (refl, λ strict. is))

pub name_stop : (table words : Words) (stop : Stop) → HasNoDigit table → stop.left ≡ length words → stop.due ≡ due.Name → LacksFirst (SomeName table false) words
    → IsStop NoName (SomeName table) words stop
name_stop table words stop none left is lacks = stop_first (SomeName table) words stop left (rw is (before words lacks))
  where
    zero : SomeName table false (codes "0.0.0.0" ∷ [])
    zero = some_name table (codes "0.0.0.0") (zero_address_name table none)

    before : (words : Words) → LacksFirst (SomeName table false) words → StopsBefore NoName (SomeName table) [] due.Name words
    before [] lacks = specs.short (codes "0.0.0.0" ∷ [], zero) (λ h. no_name_left table false h.0 h.1)
    before (word ∷ more) lacks = specs.word word more (record {
      begins = (codes "0.0.0.0" ∷ [], zero);
      stops = lacks word more refl;
      expected = record {
        address = expected (codes "0.0.0.0", (0, zero_address), ([], zero));
        number = expected (codes "0", (zero_number 0).decimal.digits, ([], some_name table (codes "0") (zero_name table none)));
        name = unexpected (λ h. h.1.1);
        whole = unexpected (λ h. no_name_left table false h.0 h.1);
      };
      lax = expected ([], (word, (refl, λ strict. absurd (cc))));
    })
