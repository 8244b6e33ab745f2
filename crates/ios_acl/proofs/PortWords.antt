-- What the words of a test of ports spell, and where they stop to spell one.
use Rattle.std.proofs.Common.{◌≡◌, inl, inr, ◌↔◌, ℕ, ◌≤◌, Bool, true, false, List, [], ◌∷◌, ◌++◌, length, refl, codes, lit<, lit≤, arith}
use Rattle.std.specs.Str.{bytes_eq}
use Rattle.ios_lex.specs.Decimal.{IsNumber}
use Rattle.ios_lex.specs.Names.{IsPort}
use Rattle.ios_lex.specs.declared.stop.Due.TheVariants as due
use Rattle.ios_lex.specs.declared.stop.Stop.{Stop}
use Rattle.ios_lex.specs.Phrases.{Words}
use Rattle.ios_lex.specs.Following.{Begins, MayFollow, IsAddressWord}
use Rattle.ios_lex.specs.Refusal.{is_among}
use Rattle.ios_lex.specs.Stops.{expecting, expected_of, BeginsWith}
use Rattle.ios_lex.specs.Stops as stopping
use Rattle.ios_lex.proofs.Spellings.{port_is_one}
use Rattle.ios_lex.proofs.Stopping.{IsFirstPart, stop_first, stop_behind, stop_within}
use Rattle.ios_lex.proofs.Among.{among_cases}
use Rattle.ios_lex.proofs.WordForms.{number_word, no_address_port}
use Rattle.ios_acl.specs.declared.entry.Ports.{Ports}
use Rattle.ios_acl.specs.declared.entry.Ports.TheVariants as ports
use Rattle.ios_acl.specs.Grammar.{ArePorts, ports_below, ports_above}
use Rattle.ios_acl.specs.Stops.{IsExpected, StopsBefore, IsStop}
use Rattle.ios_acl.specs.Parts.{IsPortOf, SomePort, SomePortFrom, SomePorts, port_words}
use Rattle.ios_acl.proofs.PrefixFree.{port_prefix_free}

-- the greatest port ends each range
greatest_port : IsNumber 65535 (codes "65535") 65535
greatest_port = record {
  decimal = record {
    digits = (lit< tt, (lit< tt, (lit< tt, (lit< tt, (lit< tt, (lit< tt, tt))))));
    few = lit≤ tt;
    value = refl;
  };
  within = lit≤ tt;
}

begins_from : (tcp : Bool) (low : ℕ) → low ≤ 65535 → Begins (SomePortFrom tcp low false) []
begins_from tcp low small = (codes "65535" ∷ [], (65535, (codes "65535", refl, inr greatest_port), λ _. small))

-- the first word is the port
first_port : (tcp : Bool) (low : ℕ) (b : Bool) (word : List ℕ) (more : Words) → SomePortFrom tcp low b (word ∷ more) → (n : ℕ) × IsPort tcp word n × (b ≡ false → low ≤ n)
first_port tcp low b word more kind =
    let same : kind.1.0 ≡ word = cc kind.1.1 in
    (kind.0, rw same at kind.1.2, kind.2)

no_port_nowhere : (tcp : Bool) (low : ℕ) (b : Bool) → SomePortFrom tcp low b [] → ⊥
no_port_nowhere tcp low b kind = cc kind.1.1

port_expected : (tcp : Bool) (low : ℕ) → low ≤ 65535 → IsExpected (SomePortFrom tcp low false) [] (expecting false true false false)
port_expected tcp low small = record {
  address = (λ e. absurd (cc e), λ m. absurd (address m));
  number = (λ e. (codes "65535", number_word 65535 (codes "65535") 65535 greatest_port, begins), λ m. refl);
  name = (λ e. absurd (cc e), λ m. absurd (no_port_nowhere tcp low false m.0));
  whole = (λ e. absurd (cc e), λ m. absurd (no_port_nowhere tcp low false m));
}
  where
    begins : Begins (SomePortFrom tcp low false) (codes "65535" ∷ [])
    begins = ([], (65535, (codes "65535", refl, inr greatest_port), λ _. small))

    address : MayFollow (SomePortFrom tcp low false) [] IsAddressWord → ⊥
    address m =
        let port = first_port tcp low false m.0 m.2.0 m.2.1 in
        no_address_port tcp m.0 m.1.0 port.0 m.1.1 port.1

-- no port stands first
abbrev pub LacksPort : Bool → Words → Type 0
LacksPort tcp words = (word : List ℕ) (more : Words) → words ≡ word ∷ more → (n : ℕ) → IsPort tcp word n → ⊥

pub no_port_first : (tcp : Bool) (words : Words) (word : List ℕ) (more : Words) → words ≡ word ∷ more → ((n : ℕ) → IsPort tcp word n → ⊥) → LacksPort tcp words
no_port_first tcp words word more whole none other more' whole' n is =
    let same : other ≡ word = cc (whole, whole') in none n (rw same at is)

-- words that begin with no port stop at the first
no_port : (tcp : Bool) (low : ℕ) (words : Words) → low ≤ 65535 → LacksPort tcp words → StopsBefore (SomePortFrom tcp low) [] due.Number words
no_port tcp low [] small none = stopping.short (begins_from tcp low small) (no_port_nowhere tcp low false)
no_port tcp low (word ∷ more) small none = stopping.word word more record {
  begins = begins_from tcp low small;
  stops = stops false;
  expected = port_expected tcp low small;
  lax = (λ e. absurd (cc e), λ m. absurd (stops true m));
}
  where
    stops : (b : Bool) → Begins (SomePortFrom tcp low b) (word ∷ []) → ⊥
    stops b m = let port = first_port tcp low b word m.0 m.1 in none word more refl port.0 port.1

-- and those that begin with a port that is too low
low_port : (tcp : Bool) (low high : ℕ) (word : List ℕ) (more : Words) → low ≤ 65535 → IsPort tcp word high → (low ≤ high → ⊥)
    → StopsBefore (SomePortFrom tcp low) [] due.Order (word ∷ more)
low_port tcp low high word more small is below = stopping.word word more record {
  begins = begins_from tcp low small;
  stops = stops;
  expected = port_expected tcp low small;
  lax = (λ e. ([], (high, (word, refl, is), λ strict. absurd (cc strict))), λ m. refl);
}
  where
    stops : Begins (SomePortFrom tcp low false) (word ∷ []) → ⊥
    stops m =
        let port = first_port tcp low false word m.0 m.1 in
        let same : port.0 ≡ high = port_is_one tcp word port.0 high port.1 is in
        below (rw same at (port.2 refl))

pub stop_no_port_from : (tcp : Bool) (low : ℕ) (words : Words) (stop : Stop) → low ≤ 65535
    → LacksPort tcp words → stop.due ≡ due.Number → stop.left ≡ length words → IsStop (SomePortFrom tcp low) words stop
stop_no_port_from tcp low words stop small none due left =
    stop_first (SomePortFrom tcp low) words stop left (rw due (no_port tcp low words small none))

pub stop_no_port : (tcp : Bool) (words : Words) (stop : Stop)
    → LacksPort tcp words → stop.due ≡ due.Number → stop.left ≡ length words → IsStop (SomePort tcp) words stop
stop_no_port tcp words stop none due left =
    stop_behind (SomePort tcp) (SomePortFrom tcp 0) words [] words stop refl same (stop_no_port_from tcp 0 words stop (omega arith) none due left)
  where
    same : (b : Bool) (x : Words) → SomePort tcp b ([] ++ x) ↔ SomePortFrom tcp 0 b x
    same b x = (λ m. (m.0, m.1, λ _. omega arith), λ m. (m.0, m.1))

pub stop_low_port : (tcp : Bool) (low high : ℕ) (words : Words) (stop : Stop) (word : List ℕ) (more : Words) → low ≤ 65535 → words ≡ word ∷ more
    → IsPort tcp word high → (low ≤ high → ⊥) → stop.due ≡ due.Order → stop.left ≡ length words → IsStop (SomePortFrom tcp low) words stop
stop_low_port tcp low high words stop word more small whole is below due left =
    stop_first (SomePortFrom tcp low) words stop left (rw (due, whole) (low_port tcp low high word more small is below))

-- the word before one port, or `range`
pub data IsTestWord (word : List ℕ) : Type 0 where
  eq : word ≡ codes "eq" → IsTestWord word
  neq : word ≡ codes "neq" → IsTestWord word
  lt : word ≡ codes "lt" → IsTestWord word
  gt : word ≡ codes "gt" → IsTestWord word
  range : word ≡ codes "range" → IsTestWord word

pub test_word : (word : List ℕ) → is_among port_words word ≡ true → IsTestWord word
test_word word among =
    elim (among_cases (codes "eq") (codes "neq" ∷ codes "lt" ∷ codes "gt" ∷ codes "range" ∷ []) word among) [
      | inl same ↦ IsTestWord.eq same
      | inr later ↦ elim (among_cases (codes "neq") (codes "lt" ∷ codes "gt" ∷ codes "range" ∷ []) word later) [
        | inl same ↦ IsTestWord.neq same
        | inr later ↦ elim (among_cases (codes "lt") (codes "gt" ∷ codes "range" ∷ []) word later) [
          | inl same ↦ IsTestWord.lt same
          | inr later ↦ elim (among_cases (codes "gt") (codes "range" ∷ []) word later) [
            | inl same ↦ IsTestWord.gt same
            | inr later ↦ elim (among_cases (codes "range") [] word later) [
              | inl same ↦ IsTestWord.range same
              | inr later ↦ absurd (cc later)
            ]
          ]
        ]
      ]
    ]

-- behind another word than `range` stands one port
port_behind : (tcp b : Bool) (tested : Ports) (first : List ℕ) (x : Words) → (first ≡ codes "range" → ⊥) → ArePorts b tcp tested (first ∷ x) → SomePort tcp b x
port_behind tcp b tested first x other (ArePorts.eq word p whole is value) = (p, (word, cc whole, is))
port_behind tcp b tested first x other (ArePorts.neq word p whole is value) = (p, (word, cc whole, is))
port_behind tcp b tested first x other (ArePorts.lt word p whole is value) = (p, (word, cc whole, is))
port_behind tcp b tested first x other (ArePorts.gt word p whole is value) = (p, (word, cc whole, is))
port_behind tcp b tested first x other (ArePorts.range word word' p q whole is is' order value) = absurd (other (cc whole))

-- behind `range` stand two
pub record IsRange (tcp b : Bool) (x : Words) : Type 0 where
  pub word : List ℕ
  pub other : List ℕ
  pub p : ℕ
  pub q : ℕ
  pub whole : x ≡ word ∷ other ∷ []
  pub first : IsPort tcp word p
  pub second : IsPort tcp other q
  pub order : b ≡ false → p ≤ q

range_behind : (tcp b : Bool) (tested : Ports) (x : Words) → ArePorts b tcp tested (codes "range" ∷ x) → IsRange tcp b x
range_behind tcp b tested x (ArePorts.eq word p whole is value) = absurd (cc whole)
range_behind tcp b tested x (ArePorts.neq word p whole is value) = absurd (cc whole)
range_behind tcp b tested x (ArePorts.lt word p whole is value) = absurd (cc whole)
range_behind tcp b tested x (ArePorts.gt word p whole is value) = absurd (cc whole)
range_behind tcp b tested x (ArePorts.range word other p q whole is is' order value) =
    record { word = word; other = other; p = p; q = q; whole = cc whole; first = is; second = is'; order = order }

range_from : (tcp b : Bool) (x : Words) → IsRange tcp b x → SomePorts tcp b (codes "range" ∷ x)
range_from tcp b x r = (ports.Within r.p r.q, ArePorts.range r.word r.other r.p r.q (rw r.whole refl) r.first r.second r.order refl)

-- a stop behind a word before one port
stop_one_port : (tcp : Bool) (first : List ℕ) (rest : Words) (stop : Stop) → (first ≡ codes "range" → ⊥)
    → ((b : Bool) (word : List ℕ) (p : ℕ) → IsPort tcp word p → SomePorts tcp b (first ∷ word ∷ []))
    → IsStop (SomePort tcp) rest stop → IsStop (SomePorts tcp) (first ∷ rest) stop
stop_one_port tcp first rest stop other one stops = stop_behind (SomePorts tcp) (SomePort tcp) (first ∷ rest) (first ∷ []) rest stop refl same stops
  where
    same : (b : Bool) (x : Words) → SomePorts tcp b (first ∷ x) ↔ SomePort tcp b x
    same b x = (λ m. port_behind tcp b m.0 first x other m.1, λ m. rw m.1.1 (one b m.1.0 m.0 m.1.2))

-- and at the first port behind `range`
stop_first_of_range : (tcp : Bool) (rest : Words) (stop : Stop) → (expected_of stop.due).whole ≡ false
    → IsStop (SomePort tcp) rest stop → IsStop (SomePorts tcp) (codes "range" ∷ rest) stop
stop_first_of_range tcp rest stop part stops =
    stop_behind (SomePorts tcp) (IsRange tcp) (codes "range" ∷ rest) (codes "range" ∷ []) rest stop refl same (stop_within (SomePort tcp) (IsRange tcp) rest stop first (port_prefix_free tcp) (λ x m. m) part stops)
  where
    same : (b : Bool) (x : Words) → SomePorts tcp b (codes "range" ∷ x) ↔ IsRange tcp b x
    same b x = (λ m. range_behind tcp b m.0 x m.1, range_from tcp b x)

    goes_on : (b : Bool) (x : Words) → SomePort tcp b x → Begins (IsRange tcp b) x
    goes_on b x m = (
      m.1.0 ∷ [],
      record {
        word = m.1.0;
        other = m.1.0;
        p = m.0;
        q = m.0;
        whole = rw m.1.1 refl;
        first = m.1.2;
        second = m.1.2;
        order = λ strict. omega arith;
      },
    )

    splits : (b : Bool) (x : Words) → IsRange tcp b x → (front : Words) × (back : Words) × (x ≡ front ++ back) × SomePort tcp b front
    splits b x r = (r.word ∷ [], r.other ∷ [], r.whole, (r.p, (r.word, refl, r.first)))

    first : (b : Bool) → IsFirstPart (SomePort tcp b) (IsRange tcp b)
    first b = record { goes_on = goes_on b; splits = splits b }

pub stop_in_port : (tcp : Bool) (first : List ℕ) (rest : Words) (stop : Stop) → is_among port_words first ≡ true → (expected_of stop.due).whole ≡ false
    → IsStop (SomePort tcp) rest stop → IsStop (SomePorts tcp) (first ∷ rest) stop
stop_in_port tcp first rest stop among part stops = by_word (test_word first among)
  where
    by_word : IsTestWord first → IsStop (SomePorts tcp) (first ∷ rest) stop
    by_word (IsTestWord.eq same) = rw same (stop_one_port tcp (codes "eq") rest stop (λ e. cc e) (λ b word p is. (ports.Within p p, ArePorts.eq word p refl is refl)) stops)
    by_word (IsTestWord.neq same) = rw same (stop_one_port tcp (codes "neq") rest stop (λ e. cc e) (λ b word p is. (ports.Not p, ArePorts.neq word p refl is refl)) stops)
    by_word (IsTestWord.lt same) = rw same (stop_one_port tcp (codes "lt") rest stop (λ e. cc e) (λ b word p is. (ports_below p, ArePorts.lt word p refl is refl)) stops)
    by_word (IsTestWord.gt same) = rw same (stop_one_port tcp (codes "gt") rest stop (λ e. cc e) (λ b word p is. (ports_above p, ArePorts.gt word p refl is refl)) stops)
    by_word (IsTestWord.range same) = rw same (stop_first_of_range tcp rest stop part stops)

-- and at the last port
pub stop_in_range : (tcp : Bool) (low : ℕ) (rest others : Words) (stop : Stop) → BeginsWith (IsPortOf tcp low) rest others
    → IsStop (SomePortFrom tcp low) others stop → IsStop (SomePorts tcp) (codes "range" ∷ rest) stop
stop_in_range tcp low rest others stop (front, whole, (word, one, is)) stops =
    stop_behind (SomePorts tcp) (SomePortFrom tcp low) (codes "range" ∷ rest) (codes "range" ∷ word ∷ []) others stop (rw (whole, one) refl) same stops
  where
    forth : (b : Bool) (x : Words) → IsRange tcp b (word ∷ x) → SomePortFrom tcp low b x
    forth b x r =
        let named : r.word ≡ word = cc r.whole in
        let least : r.p ≡ low = port_is_one tcp word r.p low (rw named at r.first) is in
        (r.q, (r.other, cc r.whole, r.second), λ strict. rw least at (r.order strict))

    back : (b : Bool) (x : Words) → SomePortFrom tcp low b x → IsRange tcp b (word ∷ x)
    back b x m = record {
      word = word;
      other = m.1.0;
      p = low;
      q = m.0;
      whole = rw m.1.1 refl;
      first = is;
      second = m.1.2;
      order = m.2;
    }

    same : (b : Bool) (x : Words) → SomePorts tcp b (codes "range" ∷ word ∷ x) ↔ SomePortFrom tcp low b x
    same b x = (λ m. forth b x (range_behind tcp b m.0 (word ∷ x) m.1), λ m. range_from tcp b (word ∷ x) (back b x m))

-- a word of a test and the one port behind it are the test
pub read_one_port : (tcp : Bool) (tested : Ports) (p : ℕ) (first : List ℕ) (rest others : Words)
    → ((word : List ℕ) → IsPort tcp word p → ArePorts false tcp tested (first ∷ word ∷ [])) → BeginsWith (IsPortOf tcp p) rest others
    → BeginsWith (ArePorts false tcp tested) (first ∷ rest) others
read_one_port tcp tested p first rest others one (front, whole, (word, same, is)) = (first ∷ word ∷ [], rw (whole, same) refl, one word is)

-- and `range` with two ports
pub read_range : (tcp : Bool) (p q : ℕ) (rest between others : Words) → p ≤ q → BeginsWith (IsPortOf tcp p) rest between → BeginsWith (IsPortOf tcp q) between others
    → BeginsWith (ArePorts false tcp (ports.Within p q)) (codes "range" ∷ rest) others
read_range tcp p q rest between others order (front, whole, (word, same, is)) (front', whole', (word', same', is')) =
    (codes "range" ∷ word ∷ word' ∷ [], rw (whole, same, whole', same') refl, ArePorts.range word word' p q refl is is' (λ strict. order) refl)

-- the word of a test that is none of the first four
pub last_word : (word : List ℕ) → is_among port_words word ≡ true → bytes_eq word (codes "eq") ≡ false → bytes_eq word (codes "neq") ≡ false
    → bytes_eq word (codes "lt") ≡ false → bytes_eq word (codes "gt") ≡ false → word ≡ codes "range"
last_word word among no_eq no_neq no_lt no_gt = by_word (test_word word among)
  where
    by_word : IsTestWord word → word ≡ codes "range"
    by_word (IsTestWord.eq same) = let no = rw same at no_eq in cc no
    by_word (IsTestWord.neq same) = let no = rw same at no_neq in cc no
    by_word (IsTestWord.lt same) = let no = rw same at no_lt in cc no
    by_word (IsTestWord.gt same) = let no = rw same at no_gt in cc no
    by_word (IsTestWord.range same) = same

-- words that begin with no word of a test begin no test
pub lacks_test : (tcp b : Bool) (word : List ℕ) (more : Words) → SomePorts tcp b (word ∷ more) → is_among port_words word ≡ true
lacks_test tcp b word more m = by_case m.1
  where
    by_case : ArePorts b tcp m.0 (word ∷ more) → is_among port_words word ≡ true
    by_case (ArePorts.eq other p whole is value) = let same : word ≡ codes "eq" = cc whole in rw same refl
    by_case (ArePorts.neq other p whole is value) = let same : word ≡ codes "neq" = cc whole in rw same refl
    by_case (ArePorts.lt other p whole is value) = let same : word ≡ codes "lt" = cc whole in rw same refl
    by_case (ArePorts.gt other p whole is value) = let same : word ≡ codes "gt" = cc whole in rw same refl
    by_case (ArePorts.range other other' p q whole is is' order value) = let same : word ≡ codes "range" = cc whole in rw same refl

pub no_ports_nowhere : (tcp b : Bool) → SomePorts tcp b [] → ⊥
no_ports_nowhere tcp b m = by_case m.1
  where
    by_case : ArePorts b tcp m.0 [] → ⊥
    by_case (ArePorts.eq word p whole is value) = cc whole
    by_case (ArePorts.neq word p whole is value) = cc whole
    by_case (ArePorts.lt word p whole is value) = cc whole
    by_case (ArePorts.gt word p whole is value) = cc whole
    by_case (ArePorts.range word other p q whole is is' order value) = cc whole

-- what is a test is one where ranges may be backward
pub more_ports : (tcp : Bool) (x : Words) → SomePorts tcp false x → SomePorts tcp true x
more_ports tcp x m = (m.0, by_case m.1)
  where
    by_case : ArePorts false tcp m.0 x → ArePorts true tcp m.0 x
    by_case (ArePorts.eq word p whole is value) = ArePorts.eq word p whole is value
    by_case (ArePorts.neq word p whole is value) = ArePorts.neq word p whole is value
    by_case (ArePorts.lt word p whole is value) = ArePorts.lt word p whole is value
    by_case (ArePorts.gt word p whole is value) = ArePorts.gt word p whole is value
    by_case (ArePorts.range word other p q whole is is' order value) = ArePorts.range word other p q whole is is' (λ e. absurd (cc e)) value
