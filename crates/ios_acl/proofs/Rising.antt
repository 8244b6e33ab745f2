-- Entries in the order of their numbers.
use Rattle.std.proofs.Common.{◌≡◌, ⊎_elim, ℕ, zero, suc, ◌-◌, ◌<◌, ◌≤◌, ◌==◌, ◌||◌, ◌&&◌, max, nat_lt, Bool, true, false, cond, List, [], ◌∷◌, ◌++◌, length, fold, get_or, slice_get, Some, refl, sym, ap, ◌∙◌, arith}
use Rattle.std.specs.List.{filter, insert, AllByRecursion}
use Rattle.std.specs.List.Sorted.{IsNonDecreasingBy, IsPartitionPoint}
use Rattle.std.proofs.lemmas.Bool.{cases_lt, false≢true, lt-ltb, le-ltb, eq-eqb, ne_eqb}
use Rattle.std.proofs.lemmas.List.{get_or_default, take_at, drop_at}
use Rattle.std.proofs.lemmas.Option.{slice_get_within, get_or_from_slice_get}
use Rattle.ios_acl.specs.declared.entry.Entry.{Entry}
use Rattle.ios_acl.specs.List.{IsRising, has_number, greatest_number, next_number}

-- the entries of smaller numbers, and those of greater ones
abbrev pub before : ℕ → List Entry → List Entry
before n entries = filter (λ (e : Entry). nat_lt e.number n) entries

abbrev pub behind : ℕ → List Entry → List Entry
behind n entries = filter (λ (e : Entry). nat_lt n e.number) entries

abbrev pub AreAbove : ℕ → List Entry → Type 0
AreAbove n entries = AllByRecursion (λ (e : Entry). n < e.number) entries

above_all : (m n : ℕ) (entries : List Entry) → m ≤ n → AreAbove n entries → AreAbove m entries
above_all m n [] le all = tt
above_all m n (e ∷ entries) le all = (omega (arith, all.0), above_all m n entries le all.1)

above_filter : (p : Entry → Bool) (n : ℕ) (entries : List Entry) → AreAbove n entries → AreAbove n (filter p entries)
above_filter p n [] all = tt
above_filter p n (e ∷ entries) all =
    elim (p e) as (λ t. AreAbove n (cond t (e ∷ filter p entries) (filter p entries))) [
      | true ↦ (all.0, above_filter p n entries all.1)
      | false ↦ above_filter p n entries all.1
    ]

above_append : (n : ℕ) (entries others : List Entry) → AreAbove n entries → AreAbove n others → AreAbove n (entries ++ others)
above_append n [] others all rest = rest
above_append n (e ∷ entries) others all rest = (all.0, above_append n entries others all.1 rest)

rising_filter : (p : Entry → Bool) (entries : List Entry) → IsRising entries → IsRising (filter p entries)
rising_filter p [] rising = tt
rising_filter p (e ∷ entries) rising =
    elim (p e) as (λ t. IsRising (cond t (e ∷ filter p entries) (filter p entries))) [
      | true ↦ (above_filter p e.number entries rising.0, rising_filter p entries rising.1)
      | false ↦ rising_filter p entries rising.1
    ]

none_before : (n : ℕ) (entries : List Entry) → AreAbove n entries → before n entries ≡ []
none_before n [] all = refl
none_before n (e ∷ entries) all = rw (le-ltb e.number n (omega (arith, all.0))) (none_before n entries all.1)

all_behind : (n : ℕ) (entries : List Entry) → AreAbove n entries → behind n entries ≡ entries
all_behind n [] all = refl
all_behind n (e ∷ entries) all = rw (lt-ltb n e.number all.0) (ap (λ es. e ∷ es) (all_behind n entries all.1))

none_has : (n : ℕ) (entries : List Entry) → AreAbove n entries → has_number entries n ≡ false
none_has n [] all = refl
none_has n (e ∷ entries) all = rw (ne_eqb e.number n (λ same. omega (arith, all.0))) (none_has n entries all.1)

-- the place of a number in the order is behind the smaller ones
pub place_is_before : (n i : ℕ) (entries : List Entry) → i ≤ length entries → IsPartitionPoint (λ (e : Entry). nat_lt e.number n ≡ true) (λ (e : Entry). nat_lt e.number n ≡ false) entries i
    → i ≡ length (before n entries)
place_is_before n i [] within point = omega arith
place_is_before n zero (e ∷ entries) within point =
    rw (point.1 0 e (omega arith) (omega arith))
    (place_is_before n zero entries (omega arith) (λ k d low high. absurd (omega arith), λ k d low high. point.1 (suc k) d (omega arith) (omega arith)))
place_is_before n (suc i) (e ∷ entries) within point =
    rw (point.0 0 e (omega arith) (omega arith))
    (ap suc (place_is_before n i entries (omega arith) (λ k d low high. point.0 (suc k) d (omega arith) (omega arith), λ k d low high. point.1 (suc k) d (omega arith) (omega arith))))

above_at : (n k : ℕ) (entries : List Entry) (d : Entry) → AreAbove n entries → k < length entries → n < (get_or entries k d).number
above_at n k [] d all within = absurd (omega arith)
above_at n zero (e ∷ entries) d all within = all.0
above_at n (suc k) (e ∷ entries) d all within = above_at n k entries d all.1 (omega arith)

pub rising_in_order : (entries : List Entry) → IsRising entries → IsNonDecreasingBy (λ (e : Entry). e.number) entries
rising_in_order [] rising i j d le within = absurd (omega arith)
rising_in_order (e ∷ entries) rising zero zero d le within = omega arith
rising_in_order (e ∷ entries) rising zero (suc j) d le within = omega (arith, above_at e.number j entries d rising.0 (omega arith))
rising_in_order (e ∷ entries) rising (suc i) zero d le within = absurd (omega arith)
rising_in_order (e ∷ entries) rising (suc i) (suc j) d le within = rising_in_order entries rising.1 i j d (omega arith) (omega arith)

or_none : (b : Bool) → (b || false) ≡ b
or_none true = refl
or_none false = refl

nat_lt_suc : (a b : ℕ) → nat_lt (suc a) (suc b) ≡ nat_lt a b
nat_lt_suc a b =
    ⊎_elim (λ less. lt-ltb (suc a) (suc b) (omega arith) ∙ sym (lt-ltb a b less)) (λ more. le-ltb (suc a) (suc b) (omega arith) ∙ sym (le-ltb a b more)) (cases_lt a b)

-- a number is among the numbers exactly where it stands at its place
pub has_at_place : (n : ℕ) (entries : List Entry) (d : Entry) → IsRising entries
    → has_number entries n ≡ (nat_lt (length (before n entries)) (length entries) && ((get_or entries (length (before n entries)) d).number == n))
has_at_place n [] d rising = refl
has_at_place n (e ∷ entries) d rising =
    ⊎_elim (λ less. rw (lt-ltb e.number n less, ne_eqb e.number n (λ same. omega arith), nat_lt_suc (length (before n entries)) (length entries)) (has_at_place n entries d rising.1))
    (λ more.
    let above = above_all n e.number entries more rising.0 in
    rw (le-ltb e.number n more, none_before n entries above, none_has n entries above, lt-ltb 0 (suc (length entries)) (omega arith)) (or_none (e.number == n)))
    (cases_lt e.number n)

max_none : (n : ℕ) → max 0 n ≡ n
max_none n = omega arith

max_over : (m n : ℕ) → m < n → max m n ≡ n
max_over m n less = omega arith

greatest_behind : (e : Entry) (entries : List Entry) → AreAbove e.number entries → IsRising entries
    → fold (λ greatest (x : Entry). max greatest x.number) e.number entries ≡ (get_or (e ∷ entries) (length entries) e).number
greatest_behind e [] all rising = refl
greatest_behind e (x ∷ entries) all rising =
    rw (max_over e.number x.number all.0)
    (greatest_behind x entries rising.0 rising.1 ∙ ap (λ (y : Entry). y.number) (get_or_default (x ∷ entries) (length entries) x e (omega arith)))

-- the last entry has the greatest number
pub greatest_is_last : (entries : List Entry) (d : Entry) → IsRising entries → 0 < length entries → greatest_number entries ≡ (get_or entries (length entries - 1) d).number
greatest_is_last [] d rising some = absurd (omega arith)
greatest_is_last (e ∷ entries) d rising some =
    let place : length (e ∷ entries) - 1 ≡ length entries = omega arith in
    rw (place, max_none e.number) (greatest_behind e entries rising.0 rising.1 ∙ ap (λ (y : Entry). y.number) (get_or_default (e ∷ entries) (length entries) e d (omega arith)))

pub greatest_of_last : (entries : List Entry) (last : Entry) → IsRising entries → slice_get entries (length entries - 1) ≡ Some last → greatest_number entries ≡ last.number
greatest_of_last entries last rising is =
    let within = slice_get_within entries (length entries - 1) last is in
    greatest_is_last entries last rising (omega arith) ∙ ap (λ (e : Entry). e.number) (get_or_from_slice_get entries (length entries - 1) last last is)

pub has_there : (n place : ℕ) (entries : List Entry) (d : Entry) → IsRising entries → place ≡ length (before n entries) → place < length entries
    → ((get_or entries place d).number == n) ≡ has_number entries n
has_there n place entries d rising is within =
    let has : has_number entries n ≡ (nat_lt place (length entries) && ((get_or entries place d).number == n)) = rw is (has_at_place n entries d rising) in
    sym (has ∙ rw (lt-ltb place (length entries) within))

pub has_past : (n place : ℕ) (entries : List Entry) → IsRising entries → place ≡ length (before n entries) → length entries ≤ place
    → nat_lt place (length entries) ≡ has_number entries n
has_past n place [] rising is past = le-ltb place 0 past
has_past n place (e ∷ entries) rising is past =
    let has : has_number (e ∷ entries) n ≡ (nat_lt place (length (e ∷ entries)) && ((get_or (e ∷ entries) place e).number == n)) = rw is (has_at_place n (e ∷ entries) e rising) in
    let none : nat_lt place (length (e ∷ entries)) ≡ false = le-ltb place (length (e ∷ entries)) past in
    none ∙ sym (has ∙ rw none refl)

fold_from : (m : ℕ) (entries : List Entry) → m ≤ fold (λ greatest (e : Entry). max greatest e.number) m entries
fold_from m [] = omega arith
fold_from m (e ∷ entries) = omega (arith, fold_from (max m e.number) entries)

free_above : (m n : ℕ) (entries : List Entry) → fold (λ greatest (e : Entry). max greatest e.number) m entries < n → has_number entries n ≡ false
free_above m n [] above = refl
free_above m n (e ∷ entries) above =
    let from = fold_from (max m e.number) entries in
    rw (ne_eqb e.number n (λ same. omega arith)) (free_above (max m e.number) n entries above)

-- no entry has the next number
pub next_is_free : (n : ℕ) (entries : List Entry) → n ≡ next_number entries → has_number entries n ≡ false
next_is_free n entries next = free_above 0 n entries (omega arith)

-- the numbers of the entries are below this one
abbrev AreBelow : ℕ → List Entry → Type 0
AreBelow n entries = AllByRecursion (λ (e : Entry). e.number < n) entries

before_below : (n : ℕ) (entries : List Entry) → AreBelow n (before n entries)
before_below n [] = tt
before_below n (e ∷ entries) =
    ⊎_elim (λ less. rw (lt-ltb e.number n less) (less, before_below n entries)) (λ more. rw (le-ltb e.number n more) (before_below n entries)) (cases_lt e.number n)

behind_above : (n : ℕ) (entries : List Entry) → AreAbove n (behind n entries)
behind_above n [] = tt
behind_above n (e ∷ entries) =
    ⊎_elim (λ less. rw (lt-ltb n e.number less) (less, behind_above n entries)) (λ more. rw (le-ltb n e.number more) (behind_above n entries)) (cases_lt n e.number)

rising_between : (entries others : List Entry) (entry : Entry) → IsRising entries → AreBelow entry.number entries → IsRising others → AreAbove entry.number others
    → IsRising (entries ++ entry ∷ others)
rising_between [] others entry rising below rest above = (above, rest)
rising_between (e ∷ entries) others entry rising below rest above = (
  above_append e.number entries (entry ∷ others) rising.0 (below.0, above_all e.number entry.number others (omega (arith, below.0)) above),
  rising_between entries others entry rising.1 below.1 rest above,
)

other_number : (m n : ℕ) (b : Bool) → ((m == n) || b) ≡ false → m ≡ n → ⊥
other_number m n b other same = false≢true (sym other ∙ rw (eq-eqb m n same))

others_free : (m n : ℕ) (b : Bool) → ((m == n) || b) ≡ false → b ≡ false
others_free m n b other = rw (ne_eqb m n (other_number m n b other)) at other

-- where a number is free the entries are those before and those behind it
before_behind : (n : ℕ) (entries : List Entry) → IsRising entries → has_number entries n ≡ false → entries ≡ before n entries ++ behind n entries
before_behind n [] rising free = refl
before_behind n (e ∷ entries) rising free =
    ⊎_elim (λ less.
    rw (lt-ltb e.number n less, le-ltb n e.number (omega arith)) (ap (λ es. e ∷ es) (before_behind n entries rising.1 (others_free e.number n (has_number entries n) free))))
    (λ more.
    let other = other_number e.number n (has_number entries n) free in
    let less : n < e.number = omega arith in
    let above = above_all n e.number entries more rising.0 in
    rw (le-ltb e.number n more, lt-ltb n e.number less, none_before n entries above, all_behind n entries above))
    (cases_lt e.number n)

insert_between : (entries front back : List Entry) (entry : Entry) → entries ≡ front ++ back → insert entries (length front) entry ≡ front ++ entry ∷ back
insert_between entries front back entry is = rw (is, take_at front back (length front) refl, drop_at front back (length front) refl)

-- an entry comes in behind the smaller numbers and before the greater ones
pub insert_in_order : (entries : List Entry) (entry : Entry) → IsRising entries → has_number entries entry.number ≡ false
    → insert entries (length (before entry.number entries)) entry ≡ before entry.number entries ++ entry ∷ behind entry.number entries
insert_in_order entries entry rising free =
    insert_between entries (before entry.number entries) (behind entry.number entries) entry (before_behind entry.number entries rising free)

pub rising_in_between : (entries : List Entry) (entry : Entry) → IsRising entries → IsRising (before entry.number entries ++ entry ∷ behind entry.number entries)
rising_in_between entries entry rising =
    rising_between (before entry.number entries) (behind entry.number entries) entry (rising_filter (λ (e : Entry). nat_lt e.number entry.number) entries rising) (before_below entry.number entries)
    (rising_filter (λ (e : Entry). nat_lt entry.number e.number) entries rising) (behind_above entry.number entries)

pub before_within : (n : ℕ) (entries : List Entry) → length (before n entries) ≤ length entries
before_within n [] = omega arith
before_within n (e ∷ entries) =
    ⊎_elim (λ less. rw (lt-ltb e.number n less) (omega (arith, before_within n entries))) (λ more. rw (le-ltb e.number n more) (omega (arith, before_within n entries))) (cases_lt e.number n)
