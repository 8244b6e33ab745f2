-- The line of a dynamic entry, part by part, and where it stops.
use Rattle.std.proofs.Common.{◌≡◌, ◌⊎◌, inl, inr, ◌↔◌, ℕ, Bool, true, false, List, [], ◌∷◌, length, codes, refl}
use Rattle.std.specs.Bool.{if◌then◌else◌}
use Rattle.ios_lex.specs.declared.stop.Due.TheVariants as due
use Rattle.ios_lex.specs.declared.stop.Stop.{Stop}
use Rattle.ios_lex.specs.Following.{Begins}
use Rattle.ios_lex.specs.NextWords.{IsNameOf, NoMore, NoName}
use Rattle.ios_lex.specs.Phrases.{Words, Then}
use Rattle.ios_lex.specs.Refusal.{begins_with_digit}
use Rattle.ios_lex.specs.Stops.{BeginsWith, expected_of, LacksFirst, IsStop}
use Rattle.ios_lex.proofs.Chains.{then_map}
use Rattle.ios_lex.proofs.FirstStops.{lacks_word, stop_at_end, stop_at_keyword}
use Rattle.ios_lex.proofs.LineParts.{IsPart, name_part, some_name, stop_behind_first, stop_in_first, stop_of_same, then_read}
use Rattle.ios_lex.proofs.OneCut.{single_word_prefix_free}
use Rattle.ios_lex.proofs.Stopping.{stop_behind}
use Rattle.ios_lex.proofs.WordForms.{other_no_address, other_no_number}
use Rattle.ios_nat.specs.declared.entry.DynamicFrom.{DynamicFrom}
use Rattle.ios_nat.specs.declared.entry.DynamicFrom.TheVariants as from
use Rattle.ios_nat.specs.declared.kind.Kind.TheVariants as kinds
use Rattle.ios_nat.specs.Grammar.{from_name, IsDynamic, IsFromWord, IsOverload, Line, unmodelled}
use Rattle.ios_nat.specs.Parts.{from_of, IsFrom, SomeFromEnd, SomeFromWord, SomeListName, SomeNameEnd, SomeOverload}

-- where the addresses come from, by its word and its name
from_part : (source : DynamicFrom) (words : Words) → IsFromWord source words → (pool : Bool) × IsFrom pool words
from_part (from.Pool name) words is = (true, is)
from_part (from.Interface name) words is = (false, is)

pub word_of : (pool : Bool) (name : List ℕ) (words : Words) → IsFrom pool words → IsFromWord (from_of pool name) words
word_of true name words is = is
word_of false name words is = is

pub name_of : (pool : Bool) (name : List ℕ) → from_name (from_of pool name) ≡ name
name_of true name = refl
name_of false name = refl

line_parts : (b : Bool) (x : Words) → Line kinds.Dynamic b x ↔ Then (SomeListName b) (SomeFromEnd b) x
line_parts b x = (
  λ h. then_map (λ y is. (h.0.list, is)) (λ y h'. then_map (λ z is. from_part h.0.from z is) (λ z h''. then_map (λ w is. (from_name h.0.from, is)) (λ w is. (h.0.overload, is)) z h'') y h') x h.1,
  back,
)
  where
    back : Then (SomeListName b) (SomeFromEnd b) x → Line kinds.Dynamic b x
    back h =
        let source = h.second in
        let named = source.second in
        let name : List ℕ = named.first.0 in (
          record { line = 0; list = h.first.0; from = from_of source.first.0 name; overload = named.second.0 },
          record {
            front = h.front;
            back = h.back;
            whole = h.whole;
            first = h.first.1;
            second = record {
              front = source.front;
              back = source.back;
              whole = source.whole;
              first = word_of source.first.0 name source.front source.first.1;
              second = record {
                front = named.front;
                back = named.back;
                whole = named.whole;
                first = rw (name_of source.first.0 name) named.first.1;
                second = named.second.1;
              };
            };
          },
        )

-- the parts, and some words of each kind

from_word_part : IsPart SomeFromWord
from_word_part = record { free = λ b. single_word_prefix_free (SomeFromWord b) (λ x is. ((if is.0 then codes "pool" else codes "interface"), is.1)); more = λ x is. is }

some_overload : (b : Bool) → SomeOverload b []
some_overload b = (false, IsOverload.none refl refl)

some_list_name : (b : Bool) → SomeListName b (codes "1" ∷ [])
some_list_name b = (codes "1", (refl, λ strict. (refl, refl)))

some_name_end : (b : Bool) → SomeNameEnd b (codes "1" ∷ [])
some_name_end b = record { front = codes "1" ∷ []; back = []; whole = refl; first = some_list_name b; second = some_overload b }

some_from_end : (b : Bool) → SomeFromEnd b (codes "pool" ∷ codes "1" ∷ [])
some_from_end b = record { front = codes "pool" ∷ []; back = codes "1" ∷ []; whole = refl; first = (true, refl); second = some_name_end b }

-- where the line stops

pub stop_in_list : (words : Words) (stop : Stop) → (expected_of stop.due).whole ≡ false → IsStop NoName SomeListName words stop → IsStop NoName (Line kinds.Dynamic) words stop
stop_in_list words stop part stops =
    stop_of_same (Line kinds.Dynamic) (λ b. Then (SomeListName b) (SomeFromEnd b)) words stop line_parts
    (stop_in_first SomeListName SomeFromEnd words (codes "pool" ∷ codes "1" ∷ []) stop (name_part (unmodelled kinds.Dynamic)) some_from_end part stops)

pub stop_behind_list : (name : List ℕ) (words rest : Words) (stop : Stop) → BeginsWith (IsNameOf (unmodelled kinds.Dynamic) false name) words rest → IsStop NoName SomeFromEnd rest stop → IsStop NoName (Line kinds.Dynamic) words stop
stop_behind_list name words rest stop begins stops =
    stop_of_same (Line kinds.Dynamic) (λ b. Then (SomeListName b) (SomeFromEnd b)) words stop line_parts
    (stop_behind_first SomeListName SomeFromEnd words rest stop (name_part (unmodelled kinds.Dynamic)) (some_name (unmodelled kinds.Dynamic) name words rest begins) stops)

pub stop_in_from : (words : Words) (stop : Stop) → (expected_of stop.due).whole ≡ false → IsStop NoName SomeFromWord words stop → IsStop NoName SomeFromEnd words stop
stop_in_from words stop part stops = stop_in_first SomeFromWord SomeNameEnd words (codes "1" ∷ []) stop from_word_part some_name_end part stops

pub stop_behind_from : (pool : Bool) (words rest : Words) (stop : Stop) → BeginsWith (IsFrom pool) words rest → IsStop NoName SomeNameEnd rest stop → IsStop NoName SomeFromEnd words stop
stop_behind_from pool words rest stop (front, whole, is) stops = stop_behind_first SomeFromWord SomeNameEnd words rest stop from_word_part (front, whole, (pool, is)) stops

pub stop_in_from_name : (words : Words) (stop : Stop) → (expected_of stop.due).whole ≡ false → IsStop NoName SomeListName words stop → IsStop NoName SomeNameEnd words stop
stop_in_from_name words stop part stops = stop_in_first SomeListName SomeOverload words [] stop (name_part (unmodelled kinds.Dynamic)) some_overload part stops

pub stop_behind_from_name : (name : List ℕ) (words rest : Words) (stop : Stop) → BeginsWith (IsNameOf (unmodelled kinds.Dynamic) false name) words rest → IsStop NoName SomeOverload rest stop → IsStop NoName SomeNameEnd words stop
stop_behind_from_name name words rest stop begins stops =
    stop_behind_first SomeListName SomeOverload words rest stop (name_part (unmodelled kinds.Dynamic)) (some_name (unmodelled kinds.Dynamic) name words rest begins) stops

-- the word before the name of the pool or the interface

from_letter : (b : Bool) (word : List ℕ) → Begins (SomeFromWord b) (word ∷ []) → (word ≡ codes "pool") ⊎ (word ≡ codes "interface")
from_letter b word (more, (true, is)) = inl (cc is)
from_letter b word (more, (false, is)) = inr (cc is)

no_digit : (word : List ℕ) → (word ≡ codes "pool") ⊎ (word ≡ codes "interface") → begins_with_digit word ≡ false
no_digit word (inl is) = rw is refl
no_digit word (inr is) = rw is refl

no_from_left : SomeFromWord false [] → ⊥
no_from_left is = cc (is.1)

pub from_stop : (words : Words) (stop : Stop) → stop.left ≡ length words → stop.due ≡ due.Keyword → ((b : Bool) → LacksFirst (SomeFromWord b) words) → IsStop NoName SomeFromWord words stop
from_stop words stop left is lacks =
    stop_at_keyword SomeFromWord words stop left is (codes "pool" ∷ [], (true, refl)) no_from_left
    (λ word form begins. other_no_address word form.0 (no_digit word (from_letter false word begins)) form.1)
    (λ word form begins. other_no_number word (no_digit word (from_letter false word begins)) form)
    lacks

pub lacks_from : (words rest : Words) (word : List ℕ) → words ≡ word ∷ rest → (word ≡ codes "pool" → ⊥) → (word ≡ codes "interface" → ⊥) → (b : Bool) → LacksFirst (SomeFromWord b) words
lacks_from words rest word whole no_pool no_interface b =
    lacks_word (SomeFromWord b) words rest word whole (λ begins. elim (from_letter b word begins) [ inl is ↦ no_pool is | inr is ↦ no_interface is ])

pub from_read : (pool : Bool) (words rest : Words) → words ≡ (if pool then codes "pool" else codes "interface") ∷ rest → BeginsWith (IsFrom pool) words rest
from_read pool words rest whole = ((if pool then codes "pool" else codes "interface") ∷ [], whole, refl)

-- that several sources share an address

behind_overload : (b : Bool) (x : Words) → SomeOverload b (codes "overload" ∷ x) ↔ NoMore b x
behind_overload b x = (λ h. forth h.0 h.1, λ none. (true, IsOverload.some (rw none refl) refl))
  where
    forth : (overload : Bool) → IsOverload overload (codes "overload" ∷ x) → NoMore b x
    forth overload (IsOverload.none whole is) = cc whole
    forth overload (IsOverload.some whole is) = cc whole

pub overload_stop : (words rest : Words) (stop : Stop) → words ≡ codes "overload" ∷ rest → IsStop NoName NoMore rest stop → IsStop NoName SomeOverload words stop
overload_stop words rest stop whole stops = stop_behind SomeOverload NoMore words (codes "overload" ∷ []) rest stop whole behind_overload stops

overload_word : (overload b : Bool) (word : List ℕ) (more : Words) → IsOverload overload (word ∷ more) → word ≡ codes "overload"
overload_word overload b word more (IsOverload.none whole is) = cc whole
overload_word overload b word more (IsOverload.some whole is) = cc whole

overload_letter : (word : List ℕ) → word ≡ codes "overload" → begins_with_digit word ≡ false
overload_letter word is = rw is refl

pub no_overload_stop : (words rest : Words) (word : List ℕ) (stop : Stop) → words ≡ word ∷ rest → stop.left ≡ length words → stop.due ≡ due.Nothing → (word ≡ codes "overload" → ⊥) → IsStop NoName SomeOverload words stop
no_overload_stop words rest word stop whole left is other =
    stop_at_end SomeOverload words stop left is (false, IsOverload.none refl refl)
    (λ w form begins. other_no_address w form.0 (overload_letter w (overload_word begins.1.0 false w begins.0 begins.1.1)) form.1)
    (λ w form begins. other_no_number w (overload_letter w (overload_word begins.1.0 false w begins.0 begins.1.1)) form)
    (λ none. cc (whole, none))
    (λ b. lacks_word (SomeOverload b) words rest word whole (λ begins. other (overload_word begins.1.0 b word begins.0 begins.1.1)))

-- the parts, one behind the other
pub dynamic_read : (line : ℕ) (list name : List ℕ) (pool overload : Bool) (words from_list from_from from_name : Words)
    → BeginsWith (IsNameOf (unmodelled kinds.Dynamic) false list) words from_list → BeginsWith (IsFrom pool) from_list from_from
    → BeginsWith (IsNameOf (unmodelled kinds.Dynamic) false name) from_from from_name → IsOverload overload from_name
    → IsDynamic false (record { line = line; list = list; from = from_of pool name; overload = overload }) words
dynamic_read line list name pool overload words from_list from_from from_name listed (front, whole, is) (front', whole', is') shared =
    then_read words from_list listed
    (record {
      front = front;
      back = from_from;
      whole = whole;
      first = word_of pool name front is;
      second = record { front = front'; back = from_name; whole = whole'; first = rw (name_of pool name) is'; second = shared };
    })

pub some_line : Begins (Line kinds.Dynamic false) []
some_line = (
  codes "1" ∷ codes "pool" ∷ codes "1" ∷ [],
  (line_parts false (codes "1" ∷ codes "pool" ∷ codes "1" ∷ [])).1 (record { front = codes "1" ∷ []; back = codes "pool" ∷ codes "1" ∷ []; whole = refl; first = some_list_name false; second = some_from_end false }),
)
