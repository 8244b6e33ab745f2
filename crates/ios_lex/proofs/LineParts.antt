-- A part of a line and what stands behind it, and where the line stops.
use Rattle.std.proofs.Common.{◌≡◌, ◌↔◌, ℕ, Bool, true, false, List, [], ◌++◌, length, refl}
use Rattle.std.proofs.lemmas.List.{append-nil}
use Rattle.ios_lex.specs.declared.stop.Due.TheVariants as due
use Rattle.ios_lex.specs.declared.stop.Stop.{Stop}
use Rattle.ios_lex.specs.NextWords.{NoMore, NoName, IsAddressOf, IsNameOf, IsNumberOf, SomeAddress, SomeName, SomeNumber}
use Rattle.ios_lex.specs.Phrases.{Words, Then}
use Rattle.ios_lex.specs.Stops.{BeginsWith, expected_of, IsStop}
use Rattle.ios_lex.proofs.Chains.{then_behind, then_first}
use Rattle.ios_lex.proofs.FirstStops.{stop_at_end}
use Rattle.ios_lex.proofs.OneCut.{single_word_prefix_free}
use Rattle.ios_lex.proofs.Stopping.{IsPrefixFree, stop_behind, stop_within}

-- a part of a line that nothing goes on from, and that lax lines have as well
pub record IsPart (Part : Bool → Words → Type 0) : Type 0 where
  pub free : (b : Bool) → IsPrefixFree (Part b)
  pub more : (x : Words) → Part false x → Part true x

part_at : (Part : Bool → Words → Type 0) (b : Bool) (words : Words) → IsPart Part → Part false words → Part b words
part_at Part true words part is = part.more words is
part_at Part false words part is = is

pub address_part : IsPart SomeAddress
address_part = record { free = λ b. single_word_prefix_free (SomeAddress b) (λ x is. (is.1.0, is.1.1)); more = λ x is. is }

pub number_part : (low high : ℕ) → IsPart (SomeNumber low high)
number_part low high = record { free = λ b. single_word_prefix_free (SomeNumber low high b) (λ x is. (is.1.0, is.1.1)); more = λ x is. is }

pub name_part : (table : Words) → IsPart (SomeName table)
name_part table = record { free = λ b. single_word_prefix_free (SomeName table b) (λ x is. (is.0, is.1.0)); more = λ x is. (is.0, (is.1.0, λ strict. cc strict)) }

pub some_address : (n : ℕ) (words rest : Words) → BeginsWith (IsAddressOf n) words rest → BeginsWith (SomeAddress false) words rest
some_address n words rest (front, whole, is) = (front, whole, (n, is))

pub some_number : (low high n : ℕ) (words rest : Words) → BeginsWith (IsNumberOf low high n) words rest → BeginsWith (SomeNumber low high false) words rest
some_number low high n words rest (front, whole, is) = (front, whole, (n, is))

pub some_name : (table : Words) (name : List ℕ) (words rest : Words) → BeginsWith (IsNameOf table false name) words rest → BeginsWith (SomeName table false) words rest
some_name table name words rest (front, whole, is) = (front, whole, (name, is))

-- a stop in the first part of a line
pub stop_in_first : {Named : List ℕ → Type 0} (Part Rest : Bool → Words → Type 0) (words some : Words) (stop : Stop) → IsPart Part → ((b : Bool) → Rest b some)
    → (expected_of stop.due).whole ≡ false → IsStop Named Part words stop → IsStop Named (λ b. Then (Part b) (Rest b)) words stop
stop_in_first Part Rest words some stop part is partly stops =
    stop_within Part (λ b. Then (Part b) (Rest b)) words stop (λ b. then_first (Part b) (Rest b) some (is b)) part.free part.more partly stops

-- a stop behind the first part of a line
pub stop_behind_first : {Named : List ℕ → Type 0} (Part Rest : Bool → Words → Type 0) (words rest : Words) (stop : Stop) → IsPart Part → BeginsWith (Part false) words rest
    → IsStop Named Rest rest stop → IsStop Named (λ b. Then (Part b) (Rest b)) words stop
stop_behind_first Part Rest words rest stop part (front, whole, is) stops =
    stop_behind (λ b. Then (Part b) (Rest b)) Rest words front rest stop whole
    (λ b x. then_behind (Part b) (Rest b) front x (part.free b) (part_at Part b front part is)) stops

-- a stop of one kind of line is one of each other that has the same words
pub stop_of_same : {Named : List ℕ → Type 0} (Line Other : Bool → Words → Type 0) (words : Words) (stop : Stop) → ((b : Bool) (x : Words) → Line b x ↔ Other b x) → IsStop Named Other words stop → IsStop Named Line words stop
stop_of_same Line Other words stop same stops = stop_behind Line Other words [] words stop refl same stops

-- what a part ends with is the end of the line
ends_behind : (Part : Bool → Words → Type 0) (front : Words) → IsPart Part → Part false front → (b : Bool) (x : Words) → Part b (front ++ x) ↔ NoMore b x
ends_behind Part front part is b x =
    (λ longer. part.free b front x (part_at Part b front part is) longer, λ none. rw (none, append-nil front) (part_at Part b front part is))

-- where the line ends with a part
pub stop_behind_last : {Named : List ℕ → Type 0} (Part : Bool → Words → Type 0) (words rest : Words) (stop : Stop) → IsPart Part → BeginsWith (Part false) words rest → IsStop Named NoMore rest stop → IsStop Named Part words stop
stop_behind_last Part words rest stop part (front, whole, is) stops = stop_behind Part NoMore words front rest stop whole (ends_behind Part front part is) stops

-- more words where none may stand
pub end_stop : (words : Words) (stop : Stop) → stop.left ≡ length words → stop.due ≡ due.Nothing → (words ≡ [] → ⊥) → IsStop NoName NoMore words stop
end_stop words stop left is some =
    stop_at_end NoMore words stop left is refl (λ word form begins. absurd (cc (begins.1))) (λ word form begins. absurd (cc (begins.1))) some
    (λ b word more whole begins. cc (begins.1))

-- a part and what stands behind it
pub then_read : {First Second : Words → Type 0} (words rest : Words) → BeginsWith First words rest → Second rest → Then First Second words
then_read words rest (front, whole, is) second = record { front = front; back = rest; whole = whole; first = is; second = second }

-- a part and nothing behind it
pub whole_part : (Part : Words → Type 0) (words rest : Words) → BeginsWith Part words rest → rest ≡ [] → Part words
whole_part Part words rest (front, whole, is) none = rw (whole, none, append-nil front) is
