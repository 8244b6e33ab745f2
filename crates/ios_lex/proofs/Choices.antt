-- A part of a line that may be left out, and what stands behind it.
use Rattle.std.proofs.Common.{◌≡◌, ◌⊎◌, inl, inr, ◌↔◌, ℕ, ◌<◌, Bool, true, false, List, [], ◌∷◌, ◌++◌, length, refl}
use Rattle.ios_lex.specs.declared.stop.Stop.{Stop}
use Rattle.ios_lex.specs.Phrases.{Words, Then}
use Rattle.ios_lex.specs.Following.{Begins, IsAddressWord, IsNumberWord}
use Rattle.ios_lex.specs.Stops.{expected_of, LacksFirst, IsStop}
use Rattle.ios_lex.proofs.Chains.{cut_behind}
use Rattle.ios_lex.proofs.Stopping.{IsPrefixFree, IsOptionalPart, stop_behind, stop_within_optional, stop_without}

-- a line is a rest, and a part may stand before it
pub record IsChoice (Part Rest Line : Bool → Words → Type 0) : Type 0 where
  pub same : (b : Bool) (x : Words) → Line b x ↔ (Rest b x ⊎ Then (Part b) (Rest b) x)
  pub empty : (b : Bool) → Rest b []
  pub apart : (b : Bool) (word : List ℕ) → Begins (Part b) (word ∷ []) → Begins (Rest b) (word ∷ []) → ⊥
  pub some : (b : Bool) → Part b [] → ⊥
  pub free : (b : Bool) → IsPrefixFree (Part b)
  pub more : (x : Words) → Part false x → Part true x

optional_part : (Part Rest Line : Bool → Words → Type 0) → IsChoice Part Rest Line → (b : Bool) → IsOptionalPart (Part b) (Rest b) (Line b)
optional_part Part Rest Line choice b = record {
  goes_on = λ words part. ([], (choice.same b (words ++ [])).1 (inr record { front = words; back = []; whole = refl; first = part; second = choice.empty b }));
  without = λ words rest. (choice.same b words).1 (inl rest);
  splits = splits;
  apart = choice.apart b;
  some = choice.some b;
}
  where
    splits : (words : Words) → Line b words → Rest b words ⊎ ((front : Words) × (back : Words) × (words ≡ front ++ back) × Part b front)
    splits words line = elim ((choice.same b words).0 line) [ inl rest ↦ inl rest | inr both ↦ inr (both.front, both.back, both.whole, both.first) ]

-- behind the part a line is what the rest is
behind_part : (Part Rest Line : Bool → Words → Type 0) → IsChoice Part Rest Line → (front : Words) → Part false front
    → (b : Bool) (x : Words) → Line b (front ++ x) ↔ Rest b x
behind_part Part Rest Line choice front part b x = (
  λ line. forth ((choice.same b (front ++ x)).0 line),
  λ rest. (choice.same b (front ++ x)).1 (inr record {
    front = front;
    back = x;
    whole = refl;
    first = part_at b;
    second = rest;
  }),
)
  where
    part_at : (b : Bool) → Part b front
    part_at true = choice.more front part
    part_at false = part

    no_rest : (front : Words) → Part b front → Rest b (front ++ x) → ⊥
    no_rest [] part rest = choice.some b part
    no_rest (word ∷ front) part rest = choice.apart b word (front, part) (front ++ x, rest)

    forth : Rest b (front ++ x) ⊎ Then (Part b) (Rest b) (front ++ x) → Rest b x
    forth (inl rest) = absurd (no_rest front (part_at b) rest)
    forth (inr both) = rw (cut_behind (Part b) (choice.free b) front x both.front both.back (part_at b) both.first both.whole) both.second

-- a stop behind the part
pub stop_behind_part : {Named : List ℕ → Type 0} (Part Rest Line : Bool → Words → Type 0) → IsChoice Part Rest Line → (words front rest : Words) (stop : Stop)
    → words ≡ front ++ rest → Part false front → IsStop Named Rest rest stop → IsStop Named Line words stop
stop_behind_part Part Rest Line choice words front rest stop whole part stops =
    stop_behind Line Rest words front rest stop whole (behind_part Part Rest Line choice front part) stops

-- a stop within the part, behind its first word
pub stop_in_part : {Named : List ℕ → Type 0} (Part Rest Line : Bool → Words → Type 0) → IsChoice Part Rest Line → (words : Words) (stop : Stop)
    → (expected_of stop.due).whole ≡ false → stop.left < length words → IsStop Named Part words stop → IsStop Named Line words stop
stop_in_part Part Rest Line choice words stop part later stops =
    stop_within_optional Part Rest Line words stop (optional_part Part Rest Line choice) choice.free choice.more part later stops

-- a stop where the part is left out
pub stop_without_part : {Named : List ℕ → Type 0} (Part Rest Line : Bool → Words → Type 0) → IsChoice Part Rest Line → (words : Words) (stop : Stop) → LacksFirst (Part true) words
    → ((word : List ℕ) → IsAddressWord word ⊎ IsNumberWord word ⊎ Named word → Begins (Part false) (word ∷ []) → ⊥)
    → IsStop Named Rest words stop → IsStop Named Line words stop
stop_without_part Part Rest Line choice words stop lacks forms stops =
    stop_without Part Rest Line words stop (optional_part Part Rest Line choice) choice.more lacks forms stops
