-- The line that sets a list, part by part, and where it stops.
use Rattle.std.proofs.Common.{◌≡◌, ◌⊎◌, inl, inr, ◌↔◌, ℕ, Bool, false, List, [], ◌∷◌, length, codes, refl}
use Rattle.ios_lex.specs.declared.stop.Due.TheVariants as due
use Rattle.ios_lex.specs.declared.stop.Stop.{Stop}
use Rattle.ios_lex.specs.Following.{Begins}
use Rattle.ios_lex.specs.NextWords.{IsNameOf, NoMore, NoName}
use Rattle.ios_lex.specs.Phrases.{Words, Then}
use Rattle.ios_lex.specs.Refusal.{begins_with_digit}
use Rattle.ios_lex.specs.Stops.{BeginsWith, expected_of, LacksFirst, IsStop}
use Rattle.ios_lex.proofs.Chains.{then_map}
use Rattle.ios_lex.proofs.FirstStops.{lacks_word, stop_at_keyword}
use Rattle.ios_lex.proofs.LineParts.{IsPart, name_part, some_name, stop_behind_first, stop_behind_last, stop_in_first, stop_of_same}
use Rattle.ios_lex.proofs.OneCut.{single_word_prefix_free}
use Rattle.ios_lex.proofs.WordForms.{other_no_address, other_no_number}
use Rattle.ios_interface.specs.declared.kind.Direction.{Direction}
use Rattle.ios_interface.specs.declared.kind.Direction.TheVariants as directions
use Rattle.ios_interface.specs.declared.kind.Kind.TheVariants as kinds
use Rattle.ios_interface.specs.Grammar.{IsDirection, Line}
use Rattle.ios_interface.specs.Parts.{SomeDirection, SomeListName}

-- the direction

direction_of_word : (words : Words) (direction : Direction) → IsDirection direction words → (word : List ℕ) × (words ≡ word ∷ [])
direction_of_word words directions.In is = (codes "in", is)
direction_of_word words directions.Out is = (codes "out", is)

direction_part : IsPart SomeDirection
direction_part = record { free = λ b. single_word_prefix_free (SomeDirection b) (λ x is. direction_of_word x is.0 is.1); more = λ x is. is }

some_direction : (b : Bool) → SomeDirection b (codes "in" ∷ [])
some_direction b = (directions.In, refl)

direction_letter : (b : Bool) (word : List ℕ) → Begins (SomeDirection b) (word ∷ []) → (word ≡ codes "in") ⊎ (word ≡ codes "out")
direction_letter b word (more, (directions.In, is)) = inl (cc is)
direction_letter b word (more, (directions.Out, is)) = inr (cc is)

no_digit : (word : List ℕ) → (word ≡ codes "in") ⊎ (word ≡ codes "out") → begins_with_digit word ≡ false
no_digit word (inl is) = rw is refl
no_digit word (inr is) = rw is refl

no_direction_left : (direction : Direction) → IsDirection direction [] → ⊥
no_direction_left directions.In is = cc is
no_direction_left directions.Out is = cc is

pub direction_stop : (words : Words) (stop : Stop) → stop.left ≡ length words → stop.due ≡ due.Keyword → ((b : Bool) → LacksFirst (SomeDirection b) words) → IsStop NoName SomeDirection words stop
direction_stop words stop left is lacks =
    stop_at_keyword SomeDirection words stop left is (codes "in" ∷ [], some_direction false) (λ h. no_direction_left h.0 h.1)
    (λ word form begins. other_no_address word form.0 (no_digit word (direction_letter false word begins)) form.1)
    (λ word form begins. other_no_number word (no_digit word (direction_letter false word begins)) form)
    lacks

pub lacks_direction : (words rest : Words) (word : List ℕ) → words ≡ word ∷ rest → (word ≡ codes "in" → ⊥) → (word ≡ codes "out" → ⊥) → (b : Bool) → LacksFirst (SomeDirection b) words
lacks_direction words rest word whole no_in no_out b =
    lacks_word (SomeDirection b) words rest word whole (λ begins. elim (direction_letter b word begins) [ inl is ↦ no_in is | inr is ↦ no_out is ])

-- the line

line_parts : (b : Bool) (x : Words) → Line kinds.AccessGroup b x ↔ Then (SomeListName b) (SomeDirection b) x
line_parts b x = (
  λ h. then_map (λ y is. (h.0, is)) (λ y is. (h.1, is)) x h.2,
  λ h. (h.first.0, h.second.0, record { front = h.front; back = h.back; whole = h.whole; first = h.first.1; second = h.second.1 }),
)

pub some_group_line : Begins (Line kinds.AccessGroup false) []
some_group_line = (
  codes "1" ∷ codes "in" ∷ [],
  (line_parts false (codes "1" ∷ codes "in" ∷ [])).1
      (record { front = codes "1" ∷ []; back = codes "in" ∷ []; whole = refl; first = (codes "1", (refl, λ strict. (refl, refl))); second = some_direction false }),
)

pub stop_in_list : (words : Words) (stop : Stop) → (expected_of stop.due).whole ≡ false → IsStop NoName SomeListName words stop → IsStop NoName (Line kinds.AccessGroup) words stop
stop_in_list words stop part stops =
    stop_of_same (Line kinds.AccessGroup) (λ b. Then (SomeListName b) (SomeDirection b)) words stop line_parts
    (stop_in_first SomeListName SomeDirection words (codes "in" ∷ []) stop (name_part []) some_direction part stops)

pub stop_behind_list : (name : List ℕ) (words rest : Words) (stop : Stop) → BeginsWith (IsNameOf [] false name) words rest → IsStop NoName SomeDirection rest stop → IsStop NoName (Line kinds.AccessGroup) words stop
stop_behind_list name words rest stop begins stops =
    stop_of_same (Line kinds.AccessGroup) (λ b. Then (SomeListName b) (SomeDirection b)) words stop line_parts
    (stop_behind_first SomeListName SomeDirection words rest stop (name_part []) (some_name [] name words rest begins) stops)

pub stop_behind_direction : (direction : Direction) (words rest : Words) (stop : Stop) → BeginsWith (IsDirection direction) words rest → IsStop NoName NoMore rest stop → IsStop NoName SomeDirection words stop
stop_behind_direction direction words rest stop (front, whole, is) stops = stop_behind_last SomeDirection words rest stop direction_part (front, whole, (direction, is)) stops
