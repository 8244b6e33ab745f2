-- Words that are refused behind a head, and texts that end too early.
use Rattle.std.proofs.Common.{◌≡◌, ℕ, ◌<◌, List, [], ◌∷◌, ◌++◌, length, refl, sym, ap, ◌∙◌, append_assoc, inl, inr, ◌⊎◌}
use Rattle.std.proofs.lemmas.List.{map-append}
use Rattle.cnf.specs.declared.lit.Lit.{Lit}
use Rattle.cnf.specs.Clauses.{Formula}
use Rattle.dimacs.specs.declared.fault.DimacsFault.{DimacsFault}
use Rattle.dimacs.specs.declared.fault.DimacsFault.TheVariants as fault
use Rattle.dimacs.specs.declared.fault.DimacsReason.TheVariants as reason
use Rattle.dimacs.specs.Words.{Placed, texts, text_words, end_line}
use Rattle.dimacs.specs.Text.{head_words}
use Rattle.dimacs.specs.Reading.{IsTextOf, Reads, Refuses}
use Rattle.dimacs.specs.Reading as reading
use Rattle.dimacs.specs.Inside.Cursors.{Cursor}
use Rattle.dimacs.specs.Inside.Fronts.{EndsText, IsFault, IsHeadOf, IsRefusedBehind, StopsBy, at, ends}
use Rattle.dimacs.proofs.Readings.{ReadSoFar, so_far_short, so_far_stops}

pub fault_here : (vars count : ℕ) (start now : Cursor) (vars' count' : ℕ) (done : List (List Lit)) (part : List Lit) (so_far : ReadSoFar vars count start now vars' count' done part) (word : Placed) (next : Cursor) → now.words ≡ word ∷ next.words → (why : DimacsFault)
    → StopsBy word.line ((head_words vars count ++ texts so_far.taken) ++ word.text ∷ []) why → IsFault (head_words vars count) start why
fault_here vars count start now vars' count' done part so_far word next first (fault.At line why) stops = so_far_stops vars count start now vars' count' done part so_far word next line why first stops.0 stops.1
fault_here vars count start now vars' count' done part so_far word next first fault.NoMemory stops = tt

pub ended_here : (vars count : ℕ) (start now : Cursor) (vars' count' : ℕ) (done : List (List Lit)) (part : List Lit) → ReadSoFar vars count start now vars' count' done part → (line : ℕ) (why : DimacsFault) → now.words ≡ [] → line ≡ now.end → (why ≡ fault.At line reason.Incomplete) × (length done < count') → IsFault (head_words vars count) start why
ended_here vars count start now vars' count' done part so_far line why none here is = rw is.0 (so_far_short vars count start now vars' count' done part so_far line none here is.1)

-- what is refused behind the words of a head is refused behind nothing
head_and : (vars count : ℕ) (start now : Cursor) (head : IsHeadOf start now vars count) (words : List Placed) → texts (head.head ++ words) ≡ head_words vars count ++ texts words
head_and vars count start now head words = map-append (λ (w : Placed). w.text) head.head words ∙ ap (λ t. t ++ texts words) head.are

behind_head : (vars count : ℕ) (start now : Cursor) → IsHeadOf start now vars count → (line : ℕ) (why : _) → IsRefusedBehind (head_words vars count) now.words now.end line why → IsRefusedBehind [] start.words start.end line why
behind_head vars count start now head line why (at before after word whole goes stops here) =
    at (head.head ++ before) after word
    (head.whole ∙ ap (λ ws. head.head ++ ws) whole ∙ sym (append_assoc head.head before (word ∷ after)))
    (rw (head_and vars count start now head before) goes) (rw (head_and vars count start now head before) stops) here
behind_head vars count start now head line why (ends goes none is here) =
    let all : texts start.words ≡ head_words vars count ++ texts now.words = ap texts head.whole ∙ head_and vars count start now head now.words in
    ends (rw all goes) (rw all none) is (here ∙ head.same_end)

pub fault_behind_head : (vars count : ℕ) (start now : Cursor) → IsHeadOf start now vars count → (why : DimacsFault) → IsFault (head_words vars count) now why → IsFault [] start why
fault_behind_head vars count start now head (fault.At line why) refused = behind_head vars count start now head line why refused
fault_behind_head vars count start now head fault.NoMemory refused = tt

refused_words : (words : List Placed) (end line : ℕ) (why : _) → IsRefusedBehind [] words end line why → reading.IsRefused words end line why
refused_words words end line why (at before after word whole goes stops here) = reading.at before after word whole goes stops here
refused_words words end line why (ends goes none is here) = reading.ends goes none is here

-- a fault of the whole text
pub whole_fault : (bytes : List ℕ) (start : Cursor) (why : DimacsFault) → start.words ≡ text_words bytes → start.end ≡ end_line bytes → IsFault [] start why → (why ≡ fault.NoMemory) ⊎ Refuses bytes why
whole_fault bytes start (fault.At line why) are is refused = inr (rw (sym are, sym is) (refused_words start.words start.end line why refused))
whole_fault bytes start fault.NoMemory are is refused = inl refl

pub whole_text : (bytes : List ℕ) (vars count : ℕ) (start now : Cursor) (formula : Formula) → start.words ≡ text_words bytes → IsHeadOf start now vars count → EndsText vars count now.words formula → Reads bytes formula
whole_text bytes vars count start now formula are head text =
    let all : texts (text_words bytes) ≡ head_words vars count ++ texts now.words = ap texts (sym are ∙ head.whole) ∙ head_and vars count start now head now.words in
    rw all text.text
