-- The reason of a stop among words.
use Rattle.std.proofs.Common.{◌≡◌, ℕ, Bool, false, List, [], ◌∷◌, ◌++◌, length, slice_get, Some, refl, sym, ap, ◌∙◌, arith, length-append}
use Rattle.std.proofs.lemmas.List.{append-nil, get_or_at}
use Rattle.std.proofs.lemmas.Option.{slice_get_past, slice_get-get_or}
use Rattle.ios_lex.specs.declared.reason.IosReason.{IosReason}
use Rattle.ios_lex.specs.declared.reason.IosReason.TheVariants as reason
use Rattle.ios_lex.specs.declared.stop.Stop.{Stop}
use Rattle.ios_lex.specs.Phrases.{Words}
use Rattle.ios_lex.specs.Following.{Begins, StopsAt}
use Rattle.ios_lex.specs.Stops as specs
use Rattle.ios_lex.specs.Stops.{expected_of, is_lax, place_of, reason_where, stop_reason, StopsBefore, IsStop}

-- a line is refused for the reason of its stop, where it is refused for that of a word that does not go on, and where it ends too
-- early. Which words are not modelled, and the reason of a lax line, go by the place of the word
pub refused_at_stop : {Named : List ℕ → Type 0} (Line : Bool → Words → Type 0) (words : Words) (stop : Stop) (Refused : IosReason → Type 0) (table : ℕ → Words) (lax : ℕ → IosReason)
    → ((front more : Words) (word : List ℕ) → words ≡ front ++ word ∷ more → StopsAt Named Line front word (expected_of stop.due) (is_lax stop.due)
    → Refused (reason_where (table (length front)) (lax (length front)) stop.due word))
    → (Begins (Line false) words → (Line false words → ⊥) → Refused reason.BadEntry)
    → IsStop Named Line words stop → Refused (stop_reason (table (place_of words stop)) (lax (place_of words stop)) words stop)
refused_at_stop {Named = Named} Line words stop Refused table lax at_word short is = by is.front is.back is.whole is.left is.stops
  where
    by : (front back : Words) → words ≡ front ++ back → stop.left ≡ length back → StopsBefore Named Line front stop.due back
        → Refused (stop_reason (table (place_of words stop)) (lax (place_of words stop)) words stop)
    by front [] whole left (specs.short begins not) =
        let same : front ≡ words = sym (append-nil front) ∙ sym whole in
        let none = slice_get_past words (place_of words stop) (omega arith) in
        rw none (short (rw same at begins) (λ line. not (rw (sym same) at line)))
    by front (word ∷ more) whole left (specs.word _ _ stopped) =
        let long = length-append front (word ∷ more) in
        let place : place_of words stop ≡ length front = rw whole (omega arith) in
        let here : slice_get words (length front) ≡ Some word =
        slice_get-get_or words (length front) word (rw whole (omega arith)) ∙ ap Some (rw whole (get_or_at front word more word (length front) refl)) in
        rw (place, here) (at_word front more word whole stopped)
