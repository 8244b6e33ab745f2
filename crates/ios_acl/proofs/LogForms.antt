-- Where the words on logging stop.
use Rattle.std.proofs.Common.{◌≡◌, ℕ, Bool, true, false, List, [], ◌∷◌, length, refl}
use Rattle.ios_lex.specs.declared.stop.Due.TheVariants as due
use Rattle.ios_lex.specs.declared.stop.Stop.{Stop}
use Rattle.ios_lex.specs.Phrases.{Words}
use Rattle.ios_lex.specs.Stops.{LacksFirst}
use Rattle.ios_lex.proofs.FirstStops.{expected, unexpected, stop_at}
use Rattle.ios_lex.proofs.Stopping.{stop_behind}
use Rattle.ios_acl.specs.Grammar as grammar
use Rattle.ios_acl.specs.Stops.{IsStop}
use Rattle.ios_acl.specs.Parts.{is_log_word, SomeLog}
use Rattle.ios_acl.proofs.LogWords.{log_alone, log_test, log_read, no_log_address, no_log_number, no_log_name}

-- another word stands where one on logging may
pub log_stop : (extended : Bool) (words more : Words) (word : List ℕ) (stop : Stop) → stop.left ≡ length words → stop.due ≡ due.Nothing
    → words ≡ word ∷ more → is_log_word extended word ≡ false → IsStop (SomeLog extended) words stop
log_stop extended words more word stop left is whole other =
    stop_at (SomeLog extended) words stop due.Nothing left is refl ([], grammar.none refl)
    (record {
      address = unexpected (λ h. no_log_address extended h.0 h.2.0 h.1.0 h.2.1 h.1.1);
      number = unexpected (λ h. no_log_number extended h.0 h.2.0 h.2.1 h.1);
      name = unexpected (λ h. no_log_name extended h.1.0 h.1.2.0 h.1.2.1 h.1.1);
      whole = expected (grammar.none refl);
    })
    (λ none. absurd (cc)) lacks
  where
    lacks : (b : Bool) → LacksFirst (SomeLog extended b) words
    lacks b first rest is begins =
        let test = log_test extended first begins.0 begins.1 in
        let same : first ≡ word = cc in
        absurd (cc)

-- a word stands behind it
pub log_stop_behind : (extended : Bool) (words rest : Words) (word : List ℕ) (stop : Stop) → stop.left ≡ length rest → stop.due ≡ due.Nothing
    → words ≡ word ∷ rest → is_log_word extended word ≡ true → (rest ≡ [] → ⊥) → IsStop (SomeLog extended) words stop
log_stop_behind extended words rest word stop left is whole test more =
    stop_behind (SomeLog extended) (λ b x. x ≡ []) words (word ∷ []) rest stop whole
    (λ b x. (log_alone extended word x, λ none. rw none (log_read extended word test)))
    (stop_at (λ b x. x ≡ []) rest stop due.Nothing left is refl ([], refl)
    (record { address = unexpected (λ h. absurd (cc h.2.1)); number = unexpected (λ h. absurd (cc h.2.1)); name = unexpected (λ h. absurd (cc h.1.2.1)); whole = expected refl })
    (λ none. absurd (more none))
    (λ b first rest is begins. absurd (cc begins.1)))
