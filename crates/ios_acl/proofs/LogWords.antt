-- What the words on logging can be.
use Rattle.std.proofs.Common.{◌≡◌, ◌⊎◌, inl, inr, ℕ, Bool, true, false, List, [], ◌∷◌, Option, ◌&&◌, refl, ap, codes}
use Rattle.std.specs.Str.{bytes_eq}
use Rattle.std.proofs.lemmas.Bool.{or_cases, or_left, or_right, and_parts, and_from}
use Rattle.std.proofs.lemmas.Slice.Eq.{bytes_eq-Decides}
use Rattle.ios_lex.specs.Address.{IsAddress}
use Rattle.ios_lex.specs.Names.{IsMessage, IsMessageName}
use Rattle.ios_lex.specs.Phrases.{Words}
use Rattle.ios_lex.specs.Following.{IsNumberWord}
use Rattle.ios_lex.specs.Refusal.{begins_with_digit}
use Rattle.ios_lex.proofs.WordForms.{other_no_address, other_no_number, log_no_message, log_input_no_message}
use Rattle.ios_acl.specs.Grammar as grammar
use Rattle.ios_acl.specs.Grammar.{IsLog}
use Rattle.ios_acl.specs.Parts.{is_log_word}

-- a word on logging is one of two
pub log_text : (extended : Bool) (word : List ℕ) (more : Words) → IsLog extended (word ∷ more) → (word ≡ codes "log") ⊎ (word ≡ codes "log-input")
log_text extended word more (grammar.none is) = absurd (cc)
log_text extended word more (grammar.log is) = inl (cc)
log_text extended word more (grammar.input is_extended is) = inr (cc)

-- and stands alone
pub log_alone : (extended : Bool) (word : List ℕ) (more : Words) → IsLog extended (word ∷ more) → more ≡ []
log_alone extended word more (grammar.none is) = absurd (cc)
log_alone extended word more (grammar.log is) = cc
log_alone extended word more (grammar.input is_extended is) = cc

-- in a standard list it is `log`
pub plain_log : (word : List ℕ) (more : Words) → IsLog false (word ∷ more) → word ≡ codes "log"
plain_log word more (grammar.none is) = absurd (cc)
plain_log word more (grammar.log is) = cc
plain_log word more (grammar.input is_extended is) = absurd (cc)

pub log_test : (extended : Bool) (word : List ℕ) (more : Words) → IsLog extended (word ∷ more) → is_log_word extended word ≡ true
log_test extended word more (grammar.none is) = absurd (cc)
log_test extended word more (grammar.log is) =
    or_left (bytes_eq word (codes "log")) (extended && bytes_eq word (codes "log-input")) ((bytes_eq-Decides word (codes "log")).1 (cc))
log_test extended word more (grammar.input is_extended is) =
    or_right (bytes_eq word (codes "log")) (extended && bytes_eq word (codes "log-input"))
    (and_from extended (bytes_eq word (codes "log-input")) is_extended ((bytes_eq-Decides word (codes "log-input")).1 (cc)))

pub log_read : (extended : Bool) (word : List ℕ) → is_log_word extended word ≡ true → IsLog extended (word ∷ [])
log_read extended word test = by_case (or_cases (bytes_eq word (codes "log")) (extended && bytes_eq word (codes "log-input")) test)
  where
    by_case : (bytes_eq word (codes "log") ≡ true) ⊎ ((extended && bytes_eq word (codes "log-input")) ≡ true) → IsLog extended (word ∷ [])
    by_case (inl first) = grammar.log (ap (λ (w : List ℕ). w ∷ []) ((bytes_eq-Decides word (codes "log")).0 first))
    by_case (inr second) =
        let parts = and_parts extended (bytes_eq word (codes "log-input")) second in
        grammar.input parts.0 (ap (λ (w : List ℕ). w ∷ []) ((bytes_eq-Decides word (codes "log-input")).0 parts.1))

-- it is no address, no number and no message
log_no_digit : (extended : Bool) (word : List ℕ) (more : Words) → IsLog extended (word ∷ more) → begins_with_digit word ≡ false
log_no_digit extended word more spelled = by_case (log_text extended word more spelled)
  where
    by_case : (word ≡ codes "log") ⊎ (word ≡ codes "log-input") → begins_with_digit word ≡ false
    by_case (inl is) = rw is refl
    by_case (inr is) = rw is refl

pub no_log_address : (extended : Bool) (word : List ℕ) (more : Words) (n : ℕ) → IsLog extended (word ∷ more) → IsAddress word n → ⊥
no_log_address extended word more n spelled = other_no_address word n (log_no_digit extended word more spelled)

pub no_log_number : (extended : Bool) (word : List ℕ) (more : Words) → IsLog extended (word ∷ more) → IsNumberWord word → ⊥
no_log_number extended word more spelled = other_no_number word (log_no_digit extended word more spelled)

pub no_log_message : (extended : Bool) (word : List ℕ) (more : Words) (message : ℕ × Option ℕ) → IsLog extended (word ∷ more) → IsMessage word message → ⊥
no_log_message extended word more message spelled is = by_case (log_text extended word more spelled)
  where
    by_case : (word ≡ codes "log") ⊎ (word ≡ codes "log-input") → ⊥
    by_case (inl same) = log_no_message message (rw same at is)
    by_case (inr same) = log_input_no_message message (rw same at is)

pub no_log_name : (extended : Bool) (word : List ℕ) (more : Words) → IsLog extended (word ∷ more) → IsMessageName word → ⊥
no_log_name extended word more spelled name = no_log_message extended word more name.0 spelled (inl name.1)
