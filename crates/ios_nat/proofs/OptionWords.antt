-- The words without effect at the end of a static line, and where the line stops among them.
use Rattle.std.proofs.Common.{◌≡◌, inl, inr, ◌↔◌, ℕ, Bool, true, false, List, [], ◌∷◌, length, codes, refl}
use Rattle.ios_lex.specs.declared.stop.Due.TheVariants as due
use Rattle.ios_lex.specs.declared.stop.Stop.{Stop}
use Rattle.ios_lex.specs.Following.{Begins}
use Rattle.ios_lex.specs.NextWords.{NoName}
use Rattle.ios_lex.specs.Phrases.{Words}
use Rattle.ios_lex.specs.Refusal.{begins_with_digit}
use Rattle.ios_lex.specs.Stops.{IsStop}
use Rattle.ios_lex.proofs.FirstStops.{lacks_word, stop_at_end}
use Rattle.ios_lex.proofs.Stopping.{stop_behind}
use Rattle.ios_lex.proofs.WordForms.{other_no_address, other_no_number}
use Rattle.ios_nat.specs.Parts.{Options}

behind_extendable : (alias b : Bool) (x : Words) → Options true alias b (codes "extendable" ∷ x) ↔ Options false alias b x
behind_extendable alias b x = (forth, λ rest. inl (refl, refl, rest))
  where
    forth : Options true alias b (codes "extendable" ∷ x) → Options false alias b x
    forth (inl (may, is, rest)) = rest
    forth (inr (may, is, rest)) = absurd (let no : codes "extendable" ≡ codes "no-alias" = is in cc no)

behind_alias : (extendable b : Bool) (x : Words) → Options extendable true b (codes "no-alias" ∷ x) ↔ Options extendable false b x
behind_alias extendable b x = (forth, λ rest. inr (refl, refl, rest))
  where
    forth : Options extendable true b (codes "no-alias" ∷ x) → Options extendable false b x
    forth (inl (may, is, rest)) = absurd (let no : codes "no-alias" ≡ codes "extendable" = is in cc no)
    forth (inr (may, is, rest)) = rest

pub extendable_stop : (alias : Bool) (words rest : Words) (stop : Stop) → words ≡ codes "extendable" ∷ rest → IsStop NoName (Options false alias) rest stop → IsStop NoName (Options true alias) words stop
extendable_stop alias words rest stop whole stops = stop_behind (Options true alias) (Options false alias) words (codes "extendable" ∷ []) rest stop whole (behind_extendable alias) stops

pub alias_stop : (extendable : Bool) (words rest : Words) (stop : Stop) → words ≡ codes "no-alias" ∷ rest → IsStop NoName (Options extendable false) rest stop → IsStop NoName (Options extendable true) words stop
alias_stop extendable words rest stop whole stops = stop_behind (Options extendable true) (Options extendable false) words (codes "no-alias" ∷ []) rest stop whole (behind_alias extendable) stops

pub extendable_read : (alias : Bool) (words rest : Words) → words ≡ codes "extendable" ∷ rest → Options false alias false rest → Options true alias false words
extendable_read alias words rest whole is = rw whole ((behind_extendable alias false rest).1 is)

pub alias_read : (extendable : Bool) (words rest : Words) → words ≡ codes "no-alias" ∷ rest → Options extendable false false rest → Options extendable true false words
alias_read extendable words rest whole is = rw whole ((behind_alias extendable false rest).1 is)

option_letter : (extendable alias b : Bool) (word : List ℕ) → Begins (Options extendable alias b) (word ∷ []) → begins_with_digit word ≡ false
option_letter extendable alias b word (more, inl (may, is, rest)) = rw is refl
option_letter extendable alias b word (more, inr (may, is, rest)) = rw is refl

no_option_begins : (extendable alias b : Bool) (word : List ℕ) → (extendable ≡ true → word ≡ codes "extendable" → ⊥) → (alias ≡ true → word ≡ codes "no-alias" → ⊥)
    → Begins (Options extendable alias b) (word ∷ []) → ⊥
no_option_begins extendable alias b word no_extendable no_alias (more, inl (may, is, rest)) = no_extendable may is
no_option_begins extendable alias b word no_extendable no_alias (more, inr (may, is, rest)) = no_alias may is

pub options_stop : (extendable alias : Bool) (words rest : Words) (word : List ℕ) (stop : Stop) → words ≡ word ∷ rest → stop.left ≡ length words → stop.due ≡ due.Nothing
    → (extendable ≡ true → word ≡ codes "extendable" → ⊥) → (alias ≡ true → word ≡ codes "no-alias" → ⊥) → IsStop NoName (Options extendable alias) words stop
options_stop extendable alias words rest word stop whole left is no_extendable no_alias =
    stop_at_end (Options extendable alias) words stop left is tt
    (λ other form begins. other_no_address other form.0 (option_letter extendable alias false other begins) form.1)
    (λ other form begins. other_no_number other (option_letter extendable alias false other begins) form)
    (λ none. cc (whole, none))
    (λ b. lacks_word (Options extendable alias b) words rest word whole (no_option_begins extendable alias b word no_extendable no_alias))
