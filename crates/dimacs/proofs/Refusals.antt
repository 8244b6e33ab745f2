-- Words with which no text goes on.
use Rattle.std.proofs.Common.{◌≡◌, ℕ, ◌<◌, ◌≤◌, List, [], ◌∷◌, ◌++◌, codes, length, arith}
use Rattle.cnf.specs.declared.lit.Lit.{Lit}
use Rattle.certificates.specs.Text.{lit_text}
use Rattle.certificates.specs.Parts.Entries.{IsWritableLit}
use Rattle.certificates.proofs.Entries.{lit_is_one}
use Rattle.dimacs.specs.declared.fault.DimacsReason.TheVariants as reason
use Rattle.dimacs.specs.Reading.{GoesOn, IsCounted, Stops}
use Rattle.dimacs.specs.Inside.Fronts.{Begins}
use Rattle.dimacs.proofs.ClauseWords.{IsNext, lit, zero, zero_is_no_lit}
use Rattle.dimacs.proofs.Fronts.{begins_lit, begins_zero, goes_on_counted, goes_on_somehow, next_of_text}

module _ (words : List (List ℕ)) (vars count : ℕ) (done : List (List Lit)) (part : List Lit) (front : Begins words vars count done part) where
  -- all clauses are there, so no word of one more
  no_room : (word : List ℕ) → count ≤ length done → GoesOn IsCounted (words ++ word ∷ []) → ⊥
  no_room word full goes =
      let is = next_of_text words vars count done part word goes.more goes.vars goes.count goes.clauses front goes.spells in
      let fewer = is.next.fewer in
      let same = is.same_count in
      let asked = goes.asked in
      omega arith

  pub too_many_lit : (l : Lit) → IsWritableLit l → count ≤ length done → Stops reason.TooMany (words ++ lit_text l ∷ [])
  too_many_lit l fits full = (no_room (lit_text l) full, goes_on_somehow (words ++ lit_text l ∷ []) vars count done _ (begins_lit words vars count done part l front fits))

  pub too_many_zero : count ≤ length done → Stops reason.TooMany (words ++ codes "0" ∷ [])
  too_many_zero full = (no_room (codes "0") full, goes_on_somehow (words ++ codes "0" ∷ []) vars count _ _ (begins_zero words vars count done part front))

  -- neither a literal nor a 0
  pub no_word : (word : List ℕ) → (word ≡ codes "0" → ⊥) → ((l : Lit) → IsWritableLit l → word ≡ lit_text l → ⊥) → Stops reason.Syntax (words ++ word ∷ [])
  no_word word no_zero no_lit goes =
      by_next (next_of_text words vars count done part word goes.more goes.vars goes.count goes.clauses front goes.spells).next.next
    where
      by_next : {P : ℕ → Type 0} → IsNext P word → ⊥
      by_next (zero is) = no_zero is
      by_next (lit l fits is below) = no_lit l fits is

  -- a variable above those of the head
  pub above : (l : Lit) → IsWritableLit l → vars ≤ l.var → length done < count → Stops reason.Variable (words ++ lit_text l ∷ [])
  above l fits over room = (
    λ goes. let is = next_of_text words vars count done part (lit_text l) goes.more goes.vars goes.count goes.clauses front goes.spells in
        by_next goes.vars is.same_vars is.next.next (goes.asked.in_range),
    goes_on_counted (words ++ lit_text l ∷ []) vars count done _ (begins_lit words vars count done part l front fits) room,
  )
    where
      by_next : {P : ℕ → Type 0} (vars' : ℕ) → vars ≡ vars' → IsNext P (lit_text l) → P vars' → ⊥
      by_next vars' same (zero is) all = zero_is_no_lit l fits is
      by_next vars' same (lit k fits' is below) all =
          let one : l ≡ k = lit_is_one l k fits fits' is in
          let inside : k.var < vars' = below vars' all in
          let inside' : l.var < vars' = rw one inside in
          omega arith
