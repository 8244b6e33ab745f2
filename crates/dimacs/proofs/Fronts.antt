-- What texts begin with, and how they go on.
use Rattle.std.proofs.Common.{◌≡◌, ℕ, ◌+◌, ◌-◌, ◌^◌, ◌<◌, List, [], ◌∷◌, ◌++◌, codes, length, map, replicate, inl, inr, refl, sym, ap, ◌∙◌, append_assoc, append-nil, arith, length-append}
use Rattle.std.proofs.lemmas.List.{length-replicate, map-append}
use Rattle.std.specs.Fmt.{decimal}
use Rattle.std.specs.List.{All, flat_map}
use Rattle.std.proofs.lemmas.Bool.{cases_lt}
use Rattle.std.proofs.lemmas.Fmt.{decimal_injective}
use Rattle.std.proofs.lemmas.List.Concat.{flat_map-append}
use Rattle.std.proofs.lemmas.List.Elements.{All-nil, All-cons, All-push, All-append, All-replicate}
use Rattle.cnf.specs.declared.lit.Lit.{Lit}
use Rattle.cnf.specs.Clauses.{IsInRange}
use Rattle.certificates.specs.Text.{lit_text}
use Rattle.certificates.specs.Parts.Entries.{IsWritableLit}
use Rattle.dimacs.specs.Text.{head_words, clause_words}
use Rattle.dimacs.specs.Reading.{AsksNothing, Fits, GoesOn, IsCounted, Spells}
use Rattle.dimacs.specs.Inside.Fronts.{Begins, IsFront}
use Rattle.dimacs.proofs.ClauseWords.{IsNextOf, next_word}

-- whole clauses with a 0 at their end, and as many empty ones as are missing
padded : List (List Lit) → List Lit → ℕ → List (List Lit)
padded done part few = done ++ part ∷ replicate few []

module _ (words : List (List ℕ)) (vars count : ℕ) (done : List (List Lit)) (part : List Lit) (front : Begins words vars count done part) where
  padded_words : (few : ℕ) → words ++ (codes "0" ∷ flat_map clause_words (replicate few [])) ≡ head_words vars count ++ flat_map clause_words (padded done part few)
  unfolding padded
  padded_words few = rw (front.whole, flat_map-append) (simp append_assoc)

  padded_spells : (few : ℕ) → Spells (words ++ (codes "0" ∷ flat_map clause_words (replicate few []))) vars count (padded done part few)
  unfolding padded
  padded_spells few = record {
    whole = padded_words few;
    vars_small = front.vars_small;
    count_small = front.count_small;
    writable = All-append (All IsWritableLit) done (part ∷ replicate few []) front.done_writable
        (All-cons (All IsWritableLit) part (replicate few []) front.part_writable (All-replicate (All IsWritableLit) few [] (All-nil IsWritableLit)));
  }

  -- the clauses may be any
  pub goes_on_somehow : GoesOn AsksNothing words
  goes_on_somehow = record { more = _; vars = vars; count = count; clauses = padded done part 0; spells = padded_spells 0; asked = tt }

  few_more : length done < count → (few : ℕ) × (length done + (few + 1) ≡ count)
  few_more room = (count - length done - 1, omega arith)

  padded_count : (few : ℕ) → length done + (few + 1) ≡ count → length (padded done part few) ≡ count
  unfolding padded
  padded_count few are = simp (length-append, length-replicate) (omega arith)

  -- the clauses are as many as the head says, if there is room
  pub goes_on_counted : length done < count → GoesOn IsCounted words
  goes_on_counted room =
      let few = few_more room in
      record { more = _; vars = vars; count = count; clauses = padded done part few.0; spells = padded_spells few.0; asked = padded_count few.0 few.1 }

  -- and over its variables
  pub goes_on_room : length done < count → All (IsInRange vars) done → IsInRange vars part → GoesOn Fits words
  unfolding padded
  goes_on_room room below below' =
      let few = few_more room in
      record {
        more = _;
        vars = vars;
        count = count;
        clauses = padded done part few.0;
        spells = padded_spells few.0;
        asked = record {
          counted = padded_count few.0 few.1;
          in_range = All-append (IsInRange vars) done (part ∷ replicate few.0 []) below
              (All-cons (IsInRange vars) part (replicate few.0 []) below' (All-replicate (IsInRange vars) few.0 [] (All-nil (λ (l : Lit). l.var < vars))));
        };
      }

empty_list : {X : Type 0} (xs : List X) → (0 < length xs → ⊥) → xs ≡ []
empty_list [] none = refl
empty_list (x ∷ xs) none = absurd (none (omega arith))

-- the words of whole clauses
pub whole_words : (words : List (List ℕ)) (vars count : ℕ) (done : List (List Lit)) (part : List Lit) → Begins words vars count done part → (0 < length part → ⊥) → Spells words vars count done
whole_words words vars count done part front none = record {
  whole = front.whole ∙ ap (λ p. head_words vars count ++ (flat_map clause_words done ++ map lit_text p)) (empty_list part none) ∙ ap (λ r. head_words vars count ++ r) (append-nil (flat_map clause_words done));
  vars_small = front.vars_small;
  count_small = front.count_small;
  writable = front.done_writable;
}

-- what a reader has so far goes on
pub front_goes_on : (words : List (List ℕ)) (vars count : ℕ) (done : List (List Lit)) (part : List Lit) → IsFront words vars count done part → GoesOn Fits words
front_goes_on words vars count done part front =
    elim (cases_lt (length done) count) [
      | inl room ↦ goes_on_room words vars count done part front.begins room front.done_in_range front.part_in_range
      | inr full ↦ record {
        more = [];
        vars = vars;
        count = count;
        clauses = done;
        spells = rw append-nil (whole_words words vars count done part front.begins (λ some. absurd (let room = front.part_room some in omega arith)));
        asked = record { counted = let room = front.room in omega arith; in_range = front.done_in_range };
      }
    ]

-- the head's words, and those behind them
pub same_head : (vars vars' count count' : ℕ) (rest rest' : List (List ℕ)) → vars < 2 ^ 62 → vars' < 2 ^ 62 → count < 2 ^ 62 → count' < 2 ^ 62 → head_words vars count ++ rest ≡ head_words vars' count' ++ rest' → (vars ≡ vars') × (count ≡ count') × (rest ≡ rest')
same_head vars vars' count count' rest rest' small small' few few' same =
    let first : decimal vars ≡ decimal vars' = cc in
    let second : decimal count ≡ decimal count' = cc in
    let others : rest ≡ rest' = cc in
    (decimal_injective vars vars' (omega arith) (omega arith) first, decimal_injective count count' (omega arith) (omega arith) second, others)

-- what the next word of a text is
pub record IsNextWord (vars count : ℕ) (done clauses : List (List Lit)) (vars' count' : ℕ) (word : List ℕ) : Type 0 where
  pub same_vars : vars ≡ vars'
  pub same_count : count ≡ count'
  pub next : IsNextOf done clauses word

pub next_of_text : (words : List (List ℕ)) (vars count : ℕ) (done : List (List Lit)) (part : List Lit) (word : List ℕ) (more : List (List ℕ)) (vars' count' : ℕ) (clauses : List (List Lit)) → Begins words vars count done part → Spells ((words ++ word ∷ []) ++ more) vars' count' clauses → IsNextWord vars count done clauses vars' count' word
next_of_text words vars count done part word more vars' count' clauses front spells =
    let behind = map lit_text part ++ word ∷ more in
    let texts : head_words vars count ++ (flat_map clause_words done ++ behind) ≡ (words ++ word ∷ []) ++ more = rw front.whole (simp append_assoc) in
    let parts = same_head vars vars' count count' (flat_map clause_words done ++ behind) (flat_map clause_words clauses) front.vars_small spells.vars_small front.count_small spells.count_small (texts ∙ spells.whole) in
    record {
      same_vars = parts.0;
      same_count = parts.1;
      next = next_word done clauses part word more front.done_writable front.part_writable spells.writable parts.2;
    }

-- one more literal, and one more clause
pub begins_lit : (words : List (List ℕ)) (vars count : ℕ) (done : List (List Lit)) (part : List Lit) (l : Lit) → Begins words vars count done part → IsWritableLit l → Begins (words ++ lit_text l ∷ []) vars count done (part ++ l ∷ [])
begins_lit words vars count done part l front fits = record {
  whole = ap (λ t. t ++ lit_text l ∷ []) front.whole ∙ sym (simp (map-append, append_assoc));
  vars_small = front.vars_small;
  count_small = front.count_small;
  done_writable = front.done_writable;
  part_writable = All-push IsWritableLit part l front.part_writable fits;
}

pub begins_zero : (words : List (List ℕ)) (vars count : ℕ) (done : List (List Lit)) (part : List Lit) → Begins words vars count done part → Begins (words ++ codes "0" ∷ []) vars count (done ++ part ∷ []) []
begins_zero words vars count done part front = record {
  whole = ap (λ t. t ++ codes "0" ∷ []) front.whole ∙ sym (simp (flat_map-append, append_assoc, append-nil));
  vars_small = front.vars_small;
  count_small = front.count_small;
  done_writable = All-push (All IsWritableLit) done part front.done_writable front.part_writable;
  part_writable = All-nil IsWritableLit;
}

pub front_lit : (words : List (List ℕ)) (vars count : ℕ) (done : List (List Lit)) (part : List Lit) (l : Lit) → IsFront words vars count done part → IsWritableLit l → l.var < vars → length done < count → IsFront (words ++ lit_text l ∷ []) vars count done (part ++ l ∷ [])
front_lit words vars count done part l front fits below room = record {
  begins = begins_lit words vars count done part l front.begins fits;
  done_in_range = front.done_in_range;
  part_in_range = All-push (λ k. k.var < vars) part l front.part_in_range below;
  room = front.room;
  part_room = λ some. room;
}

pub front_zero : (words : List (List ℕ)) (vars count : ℕ) (done : List (List Lit)) (part : List Lit) → IsFront words vars count done part → length done < count → IsFront (words ++ codes "0" ∷ []) vars count (done ++ part ∷ []) []
front_zero words vars count done part front room = record {
  begins = begins_zero words vars count done part front.begins;
  done_in_range = All-push (IsInRange vars) done part front.done_in_range front.part_in_range;
  part_in_range = All-nil (λ (k : Lit). k.var < vars);
  room = rw length-append (omega arith);
  part_room = λ some. absurd (omega arith);
}

pub front_none : (vars count : ℕ) → vars < 2 ^ 62 → count < 2 ^ 62 → IsFront (head_words vars count) vars count [] []
front_none vars count small few = record {
  begins = record { whole = refl; vars_small = small; count_small = few; done_writable = All-nil (All IsWritableLit); part_writable = All-nil IsWritableLit };
  done_in_range = All-nil (IsInRange vars);
  part_in_range = All-nil (λ (k : Lit). k.var < vars);
  room = omega arith;
  part_room = λ some. absurd (omega arith);
}
