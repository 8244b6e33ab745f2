-- Clauses that are read a word at a time.
use Rattle.std.proofs.Common.{◌≡◌, ℕ, ◌^◌, ◌<◌, ◌≤◌, List, [], ◌∷◌, ◌++◌, length, refl, sym, ap, ◌∙◌, append_assoc, append-nil, arith}
use Rattle.std.proofs.lemmas.List.{map-append}
use Rattle.cnf.specs.declared.lit.Lit.{Lit}
use Rattle.cnf.specs.Clauses.{Formula}
use Rattle.dimacs.specs.declared.fault.DimacsReason.{DimacsReason}
use Rattle.dimacs.specs.declared.fault.DimacsReason.TheVariants as reason
use Rattle.dimacs.specs.Words.{Placed, texts}
use Rattle.dimacs.specs.Text.{head_words}
use Rattle.dimacs.specs.Reading.{IsTextOf, Spells, Stops}
use Rattle.dimacs.specs.Inside.Cursors.{Cursor}
use Rattle.dimacs.specs.Inside.Fronts.{EndsText, IsFront, IsRefusedBehind, at, ends}
use Rattle.dimacs.proofs.Fronts.{front_goes_on, front_none, same_head, whole_words}
use Rattle.dimacs.proofs.ClauseWords.{clauses_are_one}

-- these words were taken, and with the head they are the front of a text
pub record ReadSoFar (vars count : ℕ) (start now : Cursor) (vars' count' : ℕ) (done : List (List Lit)) (part : List Lit) : Type 0 where
  pub taken : List Placed
  pub whole : start.words ≡ taken ++ now.words
  pub same_end : now.end ≡ start.end
  pub same_vars : vars' ≡ vars
  pub same_count : count' ≡ count
  pub front : IsFront (head_words vars count ++ texts taken) vars' count' done part

pub so_far_none : (vars count : ℕ) (start : Cursor) → vars < 2 ^ 62 → count < 2 ^ 62 → ReadSoFar vars count start start vars count [] []
so_far_none vars count start small few = record {
  taken = [];
  whole = refl;
  same_end = refl;
  same_vars = refl;
  same_count = refl;
  front = rw append-nil (front_none vars count small few);
}

module _ (vars count : ℕ) (start now : Cursor) (vars' count' : ℕ) (done : List (List Lit)) (part : List Lit) (so_far : ReadSoFar vars count start now vars' count' done part) where
  -- the front with one more word
  more_texts : (word : Placed) → head_words vars count ++ texts (so_far.taken ++ word ∷ []) ≡ (head_words vars count ++ texts so_far.taken) ++ word.text ∷ []
  more_texts word = ap (λ t. head_words vars count ++ t) (map-append (λ (w : Placed). w.text) so_far.taken (word ∷ [])) ∙ sym (append_assoc (head_words vars count) (texts so_far.taken) (word.text ∷ []))

  pub so_far_more : (word : Placed) (next : Cursor) (vars'' count'' : ℕ) (done' : List (List Lit)) (part' : List Lit) → now.words ≡ word ∷ next.words → next.end ≡ now.end → vars'' ≡ vars' → count'' ≡ count' → IsFront ((head_words vars count ++ texts so_far.taken) ++ word.text ∷ []) vars'' count'' done' part' → ReadSoFar vars count start next vars'' count'' done' part'
  so_far_more word next vars'' count'' done' part' first same same_vars same_count front = record {
    taken = so_far.taken ++ word ∷ [];
    whole = so_far.whole ∙ ap (λ ws. so_far.taken ++ ws) first ∙ sym (append_assoc so_far.taken (word ∷ []) next.words);
    same_end = same ∙ so_far.same_end;
    same_vars = same_vars ∙ so_far.same_vars;
    same_count = same_count ∙ so_far.same_count;
    front = rw (more_texts word) front;
  }

  pub so_far_stops : (word : Placed) (next : Cursor) (line : ℕ) (why : DimacsReason) → now.words ≡ word ∷ next.words → line ≡ word.line → Stops why ((head_words vars count ++ texts so_far.taken) ++ word.text ∷ []) → IsRefusedBehind (head_words vars count) start.words start.end line why
  so_far_stops word next line why first here stops =
      at so_far.taken next.words word (so_far.whole ∙ ap (λ ws. so_far.taken ++ ws) first) (front_goes_on _ vars' count' done part so_far.front) stops here

  all_taken : now.words ≡ [] → start.words ≡ so_far.taken
  all_taken none = so_far.whole ∙ ap (λ ws. so_far.taken ++ ws) none ∙ append-nil so_far.taken

  no_part : count' ≤ length done → 0 < length part → ⊥
  no_part full some = let room = so_far.front.part_room some in omega arith

  pub so_far_read : (formula : Formula) → now.words ≡ [] → formula.vars ≡ vars' → formula.clauses ≡ done → count' ≤ length done → EndsText vars count start.words formula
  so_far_read formula none are_vars are_clauses full =
      let room = so_far.front.room in
      let same_count = so_far.same_count in
      let counted : length done ≡ count' = omega arith in
      let spells : Spells (head_words vars count ++ texts start.words) vars' count' done = rw (all_taken none) (whole_words _ vars' count' done part so_far.front.begins (no_part full)) in
      record {
        vars_same = are_vars ∙ so_far.same_vars;
        counted = ap length are_clauses ∙ counted ∙ same_count;
        text = record {
          spells = rw (are_vars, are_clauses, counted) spells;
          in_range = rw (are_vars, are_clauses) so_far.front.done_in_range;
        };
      }

  -- a text that ends before its clauses do is none
  short_is_no_text : length done < count' → (formula : Formula) → IsTextOf (head_words vars count ++ texts so_far.taken) formula → ⊥
  short_is_no_text short formula text =
      let begins = so_far.front.begins in
      let parts = same_head vars' formula.vars count' (length formula.clauses) _ _ begins.vars_small text.spells.vars_small begins.count_small text.spells.count_small (sym begins.whole ∙ text.spells.whole) in
      let same = clauses_are_one done formula.clauses part begins.done_writable begins.part_writable text.spells.writable parts.2 in
      absurd (omega (arith, ap length same, parts.1))

  pub so_far_short : (line : ℕ) → now.words ≡ [] → line ≡ now.end → length done < count' → IsRefusedBehind (head_words vars count) start.words start.end line reason.Incomplete
  so_far_short line none here short =
      ends (rw (all_taken none) (front_goes_on _ vars' count' done part so_far.front)) (rw (all_taken none) (short_is_no_text short)) refl (here ∙ so_far.same_end)
