-- The words of a head, one after the other.
use Rattle.std.proofs.Common.{◌≡◌, ℕ, ◌^◌, ◌<◌, List, [], ◌∷◌, ◌++◌, codes, refl, sym, ap, ◌∙◌, append_assoc, append-nil, arith}
use Rattle.std.specs.Fmt.{decimal}
use Rattle.std.specs.List.{All}
use Rattle.std.proofs.lemmas.List.{map-append}
use Rattle.std.proofs.lemmas.List.Elements.{All-nil}
use Rattle.cnf.specs.Clauses.{Formula, IsInRange}
use Rattle.certificates.specs.Parts.Entries.{IsNumber, IsWritableLit}
use Rattle.dimacs.specs.declared.fault.DimacsFault.{DimacsFault}
use Rattle.dimacs.specs.declared.fault.DimacsFault.TheVariants as fault
use Rattle.dimacs.specs.declared.fault.DimacsReason.{DimacsReason}
use Rattle.dimacs.specs.Words.{Placed, texts}
use Rattle.dimacs.specs.Text.{head_words}
use Rattle.dimacs.specs.Reading.{AsksNothing, Fits, GoesOn, IsTextOf}
use Rattle.dimacs.specs.Inside.Cursors.{Cursor, Misses, MissesBy, Takes, wrong, ended}
use Rattle.dimacs.specs.Inside.Fronts.{IsFault, IsHeadOf, IsRefusedBehind, at, ends}

-- these words were taken
pub record Taken (start now : Cursor) (words : List (List ℕ)) : Type 0 where
  pub taken : List Placed
  pub whole : start.words ≡ taken ++ now.words
  pub are : texts taken ≡ words
  pub same_end : now.end ≡ start.end

pub taken_none : (start : Cursor) → Taken start start []
taken_none start = record { taken = []; whole = refl; are = refl; same_end = refl }

pub taken_more : (Is : List ℕ → Type 0) (start now next : Cursor) (words : List (List ℕ)) (text : List ℕ) → Taken start now words → (takes : Takes Is now next) → takes.word.text ≡ text → Taken start next (words ++ text ∷ [])
taken_more Is start now next words text so_far takes is = record {
  taken = so_far.taken ++ takes.word ∷ [];
  whole = so_far.whole ∙ ap (λ ws. so_far.taken ++ ws) takes.first ∙ sym (append_assoc so_far.taken (takes.word ∷ []) next.words);
  are = map-append (λ (w : Placed). w.text) so_far.taken (takes.word ∷ []) ∙ ap (λ ts. ts ++ takes.word.text ∷ []) so_far.are ∙ ap (λ t. words ++ t ∷ []) is;
  same_end = takes.same_end ∙ so_far.same_end;
}

-- what is due behind some words of a head
record IsDue (Is : List ℕ → Type 0) (words : List (List ℕ)) : Type 0 where
  goes_on : GoesOn Fits words
  due : (word : List ℕ) → GoesOn AsksNothing (words ++ word ∷ []) → Is word
  unended : (formula : Formula) → IsTextOf words formula → ⊥

missed_here : (Is : List ℕ → Type 0) (start now : Cursor) (words : List (List ℕ)) (line : ℕ) (why : DimacsReason) → Taken start now words → IsDue Is words → Misses Is now line why → IsRefusedBehind [] start.words start.end line why
missed_here Is start now words line why so_far due (wrong word after first none here is) =
    at so_far.taken after word (so_far.whole ∙ ap (λ ws. so_far.taken ++ ws) first)
    (rw so_far.are due.goes_on) (rw (is, so_far.are) (λ goes. none (due.due word.text goes))) here
missed_here Is start now words line why so_far due (ended none here is) =
    let all : texts start.words ≡ words = ap texts (so_far.whole ∙ ap (λ ws. so_far.taken ++ ws) none ∙ append-nil so_far.taken) ∙ so_far.are in
    ends (rw all due.goes_on) (rw all due.unended) is (here ∙ so_far.same_end)

missed : (Is : List ℕ → Type 0) (start now : Cursor) (words : List (List ℕ)) (why : DimacsFault) → Taken start now words → IsDue Is words → MissesBy Is now why → IsFault [] start why
missed Is start now words (fault.At line why) so_far due misses = missed_here Is start now words line why so_far due misses
missed Is start now words fault.NoMemory so_far due misses = tt

goes_on_with : (words more : List (List ℕ)) (vars : ℕ) → vars < 2 ^ 62 → words ++ more ≡ head_words vars 0 → GoesOn Fits words
goes_on_with words more vars small whole = record {
  more = more;
  vars = vars;
  count = 0;
  clauses = [];
  spells = record { whole = whole ∙ sym (append-nil (head_words vars 0)); vars_small = small; count_small = omega arith; writable = All-nil (All IsWritableLit) };
  asked = record { counted = refl; in_range = All-nil (IsInRange vars) };
}

p_due : IsDue (λ text. text ≡ codes "p") []
p_due = record {
  goes_on = goes_on_with [] (head_words 0 0) 0 (omega arith) refl;
  due = λ word goes. let whole = goes.spells.whole in cc;
  unended = λ formula is. let whole = is.spells.whole in cc;
}

cnf_due : IsDue (λ text. text ≡ codes "cnf") (codes "p" ∷ [])
cnf_due = record {
  goes_on = goes_on_with (codes "p" ∷ []) (codes "cnf" ∷ decimal 0 ∷ decimal 0 ∷ []) 0 (omega arith) refl;
  due = λ word goes. let whole = goes.spells.whole in cc;
  unended = λ formula is. let whole = is.spells.whole in cc;
}

vars_due : IsDue (λ text. (n : ℕ) × IsNumber text n) (codes "p" ∷ codes "cnf" ∷ [])
vars_due = record {
  goes_on = goes_on_with (codes "p" ∷ codes "cnf" ∷ []) (decimal 0 ∷ decimal 0 ∷ []) 0 (omega arith) refl;
  due = λ word goes. let whole = goes.spells.whole in (goes.vars, record { small = goes.spells.vars_small; text = cc });
  unended = λ formula is. let whole = is.spells.whole in cc;
}

count_due : (vars : ℕ) → vars < 2 ^ 62 → IsDue (λ text. (n : ℕ) × IsNumber text n) (codes "p" ∷ codes "cnf" ∷ decimal vars ∷ [])
count_due vars small = record {
  goes_on = goes_on_with (codes "p" ∷ codes "cnf" ∷ decimal vars ∷ []) (decimal 0 ∷ []) vars small refl;
  due = λ word goes. let whole = goes.spells.whole in (goes.count, record { small = goes.spells.count_small; text = cc });
  unended = λ formula is. let whole = is.spells.whole in cc;
}

pub no_p : (start : Cursor) (why : DimacsFault) → MissesBy (λ text. text ≡ codes "p") start why → IsFault [] start why
no_p start why misses = missed _ start start [] why (taken_none start) p_due misses

pub no_cnf : (start now : Cursor) (why : DimacsFault) → Taken start now (codes "p" ∷ []) → MissesBy (λ text. text ≡ codes "cnf") now why → IsFault [] start why
no_cnf start now why so_far misses = missed _ start now (codes "p" ∷ []) why so_far cnf_due misses

pub no_vars : (start now : Cursor) (why : DimacsFault) → Taken start now (codes "p" ∷ codes "cnf" ∷ []) → MissesBy (λ text. (n : ℕ) × IsNumber text n) now why → IsFault [] start why
no_vars start now why so_far misses = missed _ start now (codes "p" ∷ codes "cnf" ∷ []) why so_far vars_due misses

pub no_count : (vars : ℕ) (start now : Cursor) (why : DimacsFault) → vars < 2 ^ 62 → Taken start now (codes "p" ∷ codes "cnf" ∷ decimal vars ∷ []) → MissesBy (λ text. (n : ℕ) × IsNumber text n) now why → IsFault [] start why
no_count vars start now why small so_far misses = missed _ start now (codes "p" ∷ codes "cnf" ∷ decimal vars ∷ []) why so_far (count_due vars small) misses

-- the words so far, step by step
module _ (start one two : Cursor) (first : Takes (λ text. text ≡ codes "p") start one) where
  pub taken_p : Taken start one (codes "p" ∷ [])
  taken_p = taken_more _ start start one [] (codes "p") (taken_none start) first first.is

  pub taken_cnf : Takes (λ text. text ≡ codes "cnf") one two → Taken start two (codes "p" ∷ codes "cnf" ∷ [])
  taken_cnf second = taken_more _ start one two (codes "p" ∷ []) (codes "cnf") taken_p second second.is

  pub taken_vars : (three : Cursor) (vars : ℕ) → Takes (λ text. text ≡ codes "cnf") one two → Takes (λ text. IsNumber text vars) two three → Taken start three (codes "p" ∷ codes "cnf" ∷ decimal vars ∷ [])
  taken_vars three vars second third = taken_more _ start two three (codes "p" ∷ codes "cnf" ∷ []) (decimal vars) (taken_cnf second) third third.is.text

  pub taken_head : (three four : Cursor) (vars count : ℕ) → Takes (λ text. text ≡ codes "cnf") one two → Takes (λ text. IsNumber text vars) two three → Takes (λ text. IsNumber text count) three four → IsHeadOf start four vars count
  taken_head three four vars count second third fourth =
      let so_far = taken_more _ start three four (codes "p" ∷ codes "cnf" ∷ decimal vars ∷ []) (decimal count) (taken_vars three vars second third) fourth fourth.is.text in
      record { head = so_far.taken; whole = so_far.whole; are = so_far.are; vars_small = third.is.small; count_small = fourth.is.small; same_end = so_far.same_end }

-- with nothing a text begins
pub begins_texts : GoesOn Fits []
begins_texts = goes_on_with [] (head_words 0 0) 0 (omega arith) refl
