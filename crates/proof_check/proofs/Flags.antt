-- From the end of a derivation to its start: what is written, and which steps are flagged.
use Rattle.std.proofs.Common.{◌≡◌, ◌<◌, ◌≤◌, ◌+◌, ◌-◌, ◌&&◌, ◌||◌, not, eqb, eq-eqb, ℕ, zero, suc, Bool, true, false, List, [], ◌∷◌, ◌++◌, Bor, length, get_or, drop, reverse, cond, arith, refl, ap, sym, ◌∙◌, subst, inl, inr, if◌then◌else◌}
use Rattle.std.specs.List.{filter, range_with_len}
use Rattle.std.proofs.lemmas.Bool.{or_left, or_right, and_left, cases_eq, ne_eqb, cond-true, cond-false}
use Rattle.std.proofs.lemmas.List.{drop_all, drop_more, reverse-append, reverse-reverse}
use Rattle.certificates.specs.declared.derivation.Step.{Step}
use Rattle.certificates.specs.declared.derivation.Item.{Item}
use Rattle.certificates.specs.declared.derivation.Item.TheVariants as item
use Rattle.proof_check.specs.Trimming.{names, is_end, is_named, is_needed, last_named, deletion, needed_items}
use Rattle.proof_check.specs.Inside.Trim.{pointed, flag, is_last, Marks, AreNamed}
use Rattle.proof_check.proofs.Rising.{has, has-filter}

pub pointed_at : (steps : List (Bor Step)) (k : ℕ) (x : Bor Step) → k < length steps → x ≡ get_or steps k x → get_or (pointed steps) k x.now ≡ x.now
pointed_at [] k x below e = absurd (omega arith)
pointed_at (s ∷ steps) zero x below e = ap (λ y. y.now) (sym e)
pointed_at (s ∷ steps) (suc k) x below e = pointed_at steps k x (omega arith) e

pub length_pointed : (steps : List (Bor Step)) → length (pointed steps) ≡ length steps
length_pointed [] = refl
length_pointed (s ∷ steps) = ap suc (length_pointed steps)

pub no_step : Step
no_step = record { clause = []; hints = [] }

pub is_end-drop : (steps : List Step) (k : ℕ) → k < length steps → is_end (drop (k + 1) steps) ≡ eqb (k + 1) (length steps)
is_end-drop steps k below = elim (cases_eq (k + 1) (length steps)) as (λ _. is_end (drop (k + 1) steps) ≡ eqb (k + 1) (length steps)) [
  | inl e ↦ ap is_end (drop_all (k + 1) steps (omega (arith, e))) ∙ sym (eq-eqb (k + 1) (length steps) e)
  | inr ne ↦ ap is_end (drop_more steps (k + 1) no_step (omega (arith, ne, below))) ∙ sym (ne_eqb (k + 1) (length steps) ne)
]

filter_same : (p q : ℕ → Bool) (len a : ℕ) → ((n : ℕ) → a ≤ n → n < a + len → p n ≡ q n) → filter p (range_with_len a len) ≡ filter q (range_with_len a len)
filter_same p q zero a h = refl
filter_same p q (suc len) a h =
    ap (λ xs. cond (p a) (a ∷ xs) xs) (filter_same p q len (a + 1) (λ n low high. h n (omega (arith, low)) (omega (arith, high))))
    ∙ ap (λ b. cond b (a ∷ filter q (range_with_len (a + 1) len)) (filter q (range_with_len (a + 1) len))) (h a (omega arith) (omega arith))

has-range : (len a n : ℕ) → a ≤ n → n < a + len → has n (range_with_len a len) ≡ true
has-range zero a n low high = absurd (omega arith)
has-range (suc len) a n low high = elim (cases_eq a n) as (λ _. has n (a ∷ range_with_len (a + 1) len) ≡ true) [
  | inl e ↦ or_left (eqb a n) (has n (range_with_len (a + 1) len)) (eq-eqb a n e)
  | inr ne ↦ or_right (eqb a n) (has n (range_with_len (a + 1) len)) (has-range len (a + 1) n (omega (arith, ne, low)) (omega (arith, high)))
]

has-past : (len a n : ℕ) → a + len ≤ n → has n (range_with_len a len) ≡ false
has-past zero a n past = refl
has-past (suc len) a n past =
    ap (λ b. b || has n (range_with_len (a + 1) len)) (ne_eqb a n (λ e. omega (arith, e, past))) ∙ has-past len (a + 1) n (omega (arith, past))

-- so far back is a derivation trimmed
pub record IsBack (given : ℕ) (steps : List Step) (k : ℕ) (items : List Item) (named : List Bool) : Type 0 where
  pub len : length named ≡ length steps
  pub written : reverse items ≡ needed_items given (given + 1 + k) (drop k steps)
  pub ahead : (p : ℕ) → p < k → get_or named p false ≡ is_named (given + 1 + p) (given + 1 + k) (drop k steps)
  pub done : (p : ℕ) → k ≤ p → p < length steps → get_or named p false ≡ is_named (given + 1 + p) (given + 1 + p + 1) (drop (p + 1) steps)

pub IsBack-start : (given : ℕ) (steps : List Step) (k : ℕ) (named : List Bool) → k ≡ length steps → length named ≡ length steps → ((p : ℕ) → get_or named p false ≡ false) → IsBack given steps k [] named
IsBack-start given steps k named e len unnamed =
    let nothing : drop k steps ≡ [] = drop_all k steps (omega (arith, e)) in
    record {
      len = len;
      written = ap (needed_items given (given + 1 + k)) (sym nothing);
      ahead = λ p below. unnamed p ∙ ap (is_named (given + 1 + p) (given + 1 + k)) (sym nothing);
      done = λ p past within. absurd (omega (arith, e, past, within));
    }

pub IsBack-end : (given : ℕ) (steps : List Step) (items : List Item) (named : List Bool) → IsBack given steps 0 items named → (reverse items ≡ needed_items given (given + 1) steps) × AreNamed given steps named
IsBack-end given steps items named h =
    let first : given + 1 + 0 ≡ given + 1 = omega arith in
    (h.written ∙ ap (λ n. needed_items given n steps) first, record { len = h.len; at = λ p within. h.done p (omega arith) within })

-- what is known ahead of the step at k, by the number of the step behind it
ahead_of : (given : ℕ) (steps : List Step) (k : ℕ) (items : List Item) (named : List Bool) → IsBack given steps (k + 1) items named → (p : ℕ) → p < k + 1 → get_or named p false ≡ is_named (given + 1 + p) (given + 1 + k + 1) (drop (k + 1) steps)
ahead_of given steps k items named h p below =
    let one : given + 1 + (k + 1) ≡ given + 1 + k + 1 = omega arith in
    h.ahead p below ∙ ap (λ n. is_named (given + 1 + p) n (drop (k + 1) steps)) one

written_after : (given : ℕ) (steps : List Step) (k : ℕ) (items : List Item) (named : List Bool) → IsBack given steps (k + 1) items named → reverse items ≡ needed_items given (given + 1 + k + 1) (drop (k + 1) steps)
written_after given steps k items named h =
    let one : given + 1 + (k + 1) ≡ given + 1 + k + 1 = omega arith in
    h.written ∙ ap (λ n. needed_items given n (drop (k + 1) steps)) one

needed_at : (given : ℕ) (steps : List Step) (k : ℕ) (items : List Item) (named : List Bool) → IsBack given steps (k + 1) items named → k < length steps
    → (eqb (k + 1) (length steps) || get_or named k false) ≡ is_needed (given + 1 + k) (drop (k + 1) steps)
needed_at given steps k items named h below =
    ap (λ b. b || get_or named k false) (sym (is_end-drop steps k below)) ∙ ap (λ b. is_end (drop (k + 1) steps) || b) (ahead_of given steps k items named h k (omega arith))

done_before : (given : ℕ) (steps : List Step) (k : ℕ) (items : List Item) (named : List Bool) → IsBack given steps (k + 1) items named → (p : ℕ) → k ≤ p → p < length steps → get_or named p false ≡ is_named (given + 1 + p) (given + 1 + p + 1) (drop (p + 1) steps)
done_before given steps k items named h p past within = elim (cases_eq p k) as (λ _. get_or named p false ≡ is_named (given + 1 + p) (given + 1 + p + 1) (drop (p + 1) steps)) [
  | inl e ↦ subst (λ q. get_or named q false ≡ is_named (given + 1 + q) (given + 1 + q + 1) (drop (q + 1) steps)) (sym e) (ahead_of given steps k items named h k (omega arith))
  | inr ne ↦ h.done p (omega (arith, ne, past)) within
]

pub IsBack-skip : (given : ℕ) (steps : List Step) (k : ℕ) (step : Step) (items : List Item) (named : List Bool) → IsBack given steps (k + 1) items named → k < length steps → drop k steps ≡ step ∷ drop (k + 1) steps
    → (eqb (k + 1) (length steps) || get_or named k false) ≡ false → IsBack given steps k items named
IsBack-skip given steps k step items named h below shape off =
    let later = drop (k + 1) steps in
    let number = given + 1 + k in
    let left : is_needed number later ≡ false = sym (needed_at given steps k items named h below) ∙ off in
    record {
      len = h.len;
      written = written_after given steps k items named h
          ∙ sym (cond-false (is_needed number later) (item.Add step ∷ ((if is_end later then [] else deletion (last_named given number step later)) ++ needed_items given (number + 1) later)) (needed_items given (number + 1) later) left)
          ∙ ap (needed_items given number) (sym shape);
      ahead = λ p less. ahead_of given steps k items named h p (omega (arith, less))
          ∙ ap (λ b. b || is_named (given + 1 + p) (number + 1) later) (sym (and_left (is_needed number later) (names step (given + 1 + p)) left))
          ∙ ap (is_named (given + 1 + p) number) (sym shape);
      done = done_before given steps k items named h;
    }

joined : (a b needed : Bool) → needed ≡ true → (a || ((b && not a) && true)) ≡ ((needed && b) || a)
joined true true true e = refl
joined true false true e = refl
joined true b false e = absurd (cc)
joined false true true e = refl
joined false false true e = refl
joined false b false e = absurd (cc)

and_false : (b : Bool) → (b && false) ≡ false
and_false true = refl
and_false false = refl

or_false : (b : Bool) → (b || false) ≡ b
or_false true = refl
or_false false = refl

-- the list of a step's last names, as flags have it
listed : (given : ℕ) (steps : List Step) (k : ℕ) (step : Step) (items : List Item) (named : List Bool) → IsBack given steps (k + 1) items named
    → filter (is_last given named step.hints) (range_with_len (given + 1) k) ≡ last_named given (given + 1 + k) step (drop (k + 1) steps)
listed given steps k step items named h =
    let later = drop (k + 1) steps in
    let number = given + 1 + k in
    let count : number - (given + 1) ≡ k = omega arith in
    filter_same (is_last given named step.hints) (λ n. names step n && not (is_named n (number + 1) later)) k (given + 1) (λ n low high.
    let place : given + 1 + (n - given - 1) ≡ n = omega (arith, low) in
    ap (λ b. names step n && not b) (ahead_of given steps k items named h (n - given - 1) (omega (arith, low, high)) ∙ ap (λ m. is_named m (number + 1) later) place))
    ∙ ap (λ len. filter (λ n. names step n && not (is_named n (number + 1) later)) (range_with_len (given + 1) len)) (sym count)

pub IsBack-take : (given : ℕ) (steps : List Step) (k : ℕ) (step : Step) (items : List Item) (named : List Bool) (list : List ℕ) (items' : List Item) (named' : List Bool) → IsBack given steps (k + 1) items named → k < length steps
    → drop k steps ≡ step ∷ drop (k + 1) steps → (eqb (k + 1) (length steps) || get_or named k false) ≡ true → list ≡ filter (is_last given named step.hints) (range_with_len (given + 1) k) → Marks given list named named'
    → items' ≡ items ++ reverse (item.Add step ∷ (if eqb (k + 1) (length steps) then [] else deletion list))
    → IsBack given steps k items' named'
IsBack-take given steps k step items named list items' named' h below shape on made marks pushed =
    let later = drop (k + 1) steps in
    let number = given + 1 + k in
    let needed : is_needed number later ≡ true = sym (needed_at given steps k items named h below) ∙ on in
    let chosen = is_last given named step.hints in
    let block = item.Add step ∷ (if eqb (k + 1) (length steps) then [] else deletion list) in
    let same_block : block ≡ item.Add step ∷ (if is_end later then [] else deletion (last_named given number step later)) =
    ap (λ b. item.Add step ∷ (if b then [] else deletion list)) (sym (is_end-drop steps k below))
    ∙ ap (λ ns. item.Add step ∷ (if is_end later then [] else deletion ns)) (made ∙ listed given steps k step items named h) in
    let in_list : (n : ℕ) → has n list ≡ (chosen n && has n (range_with_len (given + 1) k)) = λ n. ap (has n) made ∙ has-filter chosen n (range_with_len (given + 1) k) in
    record {
      len = marks.len ∙ h.len;
      written = ap reverse pushed ∙ reverse-append items (reverse block) ∙ ap (λ xs. xs ++ reverse items) (reverse-reverse block) ∙ ap (λ xs. block ++ xs) (written_after given steps k items named h)
          ∙ ap (λ xs. xs ++ needed_items given (number + 1) later) same_block
          ∙ sym (cond-true (is_needed number later) (item.Add step ∷ ((if is_end later then [] else deletion (last_named given number step later)) ++ needed_items given (number + 1) later)) (needed_items given (number + 1) later) needed)
          ∙ ap (needed_items given number) (sym shape);
      ahead = λ p less.
          let n = given + 1 + p in
          let place : n - given - 1 ≡ p = omega arith in
          let old : get_or named p false ≡ is_named n (number + 1) later = ahead_of given steps k items named h p (omega (arith, less)) in
          let here : flag given named n ≡ is_named n (number + 1) later = ap (λ q. get_or named q false) place ∙ old in
          let inside : has n (range_with_len (given + 1) k) ≡ true = has-range k (given + 1) n (omega arith) (omega (arith, less)) in
          marks.at p (omega (arith, less, below, h.len)) ∙ ap (λ b. b || has n list) old
          ∙ ap (λ b. is_named n (number + 1) later || b) (in_list n ∙ ap (λ b. chosen n && b) inside ∙ ap (λ b. (names step n && not b) && true) here)
          ∙ joined (is_named n (number + 1) later) (names step n) (is_needed number later) needed
          ∙ ap (is_named n number) (sym shape);
      done = λ p past within.
          let n = given + 1 + p in
          let outside : has n list ≡ false = in_list n ∙ ap (λ b. chosen n && b) (has-past k (given + 1) n (omega (arith, past))) ∙ and_false (chosen n) in
          marks.at p (omega (arith, within, h.len)) ∙ ap (λ b. get_or named p false || b) outside ∙ or_false (get_or named p false) ∙ done_before given steps k items named h p past within;
    }
