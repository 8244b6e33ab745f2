-- The new numbers, as they are counted.
use Rattle.std.proofs.Common.{◌≡◌, ◌<◌, ◌≤◌, ◌+◌, ◌-◌, ◌||◌, eqb, leb, ℕ, zero, suc, Bool, true, false, List, [], ◌∷◌, ◌++◌, map, min, length, get_or, slice_index, drop, arith, refl, ap, sym, ◌∙◌, subst, inl, inr, if◌then◌else◌}
use Rattle.std.proofs.lemmas.Bool.{or_left, cases_lt, cases_eq, eq-eqb, ne_eqb, le-leb, lt-leb, le-ltb, cond-true, cond-false, leb-true, leb-false}
use Rattle.std.proofs.lemmas.List.{get_or_past, get_or_push, get_or_append_left, length_push}
use Rattle.certificates.specs.declared.derivation.Step.{Step}
use Rattle.certificates.specs.declared.derivation.Item.{Item}
use Rattle.certificates.specs.declared.derivation.Item.TheVariants as item
use Rattle.proof_check.specs.Trimming.{is_end, is_named, is_needed, is_kept, new_number, renumbered, steps_to_empty, needed_items, trimmed}
use Rattle.proof_check.specs.Inside.Trim.{flag, kept_by, AreNamed, AreNewNumbers, looked_up}
use Rattle.proof_check.proofs.Trimmed.{is_kept-below, all_kept}
use Rattle.proof_check.proofs.Flags.{is_end-drop}

new_number-next : (kept : ℕ → Bool) (n : ℕ) → new_number kept (n + 1) ≡ (if kept (n + 1) then new_number kept n + 1 else new_number kept n)
new_number-next kept n = let one : n + 1 ≡ suc n = omega arith in subst (λ m. new_number kept m ≡ (if kept m then new_number kept n + 1 else new_number kept n)) (sym one) refl

pub new_number_agree : (f g : ℕ → Bool) → ((n : ℕ) → f n ≡ g n) → (n : ℕ) → new_number f n ≡ new_number g n
new_number_agree f g h zero = refl
new_number_agree f g h (suc n) =
    ap (λ b. if b then new_number f n + 1 else new_number f n) (h (suc n)) ∙ ap (λ k. if g (suc n) then k + 1 else k) (new_number_agree f g h n)

new_number-constant : (kept : ℕ → Bool) (a n : ℕ) → ((m : ℕ) → a < m → kept m ≡ false) → a ≤ n → new_number kept n ≡ new_number kept a
new_number-constant kept a zero none low = let same : zero ≡ a = omega arith in ap (new_number kept) same
new_number-constant kept a (suc n) none low = elim (cases_eq a (suc n)) as (λ _. new_number kept (suc n) ≡ new_number kept a) [
  | inl e ↦ ap (new_number kept) (sym e)
  | inr ne ↦ cond-false (kept (suc n)) (new_number kept n + 1) (new_number kept n) (none (suc n) (omega (arith, ne, low))) ∙ new_number-constant kept a n none (omega (arith, ne, low))
]

kept_by-given : (given : ℕ) (named : List Bool) (n : ℕ) → n < given + 1 → kept_by given named n ≡ true
kept_by-given given named n low = or_left (leb n given) (flag given named n || eqb (n - given) (length named)) (le-leb n given (omega arith))

kept_by-step : (given : ℕ) (named : List Bool) (n place : ℕ) → n ≡ given + 1 + place → kept_by given named n ≡ (get_or named place false || eqb (place + 1) (length named))
kept_by-step given named n place e =
    let above : leb n given ≡ false = lt-leb n given (omega (arith, e)) in
    let at : n - given - 1 ≡ place = omega (arith, e) in
    let next : n - given ≡ place + 1 = omega (arith, e) in
    ap (λ b. b || (flag given named n || eqb (n - given) (length named))) above
    ∙ ap (λ p. get_or named p false || eqb (n - given) (length named)) at
    ∙ ap (λ k. get_or named place false || eqb k (length named)) next

kept_by-past : (given : ℕ) (named : List Bool) (n : ℕ) → given + length named < n → kept_by given named n ≡ false
kept_by-past given named n past =
    let e : n ≡ given + 1 + (n - given - 1) = omega arith in
    let place = n - given - 1 in
    kept_by-step given named n place e
    ∙ ap (λ b. b || eqb (place + 1) (length named)) (get_or_past named place false (omega arith))
    ∙ ne_eqb (place + 1) (length named) (λ same. omega (arith, same, past, e))

pub counted_first : (given : ℕ) (named : List Bool) → new_number (kept_by given named) given ≡ given
counted_first given named = all_kept (kept_by given named) given (λ h below. kept_by-given given named h below)

pub counted_next : (given : ℕ) (named : List Bool) (place : ℕ) → new_number (kept_by given named) (given + (place + 1)) ≡ (if get_or named place false || eqb (place + 1) (length named) then new_number (kept_by given named) (given + place) + 1 else new_number (kept_by given named) (given + place))
counted_next given named place =
    let kept = kept_by given named in
    let one : given + (place + 1) ≡ given + place + 1 = omega arith in
    ap (new_number kept) one ∙ new_number-next kept (given + place)
    ∙ ap (λ b. if b then new_number kept (given + place) + 1 else new_number kept (given + place)) (kept_by-step given named (given + place + 1) place (omega arith))

pub looked_up_is : (given : ℕ) (named : List Bool) (numbers : List ℕ) → AreNewNumbers given named numbers → (n : ℕ) → looked_up given numbers n ≡ new_number (kept_by given named) n
looked_up_is given named numbers h n =
    let kept = kept_by given named in
    elim (leb n given) as (λ b. leb n given ≡ b → (if b then n else slice_index numbers (min (n - given) (length numbers - 1))) ≡ new_number kept n) [
      | true ↦ λ e. let low = leb-true n given e in sym (all_kept kept n (λ m below. kept_by-given given named m (omega (arith, low, below))))
      | false ↦ λ e.
          let above = leb-false n given e in
          let count : length numbers - 1 ≡ length named = omega (arith, h.len) in
          let place = min (n - given) (length numbers - 1) in
          let within : place ≤ length named = omega (arith, count) in
          h.at place within ∙ elim (cases_lt (length named) (n - given)) as (λ _. new_number kept (given + place) ≡ new_number kept n) [
            | inl past ↦
                let last : given + place ≡ given + length named = omega (arith, past, count) in
                ap (new_number kept) last ∙ sym (new_number-constant kept (given + length named) n (λ m more. kept_by-past given named m more) (omega (arith, past)))
            | inr inside ↦
                let same : given + place ≡ n = omega (arith, inside, count, above) in
                ap (new_number kept) same
          ]
    ] refl

is_kept-at : (number : ℕ) (steps : List Step) (place n : ℕ) → n ≡ number + place → place < length steps → is_kept number steps n ≡ is_needed n (drop (suc place) steps)
is_kept-at number [] place n e below = absurd (omega arith)
is_kept-at number (step ∷ later) zero n e below =
    let same : n ≡ number = omega (arith, e) in
    cond-true (eqb n number) (is_needed number later) (is_kept (number + 1) later n) (eq-eqb n number same) ∙ ap (λ k. is_needed k later) (sym same)
is_kept-at number (step ∷ later) (suc place) n e below =
    cond-false (eqb n number) (is_needed number later) (is_kept (number + 1) later n) (ne_eqb n number (λ same. omega (arith, same, e)))
    ∙ is_kept-at (number + 1) later place n (omega (arith, e)) (omega (arith, below))

is_kept-past : (number : ℕ) (steps : List Step) (n : ℕ) → number + length steps ≤ n → is_kept number steps n ≡ false
is_kept-past number [] n past = le-ltb n number (omega (arith, past))
is_kept-past number (step ∷ later) n past =
    cond-false (eqb n number) (is_needed number later) (is_kept (number + 1) later n) (ne_eqb n number (λ same. omega (arith, same, past)))
    ∙ is_kept-past (number + 1) later n (omega (arith, past))

or_turned : (a b : Bool) → (a || b) ≡ (b || a)
or_turned true true = refl
or_turned true false = refl
or_turned false true = refl
or_turned false false = refl

pub kept_same : (given : ℕ) (steps : List Step) (named : List Bool) → AreNamed given steps named → (n : ℕ) → kept_by given named n ≡ is_kept (given + 1) steps n
kept_same given steps named h n = elim (cases_lt n (given + 1)) as (λ _. kept_by given named n ≡ is_kept (given + 1) steps n) [
  | inl low ↦ kept_by-given given named n low ∙ sym (is_kept-below (given + 1) steps n low)
  | inr high ↦ elim (cases_lt n (given + 1 + length steps)) as (λ _. kept_by given named n ≡ is_kept (given + 1) steps n) [
    | inr past ↦ kept_by-past given named n (omega (arith, past, h.len)) ∙ sym (is_kept-past (given + 1) steps n past)
    | inl inside ↦
        let place = n - given - 1 in
        let e : n ≡ given + 1 + place = omega (arith, high) in
        let below : place < length steps = omega (arith, inside, e) in
        let one : place + 1 ≡ suc place = omega arith in
        kept_by-step given named n place e
        ∙ ap (λ b. b || eqb (place + 1) (length named)) (h.at place below ∙ ap (λ m. is_named m (m + 1) (drop (place + 1) steps)) (sym e))
        ∙ ap (λ k. is_named n (n + 1) (drop (place + 1) steps) || eqb (place + 1) k) h.len
        ∙ ap (λ b. is_named n (n + 1) (drop (place + 1) steps) || b) (sym (is_end-drop steps place below))
        ∙ or_turned (is_named n (n + 1) (drop (place + 1) steps)) (is_end (drop (place + 1) steps))
        ∙ ap (λ k. is_needed n (drop k steps)) one
        ∙ sym (is_kept-at (given + 1) steps place n e below)
  ]
]

map_agree : (f g : ℕ → ℕ) → ((n : ℕ) → f n ≡ g n) → (ns : List ℕ) → map f ns ≡ map g ns
map_agree f g h [] = refl
map_agree f g h (n ∷ ns) = ap (λ k. k ∷ map f ns) (h n) ∙ ap (λ ms. g n ∷ ms) (map_agree f g h ns)

renumbered_agree : (f g : ℕ → ℕ) → ((n : ℕ) → f n ≡ g n) → (x : Item) → renumbered f x ≡ renumbered g x
renumbered_agree f g h (item.Add step) = ap (λ hints. item.Add (record { clause = step.clause; hints = hints })) (map_agree f g h step.hints)
renumbered_agree f g h (item.Delete numbers) = ap (λ ns. item.Delete ns) (map_agree f g h numbers)

pub all_renumbered_agree : (f g : ℕ → ℕ) → ((n : ℕ) → f n ≡ g n) → (items : List Item) → map (renumbered f) items ≡ map (renumbered g) items
all_renumbered_agree f g h [] = refl
all_renumbered_agree f g h (x ∷ items) = ap (λ y. y ∷ map (renumbered f) items) (renumbered_agree f g h x) ∙ ap (λ ys. renumbered g x ∷ ys) (all_renumbered_agree f g h items)

-- so far are the new numbers counted
pub record IsCounted (given : ℕ) (named : List Bool) (place number : ℕ) (numbers : List ℕ) : Type 0 where
  pub len : length numbers ≡ place + 1
  pub last : number ≡ new_number (kept_by given named) (given + place)
  pub within : number ≤ given + place
  pub at : (k : ℕ) → k ≤ place → slice_index numbers k ≡ new_number (kept_by given named) (given + k)

pub IsCounted-first : (given : ℕ) (named : List Bool) (numbers : List ℕ) → numbers ≡ given ∷ [] → IsCounted given named 0 given numbers
IsCounted-first given named numbers e =
    let zero_more : given + 0 ≡ given = omega arith in
    let first : given ≡ new_number (kept_by given named) (given + 0) = sym (ap (new_number (kept_by given named)) zero_more ∙ counted_first given named) in
    record {
      len = ap length e;
      last = first;
      within = omega arith;
      at = λ k low.
          let none : k ≡ 0 = omega (arith, low) in
          subst (λ j. slice_index numbers j ≡ new_number (kept_by given named) (given + j)) (sym none) (ap (λ xs. slice_index xs 0) e ∙ first);
    }

pub IsCounted-next : (given : ℕ) (named : List Bool) (place last next : ℕ) (numbers numbers' : List ℕ) → IsCounted given named place last numbers → next ≡ (if get_or named place false || eqb (place + 1) (length named) then last + 1 else last) → numbers' ≡ numbers ++ next ∷ []
    → IsCounted given named (place + 1) next numbers'
IsCounted-next given named place last next numbers numbers' h e pushed =
    let kept = kept_by given named in
    let this : next ≡ new_number kept (given + (place + 1)) = e
    ∙ ap (λ n. if get_or named place false || eqb (place + 1) (length named) then n + 1 else n) h.last
    ∙ sym (counted_next given named place) in
    record {
      len = ap length pushed ∙ length_push numbers next ∙ ap (λ n. n + 1) h.len;
      last = this;
      within = let up : next ≤ last + 1 = elim (get_or named place false || eqb (place + 1) (length named)) as (λ b. next ≡ (if b then last + 1 else last) → next ≤ last + 1) [ true ↦ λ x. omega (arith, x) | false ↦ λ x. omega (arith, x) ] e in omega (arith, up, h.within);
      at = λ k low. elim (cases_eq k (place + 1)) as (λ _. slice_index numbers' k ≡ new_number kept (given + k)) [
        | inl same ↦ ap (λ xs. slice_index xs k) pushed ∙ get_or_push numbers next 0 k (h.len ∙ sym same) ∙ this ∙ ap (λ j. new_number kept (given + j)) (sym same)
        | inr ne ↦ ap (λ xs. slice_index xs k) pushed ∙ get_or_append_left numbers (next ∷ []) 0 k (omega (arith, ne, low, h.len)) ∙ h.at k (omega (arith, ne, low))
      ];
    }

pub IsCounted-end : (given : ℕ) (named : List Bool) (place last : ℕ) (numbers : List ℕ) → IsCounted given named place last numbers → place ≡ length named → AreNewNumbers given named numbers
IsCounted-end given named place last numbers h e = record {
  len = h.len ∙ ap (λ n. n + 1) e;
  at = λ k low. h.at k (omega (arith, low, e));
}

pub trimmed_is : (given : ℕ) (old : List Item) (steps : List Step) (named : List Bool) (numbers : List ℕ) (needed new : List Item) → steps ≡ steps_to_empty old → AreNamed given steps named → needed ≡ needed_items given (given + 1) steps → AreNewNumbers given named numbers
    → new ≡ map (renumbered (looked_up given numbers)) needed → new ≡ trimmed given old
trimmed_is given old steps named numbers needed new e flags made counts written =
    let f = new_number (is_kept (given + 1) steps) in
    let same : (n : ℕ) → looked_up given numbers n ≡ f n = λ n.
    looked_up_is given named numbers counts n ∙ new_number_agree (kept_by given named) (is_kept (given + 1) steps) (kept_same given steps named flags) n in
    written ∙ all_renumbered_agree (looked_up given numbers) f same needed ∙ ap (map (renumbered f)) made
    ∙ ap (λ s. map (renumbered (new_number (is_kept (given + 1) s))) (needed_items given (given + 1) s)) e
