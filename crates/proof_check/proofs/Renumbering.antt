-- New numbers rise with the old ones that are kept, and what hints name is the same.
use Rattle.std.proofs.Common.{◌≡◌, ◌≢◌, ◌<◌, ◌≤◌, ◌+◌, eqb, eq-eqb, ℕ, zero, suc, Bool, true, false, Option, Some, None, List, [], ◌∷◌, ◌++◌, map, length, get_or, set, cond, arith, refl, ap, sym, ◌∙◌, inl, inr}
use Rattle.std.specs.List.{list_any}
use Rattle.std.proofs.lemmas.Bool.{cond-true, cond-false, cases_order, or_left, or_right, or_cases, eqb-true}
use Rattle.std.proofs.lemmas.List.{length-set, get_or-set_other}
use Rattle.cnf.specs.declared.lit.Lit.{Lit}
use Rattle.proof_check.specs.Derivations.{Live, live_at, without, without_all}
use Rattle.proof_check.specs.Trimming.{new_number}

pub new_number-kept : (kept : ℕ → Bool) (n : ℕ) → kept (n + 1) ≡ true → new_number kept (n + 1) ≡ new_number kept n + 1
new_number-kept kept n e =
    let one : n + 1 ≡ suc n = omega arith in
    ap (new_number kept) one ∙ cond-true (kept (suc n)) (new_number kept n + 1) (new_number kept n) (ap kept (sym one) ∙ e)

pub new_number-left : (kept : ℕ → Bool) (n : ℕ) → kept (n + 1) ≡ false → new_number kept (n + 1) ≡ new_number kept n
new_number-left kept n e =
    let one : n + 1 ≡ suc n = omega arith in
    ap (new_number kept) one ∙ cond-false (kept (suc n)) (new_number kept n + 1) (new_number kept n) (ap kept (sym one) ∙ e)

new_number-step : (kept : ℕ → Bool) (n : ℕ) → new_number kept n ≤ new_number kept (suc n)
new_number-step kept n = elim (kept (suc n)) as (λ b. new_number kept n ≤ (cond b (new_number kept n + 1) (new_number kept n))) [ true ↦ omega arith | false ↦ omega arith ]

pub new_number-rises : (kept : ℕ → Bool) (a b : ℕ) → a ≤ b → new_number kept a ≤ new_number kept b
new_number-rises kept zero zero h = omega arith
new_number-rises kept (suc a) zero h = absurd (omega arith)
new_number-rises kept a (suc b) h =
    elim (cases_order a (suc b)) [
      | inl e ↦ let same : new_number kept a ≡ new_number kept (suc b) = ap (new_number kept) e in omega (arith, same)
      | inr o ↦ elim o [
        | inl less ↦ let up = new_number-rises kept a b (omega arith) in let more = new_number-step kept b in omega (arith, up, more)
        | inr more ↦ absurd (omega arith)
      ]
    ]

new_number-below : (kept : ℕ → Bool) (a b : ℕ) → a < b → kept b ≡ true → new_number kept a < new_number kept b
new_number-below kept a zero h k = absurd (omega arith)
new_number-below kept a (suc b) h k =
    let up = new_number-rises kept a b (omega arith) in
    let here : new_number kept (suc b) ≡ new_number kept b + 1 = cond-true (kept (suc b)) (new_number kept b + 1) (new_number kept b) k in
    omega (arith, up, here)

pub new_numbers_differ : (kept : ℕ → Bool) (a b : ℕ) → a ≢ b → kept a ≡ true → kept b ≡ true → new_number kept a ≢ new_number kept b
new_numbers_differ kept a b ne ka kb e = elim (cases_order a b) [
  | inl same ↦ ne same
  | inr o ↦ elim o [
    | inl less ↦ let h = new_number-below kept a b less kb in omega (arith, h, e)
    | inr more ↦ let h = new_number-below kept b a more ka in omega (arith, h, e)
  ]
]

pub new_number-le : (kept : ℕ → Bool) (n : ℕ) → new_number kept n ≤ n
new_number-le kept zero = omega arith
new_number-le kept (suc n) =
    let before = new_number-le kept n in
    elim (kept (suc n)) as (λ b. (cond b (new_number kept n + 1) (new_number kept n)) ≤ suc n) [ true ↦ omega (arith, before) | false ↦ omega (arith, before) ]

-- LOOKING UP

pub live_at-without : (live : Live) (m n : ℕ) → m ≢ n → live_at (without live m) n ≡ live_at live n
live_at-without live zero n ne = refl
live_at-without live (suc m) zero ne = refl
live_at-without live (suc m) (suc n) ne =
    let other : n ≢ m = λ e. ne (ap suc (sym e)) in
    get_or-set_other live m n None None other

pub length-without : (live : Live) (m : ℕ) → length (without live m) ≡ length live
length-without live zero = refl
length-without live (suc m) = length-set live m None

pub length-without_all : (live : Live) (ns : List ℕ) → length (without_all live ns) ≡ length live
length-without_all live [] = refl
length-without_all live (n ∷ ns) = length-without_all (without live n) ns ∙ length-without live n

set_was : (live : Live) (m n : ℕ) (c : List Lit) → get_or (set live m None) n None ≡ Some c → get_or live n None ≡ Some c
set_was [] m n c e = e
set_was (o ∷ live) zero zero c e = absurd (cc)
set_was (o ∷ live) zero (suc n) c e = e
set_was (o ∷ live) (suc m) zero c e = e
set_was (o ∷ live) (suc m) (suc n) c e = set_was live m n c e

without_was : (live : Live) (m n : ℕ) (c : List Lit) → live_at (without live m) n ≡ Some c → live_at live n ≡ Some c
without_was live zero n c e = e
without_was live (suc m) zero c e = absurd (cc)
without_was live (suc m) (suc n) c e = set_was live m n c e

pub without_all_was : (live : Live) (ms : List ℕ) (n : ℕ) (c : List Lit) → live_at (without_all live ms) n ≡ Some c → live_at live n ≡ Some c
without_all_was live [] n c e = e
without_all_was live (m ∷ ms) n c e = without_was live m n c (without_all_was (without live m) ms n c e)

at_push : (live : Live) (o : Option (List Lit)) (n : ℕ) (c : List Lit) → get_or live n None ≡ Some c → get_or (live ++ o ∷ []) n None ≡ Some c
at_push [] o n c e = absurd (cc)
at_push (x ∷ live) o zero c e = e
at_push (x ∷ live) o (suc n) c e = at_push live o n c e

pub live_at-push : (live : Live) (o : Option (List Lit)) (n : ℕ) (c : List Lit) → live_at live n ≡ Some c → live_at (live ++ o ∷ []) n ≡ Some c
live_at-push live o zero c e = absurd (cc)
live_at-push live o (suc n) c e = at_push live o n c e

at_last : (live : Live) (o : Option (List Lit)) → get_or (live ++ o ∷ []) (length live) None ≡ o
at_last [] o = refl
at_last (x ∷ live) o = at_last live o

pub live_at-last : (live : Live) (o : Option (List Lit)) (n : ℕ) → n ≡ length live + 1 → live_at (live ++ o ∷ []) n ≡ o
live_at-last live o zero e = absurd (omega arith)
live_at-last live o (suc n) e = let same : n ≡ length live = omega arith in ap (λ k. get_or (live ++ o ∷ []) k None) same ∙ at_last live o

at_pushed : (live : Live) (o : Option (List Lit)) (n : ℕ) (c : List Lit) → get_or (live ++ o ∷ []) n None ≡ Some c → (n ≢ length live) → get_or live n None ≡ Some c
at_pushed [] o zero c e ne = absurd (ne refl)
at_pushed [] o (suc n) c e ne = absurd (cc)
at_pushed (x ∷ live) o zero c e ne = e
at_pushed (x ∷ live) o (suc n) c e ne = at_pushed live o n c e (λ k. ne (ap suc k))

pub live_at-pushed : (live : Live) (o : Option (List Lit)) (n : ℕ) (c : List Lit) → live_at (live ++ o ∷ []) n ≡ Some c → n ≢ length live + 1 → live_at live n ≡ Some c
live_at-pushed live o zero c e ne = absurd (cc)
live_at-pushed live o (suc n) c e ne = at_pushed live o n c e (λ k. ne (omega (arith, k)))

at_below : (live : Live) (n : ℕ) (c : List Lit) → get_or live n None ≡ Some c → n < length live
at_below [] n c e = absurd (cc)
at_below (x ∷ live) zero c e = omega arith
at_below (x ∷ live) (suc n) c e = let h = at_below live n c e in omega (arith, h)

pub live_at-below : (live : Live) (n : ℕ) (c : List Lit) → live_at live n ≡ Some c → n < length live + 1
live_at-below live zero c e = absurd (cc)
live_at-below live (suc n) c e = let h = at_below live n c e in omega (arith, h)

-- HINTS

-- each hint names a clause
abbrev pub AllName : List (Option (List Lit)) → Type 0
AllName [] = Unit {0}
AllName (None ∷ hinted) = ⊥
AllName (Some c ∷ hinted) = AllName hinted

AllName-tail : (o : Option (List Lit)) (hinted : List (Option (List Lit))) → AllName (o ∷ hinted) → AllName hinted
AllName-tail None hinted h = absurd h
AllName-tail (Some c) hinted h = h

pub AllName-at : (live : Live) (hints : List ℕ) (h : ℕ) → AllName (map (live_at live) hints) → list_any (λ x. eqb x h) hints ≡ true → (c : List Lit) × (live_at live h ≡ Some c)
AllName-at live [] h all e = absurd (cc)
AllName-at live (x ∷ hints) h all e =
    elim (live_at live x) as (λ o. live_at live x ≡ o → AllName (o ∷ map (live_at live) hints) → (c : List Lit) × (live_at live h ≡ Some c)) [
      | None ↦ λ is w. absurd w
      | Some c ↦ λ is w. elim (or_cases (eqb x h) (list_any (λ y. eqb y h) hints) e) [
        | inl here ↦ (c, ap (live_at live) (sym (eqb-true x h here)) ∙ is)
        | inr later ↦ AllName-at live hints h w later
      ]
    ] refl all

pub same_hinted : (old new : Live) (f : ℕ → ℕ) (hints : List ℕ) → AllName (map (live_at old) hints) → ((h : ℕ) → list_any (λ x. eqb x h) hints ≡ true → (c : List Lit) → live_at old h ≡ Some c → live_at new (f h) ≡ Some c)
    → map (live_at new) (map f hints) ≡ map (live_at old) hints
same_hinted old new f [] all h = refl
same_hinted old new f (x ∷ hints) all h =
    let here : list_any (λ y. eqb y x) (x ∷ hints) ≡ true = or_left (eqb x x) (list_any (λ y. eqb y x) hints) (eq-eqb x x refl) in
    let first : live_at new (f x) ≡ live_at old x = elim (live_at old x) as (λ o. live_at old x ≡ o → AllName (o ∷ map (live_at old) hints) → live_at new (f x) ≡ o) [
      | None ↦ λ is w. absurd w
      | Some c ↦ λ is w. h x here c is
    ] refl all in
    let rest : map (live_at new) (map f hints) ≡ map (live_at old) hints = same_hinted old new f hints (AllName-tail (live_at old x) (map (live_at old) hints) all) (λ y e c is. h y (or_right (eqb x y) (list_any (λ z. eqb z y) hints) e) c is) in
    cc
