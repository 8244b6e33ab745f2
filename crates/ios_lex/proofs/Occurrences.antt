-- Where a delimiter occurs in a text.
use Rattle.std.proofs.Common.{◌≡◌, ℕ, ◌+◌, ◌-◌, ◌<◌, ◌≤◌, ◌==◌, Bool, true, false, List, ◌++◌, length, take, drop, sym, ap, ◌∙◌, ⊎_elim, arith, length-append}
use Rattle.std.proofs.Math.Seq.{drop-append_seam}
use Rattle.std.specs.List.{starts_with}
use Rattle.std.proofs.lemmas.Bool.{cases_lt}
use Rattle.std.proofs.lemmas.Bool.Decides.{Decides-eqb}
use Rattle.std.proofs.lemmas.List.{take_rest, take-append-drop}
use Rattle.std.proofs.lemmas.Slice.Eq.{starts_is}
use Rattle.ios_lex.specs.Banner.{Occurs}

-- a text that begins with the delimiter from some place on
pub occurs_at : (text delimiter : List ℕ) (i : ℕ) (r : Bool) → r ≡ starts_with ◌==◌ (take (length text - i) (drop i text)) delimiter → r ≡ true → Occurs delimiter text
occurs_at text delimiter i r starts is =
    let begins = (starts_is Decides-eqb (drop i text) delimiter r (rw (take_rest text i) at starts)).0 is in
    (take i text, drop (length delimiter) (drop i text), sym (take-append-drop i text) ∙ ap (λ behind. take i text ++ behind) begins)

-- one place more at which it does not stand
pub not_before : (text delimiter : List ℕ) (i : ℕ) (r : Bool) → r ≡ starts_with ◌==◌ (take (length text - i) (drop i text)) delimiter → r ≡ false → ((k : ℕ) (back : List ℕ) → k < i → drop k text ≡ delimiter ++ back → ⊥) → (k : ℕ) (back : List ℕ) → k < i + 1 → drop k text ≡ delimiter ++ back → ⊥
not_before text delimiter i r starts is before k back within stands = ⊎_elim earlier here (cases_lt k i)
  where
    earlier : k < i → ⊥
    earlier h = before k back h stands

    here : i ≤ k → ⊥
    here h =
        let same : k ≡ i = omega arith in
        let found : r ≡ true = (starts_is Decides-eqb (drop i text) delimiter r (rw (take_rest text i) at starts)).1 back (rw same at stands) in
        cc

-- a delimiter that stands at no place does not occur
pub occurs_nowhere : (text delimiter : List ℕ) → 0 < length delimiter → ((k : ℕ) (back : List ℕ) → k < length text → drop k text ≡ delimiter ++ back → ⊥) → Occurs delimiter text → ⊥
occurs_nowhere text delimiter some none occurs =
    none (length occurs.0) occurs.1 (omega (arith, ap length occurs.2, length-append {A = ℕ} occurs.0 (delimiter ++ occurs.1), length-append {A = ℕ} delimiter occurs.1))
    (ap (λ t. drop (length occurs.0) t) occurs.2 ∙ drop-append_seam occurs.0 (delimiter ++ occurs.1))
