-- The values of terms, against values one by one, and what was put last at them.
use Rattle.std.specs.Prelude.{◌≡◌, ℕ, Bool, true, false, ◌&&◌, nat_eq, List, [], ◌∷◌, Option, Some, None, option_map, option_and_then, length, refl}
use Rattle.std.specs.Option.{option_or}
use Rattle.std.specs.Str.{bytes_eq}
use Rattle.std.proofs.Common.{ap, sym, arith, eqb-true, eq-eqb}
use Rattle.sorted_logic.specs.declared.term.Term.{Term}
use Rattle.sorted_logic.specs.declared.universe.Entry.{Entry}
use Rattle.sorted_logic.specs.Finite.{last_value}
use Rattle.sorted_logic.specs.Trees.{term_tree, terms_chain}
use Rattle.sorted_logic.specs.Truth.{value_of, values_of, passes_of}
use Rattle.sorted_logic.specs.Universe.{Universe}

pub fits_next : (v : ℕ) (values : List ℕ) (first : Option ℕ) (rest : Option (List ℕ)) → first ≡ Some v
    → passes_of (bytes_eq (v ∷ values)) (option_and_then (λ e. option_map (λ elements. e ∷ elements) rest) first)
    ≡ passes_of (bytes_eq values) rest
fits_next v values first (Some rest) h = rw (h, eq-eqb v v refl) refl
fits_next v values first None h = rw h refl

pub fits_not : (v : ℕ) (values : List ℕ) (first : Option ℕ) (rest : Option (List ℕ)) → (first ≡ Some v → ⊥)
    → passes_of (bytes_eq (v ∷ values)) (option_and_then (λ e. option_map (λ elements. e ∷ elements) rest) first) ≡ false
fits_not v values None rest h = refl
fits_not v values (Some e) None h = refl
fits_not v values (Some e) (Some rest) h = go (nat_eq v e) refl
  where
    go : (b : Bool) → nat_eq v e ≡ b → (b && bytes_eq values rest) ≡ false
    go true k = absurd (h (ap Some (sym (eqb-true v e k))))
    go false k = refl

and_false : (a b : Bool) → b ≡ false → (a && b) ≡ false
and_false true b h = h
and_false false b h = refl

pub other_length : (u : Universe) (env : List ℕ) (terms : List Term) (values : List ℕ) → (length terms ≡ length values → ⊥)
    → passes_of (bytes_eq values) (values_of u env (terms_chain terms)) ≡ false
other_length u env [] [] h = absurd (h refl)
other_length u env [] (v ∷ values) h = refl
other_length u env (t ∷ terms) [] h = go (value_of u env (term_tree t)) (values_of u env (terms_chain terms))
  where
    go : (first : Option ℕ) (rest : Option (List ℕ))
        → passes_of (bytes_eq []) (option_and_then (λ e. option_map (λ elements. e ∷ elements) rest) first) ≡ false
    go None rest = refl
    go (Some e) None = refl
    go (Some e) (Some rest) = refl
other_length u env (t ∷ terms) (v ∷ values) h =
    go (value_of u env (term_tree t)) (values_of u env (terms_chain terms))
    (other_length u env terms values (λ e. h (omega (arith, e))))
  where
    go : (first : Option ℕ) (rest : Option (List ℕ)) → passes_of (bytes_eq values) rest ≡ false
        → passes_of (bytes_eq (v ∷ values)) (option_and_then (λ e. option_map (λ elements. e ∷ elements) rest) first) ≡ false
    go None rest k = refl
    go (Some e) None k = refl
    go (Some e) (Some rest) k = and_false (nat_eq v e) (bytes_eq values rest) k

pub later_fits : (entry : Entry) (entries : List Entry) (elements : Option (List ℕ)) (last : Option ℕ)
    → passes_of (bytes_eq entry.args) elements ≡ true
    → option_or (option_and_then (last_value (entry ∷ entries)) elements) last
    ≡ option_or (option_and_then (last_value entries) elements) (Some entry.value)
later_fits entry entries None last h = cc
later_fits entry entries (Some elements) last h = rw h (go (last_value entries elements))
  where
    go : (later : Option ℕ) → option_or (option_or later (Some entry.value)) last ≡ option_or later (Some entry.value)
    go None = refl
    go (Some e) = refl

pub later_fits_not : (entry : Entry) (entries : List Entry) (elements : Option (List ℕ)) (last : Option ℕ)
    → passes_of (bytes_eq entry.args) elements ≡ false
    → option_or (option_and_then (last_value (entry ∷ entries)) elements) last
    ≡ option_or (option_and_then (last_value entries) elements) last
later_fits_not entry entries None last h = refl
later_fits_not entry entries (Some elements) last h = rw h (go (last_value entries elements))
  where
    go : (later : Option ℕ) → option_or (option_or later None) last ≡ option_or later last
    go None = refl
    go (Some e) = refl
