-- The literals of a model, one after the other.
use Rattle.std.proofs.Common.{◌≡◌, ℕ, ◌+◌, ◌<◌, Bool, not, List, [], ◌∷◌, ◌++◌, codes, length, take, get_or, sym, ap, ◌∙◌, append_assoc, arith}
use Rattle.std.specs.List.{flat_map}
use Rattle.std.proofs.lemmas.List.{flat_map_more, length-take-le, take_more}
use Rattle.cnf.specs.declared.lit.Lit.{Lit}
use Rattle.certificates.specs.Text.{lit_text, listed}
use Rattle.dimacs.specs.Text.{true_lits, model_text}

abbrev lit_of : ℕ → Bool → Lit
lit_of var value = record { var = var; negative = not value }

lits_more : (var : ℕ) (values : List Bool) (value : Bool) → true_lits var (values ++ value ∷ []) ≡ true_lits var values ++ record { var = var + length values; negative = not value } ∷ []
lits_more var [] value = ap (λ v. record { var = v; negative = not value } ∷ []) (omega arith)
lits_more var (x ∷ values) value =
    ap (λ ls. record { var = var; negative = not x } ∷ ls)
    (lits_more (var + 1) values value ∙ ap (λ v. true_lits (var + 1) values ++ record { var = v; negative = not value } ∷ []) (omega arith))

pub pushed_lit : (start text next : List ℕ) (values : List Bool) (i : ℕ) (d : Bool) (l : Lit) → i < length values → l ≡ record { var = i; negative = not (get_or values i d) } → text ≡ start ++ flat_map (λ x. lit_text x ++ codes " ") (true_lits 0 (take i values)) → next ≡ (text ++ lit_text l) ++ codes " " → next ≡ start ++ flat_map (λ x. lit_text x ++ codes " ") (true_lits 0 (take (i + 1) values))
pushed_lit start text next values i d l inside lit so_far pushed =
    let value = get_or values i d in
    let more : true_lits 0 (take (i + 1) values) ≡ true_lits 0 (take i values) ++ l ∷ [] =
    ap (true_lits 0) (take_more values i d inside) ∙ lits_more 0 (take i values) value
    ∙ ap (λ k. true_lits 0 (take i values) ++ k ∷ []) (at_place ∙ sym lit) in
    pushed ∙ append_assoc text (lit_text l) (codes " ") ∙ ap (λ t. t ++ (lit_text l ++ codes " ")) so_far
    ∙ flat_map_more (λ x. lit_text x ++ codes " ") start (true_lits 0 (take i values)) l
    ∙ ap (λ ls. start ++ flat_map (λ x. lit_text x ++ codes " ") ls) (sym more)
  where
    at_place : lit_of (0 + length (take i values)) (get_or values i d) ≡ lit_of i (get_or values i d)
    at_place = ap (λ v. lit_of v (get_or values i d)) (omega (arith, length-take-le i values (omega arith)))

pub whole_model : (text next : List ℕ) (values all : List Bool) → all ≡ values → text ≡ codes "s SATISFIABLE\nv " ++ flat_map (λ x. lit_text x ++ codes " ") (true_lits 0 all) → next ≡ text ++ codes "0\n" → next ≡ model_text values
unfolding model_text listed
whole_model text next values all are so_far pushed =
    pushed ∙ ap (λ t. t ++ codes "0\n") so_far ∙ ap (λ vs. (codes "s SATISFIABLE\nv " ++ flat_map (λ x. lit_text x ++ codes " ") (true_lits 0 vs)) ++ codes "0\n") are ∙ simp append_assoc
