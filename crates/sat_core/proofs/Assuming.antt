-- Literals that are added as clauses.
use Rattle.std.proofs.Common.{◌≡◌, ◌<◌, ◌+◌, ◌∙◌, ℕ, List, [], ◌∷◌, ◌++◌, ap, refl, sym, length, take, get_or}
use Rattle.std.proofs.lemmas.List.{append_assoc, take_more}
use Rattle.cnf.specs.declared.lit.Lit.{Lit}
use Rattle.cnf.specs.Clauses.{Formula}
use Rattle.sat_core.specs.Solving.{units}

abbrev formula_of : ℕ → List (List Lit) → Formula
formula_of vars clauses = record { vars = vars; clauses = clauses }

units_push : (lits : List Lit) (l : Lit) → units (lits ++ l ∷ []) ≡ units lits ++ (l ∷ []) ∷ []
units_push [] l = refl
units_push (x ∷ lits) l = ap (λ cs. (x ∷ []) ∷ cs) (units_push lits l)

pub one_more : (start before after : Formula) (lits clause : List Lit) (i : ℕ) (d : Lit) → before ≡ formula_of start.vars (start.clauses ++ units (take i lits)) → after ≡ formula_of before.vars (before.clauses ++ clause ∷ [])
    → clause ≡ get_or lits i d ∷ [] → i < length lits → after ≡ formula_of start.vars (start.clauses ++ units (take (i + 1) lits))
one_more start before after lits clause i d so_far added is inside =
    let front : List (List Lit) = units (take i lits) in
    let next : units (take (i + 1) lits) ≡ front ++ (get_or lits i d ∷ []) ∷ [] = ap units (take_more lits i d inside) ∙ units_push (take i lits) (get_or lits i d) in
    added
    ∙ ap (λ (f : Formula). formula_of f.vars (f.clauses ++ clause ∷ [])) so_far
    ∙ ap (formula_of start.vars) (append_assoc start.clauses front (clause ∷ []) ∙ ap (λ x. start.clauses ++ x) (ap (λ c. front ++ c ∷ []) is ∙ sym next))
