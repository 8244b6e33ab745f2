-- The words of clauses, one after the other.
use Rattle.std.proofs.Common.{◌≡◌, ℕ, ◌<◌, List, [], ◌∷◌, ◌++◌, codes, length, map, refl, sym, ◌∙◌, append_assoc, append-nil, arith}
use Rattle.std.specs.List.{All, flat_map}
use Rattle.std.proofs.lemmas.List.Elements.{All-head, All-tail}
use Rattle.cnf.specs.declared.lit.Lit.{Lit}
use Rattle.cnf.specs.Clauses.{IsInRange}
use Rattle.certificates.specs.Text.{lit_text}
use Rattle.certificates.specs.Parts.Entries.{IsWritableLit}
use Rattle.certificates.proofs.Entries.{lit_is_one, lits_are_entries}
use Rattle.dimacs.specs.Text.{clause_words}

-- a 0 is no literal
pub zero_is_no_lit : (l : Lit) → IsWritableLit l → lit_text l ≡ codes "0" → ⊥
zero_is_no_lit l fits same = lits_are_entries.begins l [] [] fits (rw append-nil same)

-- the words behind a clause
behind_clause : (c : List Lit) (rest : List (List ℕ)) → clause_words c ++ rest ≡ map lit_text c ++ codes "0" ∷ rest
behind_clause c rest = simp append_assoc

-- words begin with one clause
clause_is_one : (c d : List Lit) (rest rest' : List (List ℕ)) → All IsWritableLit c → All IsWritableLit d → map lit_text c ++ codes "0" ∷ rest ≡ map lit_text d ++ codes "0" ∷ rest' → (c ≡ d) × (rest ≡ rest')
clause_is_one [] [] rest rest' fit fit' same = (refl, cc)
clause_is_one [] (k ∷ d) rest rest' fit fit' same = absurd (zero_is_no_lit k (All-head IsWritableLit k d fit') (cc))
clause_is_one (l ∷ c) [] rest rest' fit fit' same = absurd (zero_is_no_lit l (All-head IsWritableLit l c fit) (cc))
clause_is_one (l ∷ c) (k ∷ d) rest rest' fit fit' same =
    let first : lit_text l ≡ lit_text k = cc in
    let tails : map lit_text c ++ codes "0" ∷ rest ≡ map lit_text d ++ codes "0" ∷ rest' = cc in
    let one : l ≡ k = lit_is_one l k (All-head IsWritableLit l c fit) (All-head IsWritableLit k d fit') first in
    let more = clause_is_one c d rest rest' (All-tail IsWritableLit l c fit) (All-tail IsWritableLit k d fit') tails in
    let others = more.0 in
    (cc, more.1)

-- the first literals of a clause are no clause
no_clause : (part c : List Lit) (rest : List (List ℕ)) → All IsWritableLit part → map lit_text part ≡ map lit_text c ++ codes "0" ∷ rest → ⊥
no_clause [] [] rest fit same = cc
no_clause [] (k ∷ c) rest fit same = cc
no_clause (l ∷ part) [] rest fit same = zero_is_no_lit l (All-head IsWritableLit l part fit) (cc)
no_clause (l ∷ part) (k ∷ c) rest fit same = no_clause part c rest (All-tail IsWritableLit l part fit) (cc)

-- words are those of one list of clauses, and then no others are behind them
pub clauses_are_one : (cs ds : List (List Lit)) (part : List Lit) → All (All IsWritableLit) cs → All IsWritableLit part → All (All IsWritableLit) ds → flat_map clause_words cs ++ map lit_text part ≡ flat_map clause_words ds → cs ≡ ds
clauses_are_one [] [] part fit fit' fit'' same = refl
clauses_are_one [] (d ∷ ds) part fit fit' fit'' same = absurd (no_clause part d (flat_map clause_words ds) fit' (same ∙ behind_clause d (flat_map clause_words ds)))
clauses_are_one (c ∷ cs) [] part fit fit' fit'' same = absurd (nothing c (flat_map clause_words cs) same)
  where
    nothing : (d : List Lit) (rest : List (List ℕ)) → (clause_words d ++ rest) ++ map lit_text part ≡ [] → ⊥
    nothing [] rest same = cc
    nothing (l ∷ d) rest same = cc
clauses_are_one (c ∷ cs) (d ∷ ds) part fit fit' fit'' same =
    let behind = flat_map clause_words cs ++ map lit_text part in
    let one = clause_is_one c d behind (flat_map clause_words ds) (All-head (All IsWritableLit) c cs fit) (All-head (All IsWritableLit) d ds fit'')
    (sym (append_assoc (clause_words c) (flat_map clause_words cs) (map lit_text part) ∙ behind_clause c behind) ∙ same ∙ behind_clause d (flat_map clause_words ds)) in
    let first = one.0 in
    let others = clauses_are_one cs ds part (All-tail (All IsWritableLit) c cs fit) fit' (All-tail (All IsWritableLit) d ds fit'') one.1 in
    cc

-- what a word of clauses is, behind some of their words: a 0, or a literal of one of the clauses
pub data IsNext (vars_all : ℕ → Type 0) (word : List ℕ) : Type 0 where
  zero : word ≡ codes "0" → IsNext vars_all word
  lit : (l : Lit) → IsWritableLit l → word ≡ lit_text l → ((vars : ℕ) → vars_all vars → l.var < vars) → IsNext vars_all word

-- the next word of a clause
next_in_clause : (part c : List Lit) (word : List ℕ) (more rest : List (List ℕ)) → All IsWritableLit part → All IsWritableLit c → map lit_text part ++ word ∷ more ≡ map lit_text c ++ codes "0" ∷ rest → IsNext (λ vars. IsInRange vars c) word
next_in_clause [] [] word more rest fit fit' same = zero (cc)
next_in_clause [] (l ∷ c) word more rest fit fit' same = lit l (All-head IsWritableLit l c fit') (cc) (λ vars all. All-head (λ k. k.var < vars) l c all)
next_in_clause (l ∷ part) [] word more rest fit fit' same = absurd (zero_is_no_lit l (All-head IsWritableLit l part fit) (cc))
next_in_clause (l ∷ part) (k ∷ c) word more rest fit fit' same =
    weaker (next_in_clause part c word more rest (All-tail IsWritableLit l part fit) (All-tail IsWritableLit k c fit') (cc))
  where
    weaker : IsNext (λ vars. IsInRange vars c) word → IsNext (λ vars. IsInRange vars (k ∷ c)) word
    weaker (zero is) = zero is
    weaker (lit l fits is below) = lit l fits is (λ vars all. below vars (All-tail (λ k. k.var < vars) k c all))

-- the next word of clauses, behind whole ones and the first literals of one more
pub record IsNextOf (done clauses : List (List Lit)) (word : List ℕ) : Type 0 where
  pub fewer : length done < length clauses
  pub next : IsNext (λ vars. All (IsInRange vars) clauses) word

pub next_word : (done clauses : List (List Lit)) (part : List Lit) (word : List ℕ) (more : List (List ℕ)) → All (All IsWritableLit) done → All IsWritableLit part → All (All IsWritableLit) clauses
    → flat_map clause_words done ++ (map lit_text part ++ word ∷ more) ≡ flat_map clause_words clauses → IsNextOf done clauses word
next_word [] [] [] word more fit fit' fit'' same = absurd (cc)
next_word [] [] (l ∷ part) word more fit fit' fit'' same = absurd (cc)
next_word [] (c ∷ clauses) part word more fit fit' fit'' same = record {
  fewer = omega arith;
  next = weaker (next_in_clause part c word more (flat_map clause_words clauses) fit' (All-head (All IsWritableLit) c clauses fit'') (same ∙ behind_clause c (flat_map clause_words clauses)));
}
  where
    weaker : IsNext (λ vars. IsInRange vars c) word → IsNext (λ vars. All (IsInRange vars) (c ∷ clauses)) word
    weaker (zero is) = zero is
    weaker (lit l fits is below) = lit l fits is (λ vars all. below vars (All-head (IsInRange vars) c clauses all))
next_word (d ∷ done) [] part word more fit fit' fit'' same = absurd (nothing d (flat_map clause_words done) same)
  where
    nothing : (d : List Lit) (rest : List (List ℕ)) → (clause_words d ++ rest) ++ (map lit_text part ++ word ∷ more) ≡ [] → ⊥
    nothing [] rest same = cc
    nothing (l ∷ d) rest same = cc
next_word (d ∷ done) (c ∷ clauses) part word more fit fit' fit'' same =
    let behind = map lit_text part ++ word ∷ more in
    let one = clause_is_one d c (flat_map clause_words done ++ behind) (flat_map clause_words clauses) (All-head (All IsWritableLit) d done fit) (All-head (All IsWritableLit) c clauses fit'')
    (sym (append_assoc (clause_words d) (flat_map clause_words done) behind ∙ behind_clause d (flat_map clause_words done ++ behind)) ∙ same ∙ behind_clause c (flat_map clause_words clauses)) in
    let of = next_word done clauses part word more (All-tail (All IsWritableLit) d done fit) fit' (All-tail (All IsWritableLit) c clauses fit'') one.1 in
    record { fewer = omega (arith, of.fewer); next = weaker of.next }
  where
    weaker : IsNext (λ vars. All (IsInRange vars) clauses) word → IsNext (λ vars. All (IsInRange vars) (c ∷ clauses)) word
    weaker (zero is) = zero is
    weaker (lit l fits is below) = lit l fits is (λ vars all. below vars (All-tail (IsInRange vars) c clauses all))
