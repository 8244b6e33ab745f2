-- What is so of each live clause stays so as clauses come and go.
use Rattle.std.proofs.Common.{ℕ, zero, suc, Option, Some, None, IfSome, List, [], ◌∷◌, ◌++◌, map, set, get_or, ◌≡◌, ◌<◌, nat_lt, true, refl, arith}
use Rattle.std.specs.List.{All}
use Rattle.std.proofs.lemmas.Bool.{and_from, lt-ltb}
use Rattle.cnf.specs.Clauses.{IsInRange}
use Rattle.cnf.specs.declared.lit.Lit.{Lit}
use Rattle.proof_check.specs.Derivations.{Live, live_at, without, without_all, is_in_range}
use Rattle.proof_check.specs.Inside.Each.{Each}

pub Each-nil : (P : List Lit → Type 0) → Each P []
Each-nil P = record { at = λ place. tt }

pub Each-cons : (P : List Lit → Type 0) (o : Option (List Lit)) (live : Live) → IfSome o P → Each P live → Each P (o ∷ live)
Each-cons P o live here h =
    record { at = λ place. elim place as (λ k. IfSome (get_or (o ∷ live) k None) P) [ zero ↦ here | suc k ↦ h.at k ] }

pub Each-tail : (P : List Lit → Type 0) (o : Option (List Lit)) (live : Live) → Each P (o ∷ live) → Each P live
Each-tail P o live h = record { at = λ place. h.at (suc place) }

pub Each-at : (P : List Lit → Type 0) (live : Live) (number : ℕ) → Each P live → IfSome (live_at live number) P
Each-at P live zero h = tt
Each-at P live (suc n) h = h.at n

pub Each-hinted : (P : List Lit → Type 0) (live : Live) (hints : List ℕ) → Each P live → Each P (map (live_at live) hints)
Each-hinted P live [] h = Each-nil P
Each-hinted P live (n ∷ hints) h =
    Each-cons P (live_at live n) (map (live_at live) hints) (Each-at P live n h) (Each-hinted P live hints h)

pub Each-push : (P : List Lit → Type 0) (live : Live) (lits : List Lit) → Each P live → P lits → Each P (live ++ Some lits ∷ [])
Each-push P [] lits h here = Each-cons P (Some lits) [] here h
Each-push P (o ∷ live) lits h here =
    Each-cons P o (live ++ Some lits ∷ []) (h.at 0) (Each-push P live lits (Each-tail P o live h) here)

Each-set : (P : List Lit → Type 0) (live : Live) (place : ℕ) → Each P live → Each P (set live place None)
Each-set P [] place h = h
Each-set P (o ∷ live) zero h = Each-cons P None live tt (Each-tail P o live h)
Each-set P (o ∷ live) (suc n) h = Each-cons P o (set live n None) (h.at 0) (Each-set P live n (Each-tail P o live h))

pub Each-without : (P : List Lit → Type 0) (live : Live) (number : ℕ) → Each P live → Each P (without live number)
Each-without P live zero h = h
Each-without P live (suc n) h = Each-set P live n h

pub Each-without_all : (P : List Lit → Type 0) (live : Live) (numbers : List ℕ) → Each P live → Each P (without_all live numbers)
Each-without_all P live [] h = h
Each-without_all P live (n ∷ numbers) h = Each-without_all P (without live n) numbers (Each-without P live n h)

pub Each-given : (P : List Lit → Type 0) (clauses : List (List Lit)) → All P clauses → Each P (map Some clauses)
Each-given P [] h = Each-nil P
Each-given P (c ∷ cs) h =
    Each-cons P (Some c) (map Some cs) (h 0 [] (omega arith)) (Each-given P cs (λ k d below. h (suc k) d (omega arith)))

pub is_in_range-from : (vars : ℕ) (lits : List Lit) → IsInRange vars lits → is_in_range vars lits ≡ true
is_in_range-from vars [] h = refl
is_in_range-from vars (l ∷ ls) h =
    let here : l.var < vars = h 0 l (omega arith) in
    and_from (nat_lt l.var vars) (is_in_range vars ls) (lt-ltb l.var vars here) (is_in_range-from vars ls (λ k d below. h (suc k) d (omega arith)))
