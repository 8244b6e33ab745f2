-- The steps of the search: from what it finds below one value more to what it finds below the choice.
use Rattle.std.proofs.Common.{◌≡◌, ℕ, ◌-◌, ◌<◌, ◌≤◌, zero, suc, Bool, true, false, Option, Some, List, [], ◌∷◌, ◌++◌, Result, Ok, Err, IfOk, length, get_or, replicate, take, refl, sym, ap, subst, ◌∙◌, arith, append_assoc, length-append}
use Rattle.std.proofs.lemmas.List.{length-replicate, take_all, get_or_default}
use Rattle.std.proofs.lemmas.Bool.{both_ways}
use Rattle.circuit.specs.declared.gate.Gate.{Gate}
use Rattle.circuit.specs.Value.{value_at, value, input_count}
use Rattle.cnf.specs.Order.{LexLe}
use Rattle.circuit.specs.Least.{Satisfies}
use Rattle.circuit.specs.Settled.{settled, settled_at}
use Rattle.circuit.specs.Support.{AgreeOn, IsSupport}
use Rattle.circuit.specs.Search.{IsLeastAfter, NoneAfter, Finds}
use Rattle.circuit.proofs.Settling.{length-settled, settled_is_value}

LexLe-false : (n : ℕ) (ys : List Bool) → length ys ≡ n → LexLe (replicate n false) ys
LexLe-false zero ys e = tt
LexLe-false (suc n) [] e = absurd (omega arith)
LexLe-false (suc n) (true ∷ ys) e = tt
LexLe-false (suc n) (false ∷ ys) e = LexLe-false n ys (omega arith)

length_apart : (chosen rest : List Bool) (n : ℕ) → length (chosen ++ rest) ≡ n → length rest ≡ n - length chosen
length_apart chosen rest n e = omega (arith, length-append chosen rest)

-- a settled root
pub found_settled : (gates : List Gate) (root : ℕ) (chosen : List Bool) → settled_at (settled gates chosen) root ≡ Some true → length chosen ≤ input_count gates →
    IsLeastAfter gates root chosen (chosen ++ replicate (input_count gates - length chosen) false)
found_settled gates root chosen e h =
    let n : ℕ = input_count gates - length chosen in
    record {
      rest = replicate n false;
      whole = refl;
      satisfies = record {
        count = omega (arith, length-append chosen (replicate n false), length-replicate n false);
        holds = settled_is_value gates chosen (replicate n false) root true e;
      };
      least = λ other s. LexLe-false n other (length_apart chosen other (input_count gates) s.count);
    }

pub none_settled : (gates : List Gate) (root : ℕ) (chosen : List Bool) → settled_at (settled gates chosen) root ≡ Some false → NoneAfter gates root chosen
none_settled gates root chosen e = λ rest s. both_ways (value gates (chosen ++ rest) root) (settled_is_value gates chosen rest root false e) s.holds

-- one value more, at the front of the rest
one_more : (gates : List Gate) (root : ℕ) (chosen : List Bool) (v : Bool) (other : List Bool) → Satisfies gates root (chosen ++ v ∷ other) → Satisfies gates root ((chosen ++ v ∷ []) ++ other)
one_more gates root chosen v other s = subst (Satisfies gates root) (sym (append_assoc chosen (v ∷ []) other)) s

not_all : (gates : List Gate) (root : ℕ) (chosen : List Bool) → length chosen < input_count gates → Satisfies gates root (chosen ++ []) → ⊥
not_all gates root chosen h s = omega (arith, s.count, length-append chosen [])

some_chosen : (gates : List Gate) (root : ℕ) (chosen inputs : List Bool) (v : Bool) → IsLeastAfter gates root (chosen ++ v ∷ []) inputs → length chosen < input_count gates
some_chosen gates root chosen inputs v f =
    let n = ap length f.whole in
    omega (arith, f.satisfies.count, length-append (chosen ++ v ∷ []) f.rest, length-append chosen (v ∷ []))

pub found_false : (gates : List Gate) (root : ℕ) (chosen inputs : List Bool) → IsLeastAfter gates root (chosen ++ false ∷ []) inputs → IsLeastAfter gates root chosen inputs
found_false gates root chosen inputs f =
    let below : (other : List Bool) → Satisfies gates root (chosen ++ other) → LexLe (false ∷ f.rest) other =
    λ other. elim other as (λ o. Satisfies gates root (chosen ++ o) → LexLe (false ∷ f.rest) o) [
      | [] ↦ λ s. absurd (not_all gates root chosen (some_chosen gates root chosen inputs false f) s)
      | v ∷ o ↦ elim v as (λ b. Satisfies gates root (chosen ++ b ∷ o) → LexLe (false ∷ f.rest) (b ∷ o)) [
        | true ↦ λ s. tt
        | false ↦ λ s. f.least o (one_more gates root chosen false o s)
      ]
    ] in
    record { rest = false ∷ f.rest; whole = f.whole ∙ append_assoc chosen (false ∷ []) f.rest; satisfies = f.satisfies; least = below }

pub found_true : (gates : List Gate) (root : ℕ) (chosen inputs : List Bool) → NoneAfter gates root (chosen ++ false ∷ []) → IsLeastAfter gates root (chosen ++ true ∷ []) inputs → IsLeastAfter gates root chosen inputs
found_true gates root chosen inputs none f =
    let below : (other : List Bool) → Satisfies gates root (chosen ++ other) → LexLe (true ∷ f.rest) other =
    λ other. elim other as (λ o. Satisfies gates root (chosen ++ o) → LexLe (true ∷ f.rest) o) [
      | [] ↦ λ s. absurd (not_all gates root chosen (some_chosen gates root chosen inputs true f) s)
      | v ∷ o ↦ elim v as (λ b. Satisfies gates root (chosen ++ b ∷ o) → LexLe (true ∷ f.rest) (b ∷ o)) [
        | true ↦ λ s. f.least o (one_more gates root chosen true o s)
        | false ↦ λ s. absurd (none o (one_more gates root chosen false o s))
      ]
    ] in
    record { rest = true ∷ f.rest; whole = f.whole ∙ append_assoc chosen (true ∷ []) f.rest; satisfies = f.satisfies; least = below }

pub none_both : (gates : List Gate) (root : ℕ) (chosen : List Bool) → length chosen < input_count gates → NoneAfter gates root (chosen ++ false ∷ []) → NoneAfter gates root (chosen ++ true ∷ []) → NoneAfter gates root chosen
none_both gates root chosen h p q = λ rest.
    elim rest as (λ o. Satisfies gates root (chosen ++ o) → ⊥) [
      | [] ↦ not_all gates root chosen h
      | v ∷ o ↦ elim v as (λ b. Satisfies gates root (chosen ++ b ∷ o) → ⊥) [
        | true ↦ λ s. q o (one_more gates root chosen true o s)
        | false ↦ λ s. p o (one_more gates root chosen false o s)
      ]
    ]

-- an input that cannot change the root
same_apart : (chosen rest : List Bool) (v w : Bool) (number : ℕ) → (number ≡ length chosen → ⊥) → value_at (chosen ++ v ∷ rest) number ≡ value_at (chosen ++ w ∷ rest) number
same_apart [] rest v w zero h = absurd (h refl)
same_apart [] rest v w (suc number) h = refl
same_apart (x ∷ chosen) rest v w zero h = refl
same_apart (x ∷ chosen) rest v w (suc number) h = same_apart chosen rest v w number (λ e. h (ap (λ n. suc n) e))

other_value : (gates : List Gate) (root : ℕ) (support chosen rest : List Bool) (v w : Bool) → IsSupport gates root chosen support → value_at support (length chosen) ≡ false →
    Satisfies gates root (chosen ++ v ∷ rest) → Satisfies gates root (chosen ++ w ∷ rest)
other_value gates root support chosen rest v w h off s =
    let agree : AgreeOn support (chosen ++ w ∷ rest) (chosen ++ v ∷ rest) =
    λ number needed. same_apart chosen rest w v number (λ e. both_ways (value_at support number) (ap (value_at support) e ∙ off) needed) in
    record {
      count = omega (arith, s.count, length-append chosen (v ∷ rest), length-append chosen (w ∷ rest));
      holds = h.enough (w ∷ rest) (v ∷ rest) agree ∙ s.holds;
    }

-- what cannot change the root where nothing is chosen cannot do so afterwards
pub support_after : (gates : List Gate) (root : ℕ) (support chosen : List Bool) → IsSupport gates root [] support → IsSupport gates root chosen support
support_after gates root support chosen h = record { count = h.count; enough = λ xs ys agree. h.enough (chosen ++ xs) (chosen ++ ys) agree }

none_unsupported : (gates : List Gate) (root : ℕ) (support chosen : List Bool) → IsSupport gates root chosen support → value_at support (length chosen) ≡ false → length chosen < input_count gates →
    NoneAfter gates root (chosen ++ false ∷ []) → NoneAfter gates root chosen
none_unsupported gates root support chosen h off few none =
    none_both gates root chosen few none (λ rest s.
    none rest (one_more gates root chosen false rest (other_value gates root support chosen rest true false h off (subst (Satisfies gates root) (append_assoc chosen (true ∷ []) rest) s))))

-- ---- what the functions of the search read and return
pub none_unneeded : (gates : List Gate) (root number : ℕ) (support chosen new : List Bool) → IsSupport gates root chosen support → number ≡ length new → value_at support number ≡ false → length chosen < input_count gates →
    NoneAfter gates root (chosen ++ false ∷ []) → new ≡ chosen → NoneAfter gates root chosen × (new ≡ chosen)
none_unneeded gates root number support chosen new h long off few none kept =
    (none_unsupported gates root support chosen h (ap (value_at support) (sym (long ∙ ap length kept)) ∙ off) few none, kept)

pub at_root : (gates : List Gate) (root : ℕ) (chosen : List Bool) (table : List (Option Bool)) (d o : Option Bool) → table ≡ settled gates chosen → root < length gates → get_or table root d ≡ o → settled_at (settled gates chosen) root ≡ o
at_root gates root chosen table d o e h r =
    let long = length-settled gates chosen in
    get_or_default (settled gates chosen) root (Some false) d (omega arith) ∙ ap (λ t. get_or t root d) (sym e) ∙ r

pub filled : (gates : List Gate) (root n : ℕ) (support chosen inputs : List Bool) → IsSupport gates root [] support → settled_at (settled gates chosen) root ≡ Some true → length chosen ≤ input_count gates → n ≡ length chosen →
    inputs ≡ take (length support) chosen ++ replicate (length support - n) false → IsLeastAfter gates root chosen inputs
filled gates root n support chosen inputs h e few m is =
    let count = h.count in
    let same : inputs ≡ chosen ++ replicate (input_count gates - length chosen) false =
    is ∙ ap (λ front. front ++ replicate (length support - n) false) (take_all (length support) chosen (omega arith))
    ∙ ap (λ k. chosen ++ replicate (k - n) false) count ∙ ap (λ k. chosen ++ replicate (input_count gates - k) false) m in
    subst (IsLeastAfter gates root chosen) (sym same) (found_settled gates root chosen e few)

-- after no inputs were found below false
pub second_choice : {E : Type 0} (gates : List Gate) (root : ℕ) (old mid new : List Bool) (r : Result Bool E) → length old < input_count gates → NoneAfter gates root (old ++ false ∷ []) → mid ≡ old →
    IfOk r (Finds gates root (mid ++ true ∷ []) mid new) → IfOk r (Finds gates root old old new)
second_choice gates root old mid new (Ok true) few none e h = found_true gates root old new none (let P : List Bool → Type 0 = λ m. IsLeastAfter gates root (m ++ true ∷ []) new in subst P e h)
second_choice gates root old mid new (Ok false) few none e h = (none_both gates root old few none (let P : List Bool → Type 0 = λ m. NoneAfter gates root (m ++ true ∷ []) in subst P e h.0), h.1 ∙ e)
second_choice gates root old mid new (Err x) few none e h = tt

-- below no choice at all
pub none_at_all : (gates mine : List Gate) (root place : ℕ) (start : List Bool) → mine ≡ gates → place ≡ root → start ≡ [] → NoneAfter mine place start → NoneAfter gates root []
none_at_all gates mine root place start e f h none =
    let P : List Gate → Type 0 = λ gs. NoneAfter gs root [] in
    let Q : ℕ → Type 0 = λ k. NoneAfter mine k [] in
    let R : List Bool → Type 0 = λ s. NoneAfter mine place s in
    subst P e (subst Q f (subst R h none))
