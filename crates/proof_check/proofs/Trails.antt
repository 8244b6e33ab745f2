-- A variable gets a value, and loses it again.
use Rattle.std.proofs.Common.{◌≡◌, ◌<◌, ◌+◌, Option, Some, None, length, replicate, set, get_or, take, ℕ, zero, suc, Bool, true, List, [], ◌∷◌, ◌++◌, arith, sym, ap, ◌∙◌, refl, subst}
use Rattle.std.specs.List.{All}
use Rattle.std.proofs.lemmas.List.{set-set, set-get_or, length-set, take_more, take_more_set, take-take, length-replicate}
use Rattle.std.proofs.lemmas.List.Elements.{All-push, All-take}
use Rattle.proof_check.specs.Inside.Trail.{released, unset_count, IsTrail}

released_last : (t : List (Option Bool)) (vars : List ℕ) (var : ℕ) → released t (vars ++ var ∷ []) ≡ released (set t var None) vars
released_last t [] var = refl
released_last t (v ∷ vars) var = ap (λ u. set u v None) (released_last t vars var)

one_less : (t : List (Option Bool)) (var : ℕ) (b : Bool) → var < length t → get_or t var None ≡ None → unset_count t ≡ 1 + unset_count (set t var (Some b))
one_less [] var b within free = absurd (omega arith)
one_less (None ∷ t) zero b within free = refl
one_less (Some x ∷ t) zero b within free = absurd (cc)
one_less (None ∷ t) (suc var) b within free = ap (λ n. 1 + n) (one_less t var b (omega arith) free)
one_less (Some x ∷ t) (suc var) b within free = one_less t var b (omega arith) free

all_free : (n : ℕ) → unset_count (replicate n None) ≡ n
all_free zero = refl
all_free (suc n) = let before = all_free n in omega (arith, before)

pub IsTrail-new : (n : ℕ) (trail : List ℕ) → length trail ≡ n → IsTrail (replicate n None) trail 0
IsTrail-new n trail places =
    let same : length (replicate {A = Option Bool} n None) ≡ n = length-replicate n None in
    record {
      places = places ∙ sym same;
      once = let free = all_free n in omega (arith, free, same);
      in_range = λ k d below. absurd (omega arith);
      every = ap (λ m. replicate m None) (sym same);
    }

pub place_left : (t : List (Option Bool)) (trail : List ℕ) (count var : ℕ) → IsTrail t trail count → var < length t → get_or t var None ≡ None → count < length trail
place_left t trail count var h within free =
    let less = one_less t var true within free in
    omega (arith, less, h.places, h.once)

pub IsTrail-set : (t : List (Option Bool)) (trail : List ℕ) (count var : ℕ) (b : Bool) → IsTrail t trail count → var < length t → get_or t var None ≡ None → IsTrail (set t var (Some b)) (set trail count var) (count + 1)
IsTrail-set t trail count var b h within free =
    let place : count < length trail = place_left t trail count var h within free in
    let front : take (count + 1) (set trail count var) ≡ take count trail ++ var ∷ [] = take_more_set trail count var place in
    let back : set (set t var (Some b)) var None ≡ t = set-set t var (Some b) None ∙ (ap (λ x. set t var x) (sym free) ∙ set-get_or t var None) in
    let long : length (set t var (Some b)) ≡ length t = length-set t var (Some b) in
    record {
      places = length-set trail count var ∙ h.places ∙ sym long;
      once = let less = one_less t var b within free in omega (arith, less, h.once, long);
      in_range = rw (front, long) (All-push (λ v. v < length t) (take count trail) var h.in_range within);
      every = rw (front, released_last (set t var (Some b)) (take count trail) var, back, long) h.every;
    }

-- while values are taken back, no count of free variables is kept
pub record IsReleasing (table : List (Option Bool)) (trail : List ℕ) (count : ℕ) : Type 0 where
  pub places : length trail ≡ length table
  pub within : count < length trail + 1
  pub in_range : All (λ var. var < length table) (take count trail)
  pub every : released table (take count trail) ≡ replicate (length table) None

pub IsReleasing-first : (t : List (Option Bool)) (trail : List ℕ) (count : ℕ) → IsTrail t trail count → IsReleasing t trail count
IsReleasing-first t trail count h = record {
  places = h.places;
  within = omega (arith, h.places, h.once);
  in_range = h.in_range;
  every = h.every;
}

pub IsReleasing-next : (t : List (Option Bool)) (trail : List ℕ) (count next var : ℕ) → IsReleasing t trail count → count ≡ next + 1 → var ≡ get_or trail next 0 → IsReleasing (set t var None) trail next
IsReleasing-next t trail count next var h e read =
    let place : next < length trail = omega (arith, h.within, e) in
    let front : take count trail ≡ take next trail ++ var ∷ [] = ap (λ n. take n trail) e ∙ take_more trail next 0 place ∙ ap (λ v. take next trail ++ v ∷ []) (sym read) in
    let long : length (set t var None) ≡ length t = length-set t var None in
    record {
      places = h.places ∙ sym long;
      within = omega (arith, place);
      in_range = rw long (subst (All (λ v. v < length t)) (take-take next count trail (omega (arith, e))) (All-take (λ v. v < length t) next (take count trail) h.in_range));
      every = rw long (sym (released_last t (take next trail) var) ∙ (ap (released t) (sym front) ∙ h.every));
    }

pub IsReleasing-end : (t : List (Option Bool)) (trail : List ℕ) (count : ℕ) → IsReleasing t trail count → count ≡ 0 → t ≡ replicate (length t) None
IsReleasing-end t trail count h e = ap (λ n. released t (take n trail)) (sym e) ∙ h.every

pub IsTrail-end : (t : List (Option Bool)) (trail : List ℕ) (count : ℕ) → IsReleasing t trail count → count ≡ 0 → IsTrail t trail count
IsTrail-end t trail count h e =
    let blank : t ≡ replicate (length t) None = IsReleasing-end t trail count h e in
    subst (IsTrail t trail) (sym e) (subst (λ u. IsTrail u trail 0) (sym blank) (IsTrail-new (length t) trail h.places))
