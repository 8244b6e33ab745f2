-- Which reads of files in memory fail, and how often they have.
use Rattle.std.proofs.Common.{◌≡◌, ℕ, ◌+◌, ◌==◌, true, false, List, [], ◌∷◌, ◌++◌, length, Some, refl, cond, arith}
use Rattle.std.specs.List.{sum_by, list_any}
use Rattle.std.specs.Str.{bytes_eq}
use Rattle.std.proofs.lemmas.Bool.{false≢true}
use Rattle.std.proofs.lemmas.List.Sums.{sum_by-append}
use Rattle.std.proofs.lemmas.Slice.Eq.{bytes_eq-Decides}
use Rattle.mg_outside.specs.Memory.{HeldFiles, failures, bytes_under, read_is_to_fail}

-- one more failed read of the name
pub failures_more : (name : List ℕ) (failed : List (List ℕ)) → failures (failed ++ name ∷ []) name ≡ failures failed name + 1
failures_more name failed =
    let same : bytes_eq name name ≡ true = (bytes_eq-Decides name name).1 refl in
    let count : List ℕ → ℕ = λ other. cond (bytes_eq name other) 1 0 in
    let more : failures (failed ++ name ∷ []) name ≡ failures failed name + sum_by count (name ∷ []) = sum_by-append count failed (name ∷ []) in
    let one : ◌≡◌ {A = ℕ} (cond (bytes_eq name name) 1 0) 1 = rw same refl in
    omega (arith, more, one)

-- a read that nothing tells to fail, of a name that is there
pub is_not_to_fail : (files : HeldFiles) (name bytes : List ℕ) → list_any (λ number. number == length files.names + 1) files.failing ≡ false → Some bytes ≡ bytes_under name files.entries → read_is_to_fail files name ≡ true → ⊥
is_not_to_fail files name bytes told found fails = false≢true (rw (told, ← found) at fails)
